-- The first rank whose class is unknown: from one rank on, of all, and as the search's definition says it.
use Rattle.std.proofs.Common.{◌≡◌, ℕ, zero, suc, ◌<◌, true, false, List, [], ◌∷◌, map, length, get_or, Some, None, refl, sym, ap, ◌∙◌, inl, inr, arith}
use Rattle.std.proofs.lemmas.List.{ext_get_or}
use Rattle.std.proofs.lemmas.Bool.{cases_lt}
use lib.ListN.{length-map}
use Rattle.codes.specs.declared.value.Value.{Value}
use Rattle.codes.specs.declared.value.Value.TheVariants.{Off, On, Unknown}
use Rattle.codes.specs.Codes.{is_unknown}
use Rattle.codes.specs.Laws.{known}
use Rattle.systems.specs.Systems.{Sys, at, Below, Proper}
use Rattle.systems.proofs.Base.{never, known_unknown, view, get_d_in}
use Rattle.systems.proofs.Solutions.{at_map}
use Rattle.histories.specs.Searches.{first_unknown}
use Rattle.histories.proofs.Deciding.{first_at_rank}
use Rattle.search.specs.Stacks.{FirstFrom, FirstRank, find_in, is_on, ranked}

pub is_unknown_true : (w : Value) → is_unknown w ≡ true → w ≡ Unknown
is_unknown_true Off e = never (cc)
is_unknown_true On e = never (cc)
is_unknown_true Unknown e = refl

pub is_unknown_false : (w : Value) → is_unknown w ≡ false → w ≡ Unknown → ⊥
is_unknown_false Unknown e q = never (cc)
is_unknown_false Off e q = known_unknown false q
is_unknown_false On e q = known_unknown true q

pub known_false : (w : Value) → (w ≡ Unknown → ⊥) → is_unknown w ≡ false
known_false Off h = refl
known_false On h = refl
known_false Unknown h = absurd (h refl)

-- ---- of all ranks
module _ (v : ℕ → Value) (order : List ℕ) where
  pub first_of_all : (from rank : ℕ) → ((k : ℕ) → k < from → is_unknown (v (ranked order k)) ≡ false) → FirstFrom v order from (Some rank) → FirstRank v order rank
  first_of_all from rank h f =
      record {
        there = f.1;
        unknown = f.2;
        known_before = λ k l. elim (cases_lt k from) [ inl m ↦ h k m | inr m ↦ f.3 k m l ];
      }

  -- the first rank as the search's definition says it
  pub rank_first : (rank : ℕ) → FirstRank v order rank → first_unknown v order ≡ Some (ranked order rank)
  rank_first rank f = first_at_rank v order rank f.there (is_unknown_true _ f.unknown) (λ j l. is_unknown_false _ (f.known_before j l))

-- ---- all classes known
known_on : (w : Value) → is_unknown w ≡ false → w ≡ known (is_on w)
known_on Off e = refl
known_on On e = refl
known_on Unknown e = never (cc)

-- where no rank has an unknown class, and what was known from the start still is, all classes are known
pub none_full : (S : Sys) → Proper S → (σ : List Value) → length σ ≡ length S.start → Below (at S.start) (at σ) →
    (from : ℕ) → ((k : ℕ) → k < from → is_unknown (at σ (ranked S.order k)) ≡ false) → FirstFrom (at σ) S.order from None → σ ≡ map known (find_in σ)
none_full S proper σ long below from h none =
    ext_get_or Unknown σ (map known (find_in σ)) (sym (length-map (find_in σ) known ∙ length-map σ is_on)) by
  where
    all_known : (k : ℕ) → k < length S.order → is_unknown (at σ (ranked S.order k)) ≡ false
    all_known k l = elim (cases_lt k from) [ inl m ↦ h k m | inr m ↦ none k m l ]

    at_known : (x : ℕ) → x < length σ → is_unknown (at σ x) ≡ false
    at_known x l =
        elim (view (at S.start x)) [
          | inl u ↦ (let q = get_d_in S.order 0 x (proper.choosable x (omega arith) u) in
              ap (λ (y : ℕ). is_unknown (at σ y)) (sym q.2) ∙ all_known q.0 q.1)
          | inr b ↦ known_false (at σ x) (λ e. known_unknown b.0 (sym (below x b.0 b.1) ∙ e))
        ]

    on_at : (ws : List Value) (x : ℕ) → x < length ws → get_or (find_in ws) x false ≡ is_on (at ws x)
    on_at [] x l = absurd (omega arith)
    on_at (w ∷ ws) zero l = refl
    on_at (w ∷ ws) (suc x) l = on_at ws x (omega arith)

    by : (x : ℕ) → x < length σ → get_or σ x Unknown ≡ get_or (map known (find_in σ)) x Unknown
    by x l =
        known_on (at σ x) (at_known x l)
        ∙ ap known (sym (on_at σ x l))
        ∙ sym (at_map (find_in σ) x (omega (arith, length-map σ is_on)))
