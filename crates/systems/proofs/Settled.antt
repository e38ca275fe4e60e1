-- The laws of settling.
use Rattle.std.proofs.Common.{◌≡◌, ◌⊎◌, List, Some, None, Option, inl, inr}
use Rattle.codes.specs.declared.value.Value.{Value}
use Rattle.systems.specs.Systems.{Sys}
use Rattle.systems.specs.Settling.{Settles, Meets, settled}
use Rattle.systems.specs.Laws.{SettlingLaws}
use Rattle.systems.proofs.Settle.{settles_least, meets_dead, least_one, least_dead, least_then, dead_then}
use Rattle.systems.proofs.Looking.{Comes, settled_comes, step_fewer}

module _ (S : Sys) (ρ : List Value) where
  ends_so : (o : Option (List Value)) → Comes S ρ o → ((σ : List Value) × Settles S ρ σ) ⊎ Meets S ρ
  unfolding Comes
  ends_so None c = inr c
  ends_so (Some σ) c = inl (σ, c)

  is_settled : (o : Option (List Value)) (σ : List Value) → Comes S ρ o → o ≡ Some σ → Settles S ρ σ
  unfolding Comes
  is_settled o σ c e = rw e at c

  is_dead : (o : Option (List Value)) → Comes S ρ o → o ≡ None → Meets S ρ
  unfolding Comes
  is_dead o c e = rw e at c

pub settling_laws : SettlingLaws
settling_laws =
    record {
      fewer = λ S proper ρ ρ' l s. step_fewer S proper ρ ρ' l s;
      ends = λ S proper ρ l. ends_so S ρ (settled S ρ) (settled_comes S proper ρ l);
      comes_least = λ S ρ σ s. settles_least S s;
      comes_dead = λ S ρ m. meets_dead S m;
      one = λ S ρ σ τ s t. least_one S (settles_least S s) (settles_least S t);
      not_both = λ S ρ σ s m. least_dead S (settles_least S s) (meets_dead S m);
      again = λ S ρ σ τ x b u l s t. least_then S ρ σ x b u l s τ t;
      again_dead = λ S ρ σ x b u l s d. dead_then S ρ σ x b u l s d;
      computed = λ S proper ρ σ l e. is_settled S ρ (settled S ρ) σ (settled_comes S proper ρ l) e;
      computed_dead = λ S proper ρ l e. is_dead S ρ (settled S ρ) (settled_comes S proper ρ l) e;
    }
