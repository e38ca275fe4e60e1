-- Bytes that are a first part of others, as a reader gives them and a writer takes them.
use Rattle.std.proofs.Common.{◌≡◌, ℕ, ◌-◌, List, [], ◌++◌, None, Some, IfSome, Option, sym, ap, ◌∙◌, append_assoc, append-nil, length, take, drop, take-append-drop}
use Rattle.std.specs.Option.{option_map}
use Rattle.std.specs.Io.KnownBytes.{Appends, Keeps}
use Rattle.std.proofs.KnownBytes.{Appends-kept, Appends-nil, Appends-trans}
use Rattle.std.proofs.lemmas.List.{take_rest}
use Rattle.running.specs.Written.{AppendsPart, Took}

-- what was read of the first bytes of an input
pub read_of : (known : Option (List ℕ)) (limit : ℕ) (old new : List ℕ) → limit ≡ 65537 → old ≡ [] → IfSome (option_map (take limit) known) (λ xs. new ≡ old ++ xs) → IfSome known (λ all. new ≡ take 65537 all)
read_of None limit old new l o h = tt
read_of (Some all) limit old new l o h = h ∙ ap (λ (o : List ℕ). o ++ take limit all) o ∙ ap (λ (n : ℕ). take n all) l

-- n bytes more are gone from the rest
pub moves_front : (all done rest : List ℕ) (n : ℕ) → all ≡ done ++ rest → all ≡ (done ++ take n rest) ++ take (length rest - n) (drop n rest)
moves_front all done rest n e =
    e ∙ ap (λ l. done ++ l) (sym (take-append-drop n rest)) ∙ sym (append_assoc done (take n rest) (drop n rest)) ∙ ap (λ l. (done ++ take n rest) ++ l) (sym (take_rest rest n))

-- nothing more was written after a first part
pub part_kept : (a b c : Option (List ℕ)) {all : List ℕ} (done rest : List ℕ) → all ≡ done ++ rest → Appends a b done → Keeps b c → AppendsPart a c all
part_kept a b c done rest split appended kept = record { part = done; rest = rest; whole = sym split; grown = Appends-kept a b c done appended kept }

-- all was written
pub part_all : (a b c : Option (List ℕ)) (all : List ℕ) → Appends a b all → Keeps b c → AppendsPart a c all
part_all a b c all appended kept = part_kept a b c all [] (sym (append-nil all)) appended kept

-- a first part of what comes first is one of the whole
pub part_before : (a b : Option (List ℕ)) (held text : List ℕ) → AppendsPart a b held → AppendsPart a b (held ++ text)
part_before a b held text p = record {
  part = p.part;
  rest = p.rest ++ text;
  whole = sym (append_assoc p.part p.rest text) ∙ ap (λ (held : List ℕ). held ++ text) p.whole;
  grown = p.grown;
}

-- what comes first was written, and a first part of the rest
pub part_after : (a b c : Option (List ℕ)) (held text : List ℕ) → Appends a b held → AppendsPart b c text → AppendsPart a c (held ++ text)
part_after a b c held text appended p = record {
  part = held ++ p.part;
  rest = p.rest;
  whole = append_assoc held p.part p.rest ∙ ap (λ (text : List ℕ). held ++ text) p.whole;
  grown = Appends-trans a b c held p.part appended p.grown;
}

-- a text is held back
pub took_held : (a : Option (List ℕ)) (held text left : List ℕ) → left ≡ held ++ text → Took a held text a left
took_held a held text left e = record { part = []; whole = e; grown = Appends-nil a }

-- what was held back is passed on, and the text is held back
pub took_fresh : (a b : Option (List ℕ)) (held text left : List ℕ) → Appends a b held → left ≡ text → Took a held text b left
took_fresh a b held text left appended e = record { part = held; whole = ap (λ (text : List ℕ). held ++ text) e; grown = appended }

-- what was held back is passed on, and so is the text
pub took_passed : (a b c : Option (List ℕ)) (held text left : List ℕ) → Appends a b held → Appends b c text → left ≡ [] → Took a held text c left
took_passed a b c held text left first second e = record {
  part = held ++ text;
  whole = ap (λ (left : List ℕ). (held ++ text) ++ left) e ∙ append-nil (held ++ text);
  grown = Appends-trans a b c held text first second;
}
