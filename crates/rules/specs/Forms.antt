-- The texts of rules: which text is which rule, and how a rule is written.
use Rattle.std.specs.Prelude.{◌≡◌, ℕ, ◌+◌, ◌-◌, ◌%◌, ◌^◌, ◌<◌, cond, ◌&&◌, List, [], ◌∷◌, ◌++◌, Ok, Err, Result, ◌==◌, nat_le}
use Rattle.std.specs.List.{range_with_len, flat_map}
use Rattle.rules.specs.Answers.{holds}
use Rattle.rules.specs.declared.rule.Rule.{Rule}
use Rattle.rules.specs.declared.fault.RuleFault.{RuleFault}
use Rattle.rules.specs.declared.fault.RuleFault.TheVariants.{Form, BirthZero}

-- a rule's two sets of bits, without the proofs of its limits
pub record Sets : Type 0 where
  pub births : ℕ
  pub survivals : ℕ

abbrev pub sets_of : Rule → Sets
sets_of r = record { births = r.births; survivals = r.survivals }

-- what an answer says of the rule that it holds
abbrev pub shown : Result Rule RuleFault → Result Sets RuleFault
shown (Ok r) = Ok (sets_of r)
shown (Err e) = Err e

-- digits read, as a set of bits, and the bytes after them
pub record Row : Type 0 where
  pub set : ℕ
  pub rest : List ℕ

-- the longest row of rising digits from `least` to 8 at the front of a text, put to the set of those before
unfoldable pub rising : ℕ → ℕ → List ℕ → Row
rising least set [] = record { set = set; rest = [] }
rising least set (b ∷ bs) = cond (nat_le (48 + least) b && nat_le b 56) (rising (b - 48 + 1) (set + 2 ^ (b - 48)) bs) (record { set = set; rest = b ∷ bs })

-- two sets are a rule unless births hold 0
abbrev pub quiet_only : ℕ → ℕ → Result Sets RuleFault
quiet_only births survivals = cond (births % 2 == 1) (Err BirthZero) (Ok (record { births = births; survivals = survivals }))

-- after the digits of survivals the text ends
unfoldable pub ended : ℕ → ℕ → List ℕ → Result Sets RuleFault
ended births survivals [] = quiet_only births survivals
ended births survivals (x ∷ xs) = Err Form

-- after the digits of births come `/S` and the digits of survivals
unfoldable pub divided : ℕ → List ℕ → Result Sets RuleFault
divided births [] = Err Form
divided births (x ∷ []) = Err Form
divided births (x ∷ y ∷ bs) = cond (x == 47 && y == 83) (ended births (rising 0 0 bs).set (rising 0 0 bs).rest) (Err Form)

-- the rule of a text, or why it is none: `B`, rising digits, `/S`, rising digits and nothing more
unfoldable pub parsed : List ℕ → Result Sets RuleFault
parsed [] = Err Form
parsed (b ∷ bs) = cond (b == 66) (divided (rising 0 0 bs).set (rising 0 0 bs).rest) (Err Form)

-- the digit d where a set holds it
abbrev pub digit_in : ℕ → ℕ → List ℕ
digit_in set d = cond (holds set d) ((48 + d) ∷ []) []

-- the digits of a set below n, rising
unfoldable pub digits_below : ℕ → ℕ → List ℕ
digits_below n set = flat_map (digit_in set) (range_with_len 0 n)

-- the written form of two sets
unfoldable pub written : ℕ → ℕ → List ℕ
written births survivals = 66 ∷ (digits_below 9 births ++ 47 ∷ 83 ∷ digits_below 9 survivals)

-- The texts that are rules are the written forms of rules, one for each rule; and those refused for
-- a birth digit 0 are the written forms whose births hold 0.
abbrev pub FormsStand : Type 0
FormsStand =
    ((b s : ℕ) → b < 512 → s < 512 → b % 2 ≡ 0 → parsed (written b s) ≡ Ok (record { births = b; survivals = s }))
    × ((b s : ℕ) → b < 512 → s < 512 → b % 2 ≡ 1 → parsed (written b s) ≡ Err BirthZero)
    × ((t : List ℕ) (b s : ℕ) → parsed t ≡ Ok (record { births = b; survivals = s }) → (b < 512) × (s < 512) × (b % 2 ≡ 0) × (t ≡ written b s))
    × ((t : List ℕ) → parsed t ≡ Err BirthZero → (b : ℕ) × (s : ℕ) × (b < 512) × (s < 512) × (b % 2 ≡ 1) × (t ≡ written b s))
