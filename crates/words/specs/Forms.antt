-- How the words of a line are written.
use Rattle.std.specs.Prelude.{◌≡◌, ℕ, suc, ◌<◌, ◌≤◌, true, false, List, [], ◌∷◌, ◌++◌, length, get_or, decimal, ℤ, pos, negsuc}
use Rattle.lines.specs.Lines.{blank}

-- the decimal digits of a number from 0 to 9,999
abbrev pub Digits : ℕ → List ℕ → Type 0
Digits n word = (n ≤ 9999) × (word ≡ decimal n)

-- the same, with `-` before those of a number below 0
abbrev pub SignedDigits : ℤ → List ℕ → Type 0
SignedDigits (pos n) word = Digits n word
SignedDigits (negsuc n) word = (n < 9999) × (word ≡ 45 ∷ decimal (suc n))

-- words, with any one blank before each
abbrev pub Spaced : List (List ℕ) → List ℕ → Type 0
Spaced [] rest = rest ≡ []
Spaced (w ∷ ws) rest = (b : ℕ) × (more : List ℕ) × (blank b ≡ true) × (rest ≡ b ∷ (w ++ more)) × Spaced ws more

-- no blank stands in it
abbrev pub Solid : List ℕ → Type 0
Solid word = (k : ℕ) → k < length word → blank (get_or word k 0) ≡ false

-- a word comes next: any one blank, and then the word, which goes on up to the next blank or to the end
pub record WordNext (word rest line : List ℕ) : Type 0 where
  pub mark : ℕ
  pub is_blank : blank mark ≡ true
  pub whole : line ≡ mark ∷ (word ++ rest)
  pub solid : Solid word
  pub ends : 0 < length rest → blank (get_or rest 0 0) ≡ true

-- no word comes next: the line is over, or no blank stands at its front
abbrev pub NoWord : List ℕ → Type 0
NoWord line = 0 < length line → blank (get_or line 0 0) ≡ false

-- a key, and words after it
abbrev pub KeyAndWords : List ℕ → List (List ℕ) → List ℕ → Type 0
KeyAndWords key words line = (rest : List ℕ) × (line ≡ key ++ rest) × Spaced words rest

-- a key, any one blank, and a value of any bytes
abbrev pub KeyAndValue : List ℕ → List ℕ → List ℕ → Type 0
KeyAndValue key value line = (b : ℕ) × (blank b ≡ true) × (line ≡ key ++ (b ∷ value))
