-- What the words of a line are, and which numbers words are.
use Rattle.std.specs.Prelude.{ℕ, zero, suc, cond, ◌&&◌, List, [], ◌∷◌, take, drop, Some, None, Option, decimal, bytes_eq, nat_le, ◌==◌, ℤ, pos, negsuc}
use Rattle.std.specs.Borrow.{Bor}
use Rattle.std.specs.List.{position_or_len}
use Rattle.std.specs.Str.Parse.{digits_value}
use Rattle.lines.specs.Lines.{blank}
use Rattle.words.specs.declared.words.Words.{Words}

-- a value that stands at the front of a line's rest, and what follows it
pub record Got (A : Type 0) : Type 0 where
  pub value : A
  pub rest : List ℕ

-- a value with what follows it, where there is one
abbrev pub given : {A : Type 0} → Option A → List ℕ → Option (Got A)
given None rest = None
given (Some value) rest = Some (record { value = value; rest = rest })

-- one part of a line after another; nothing where one is missing
abbrev pub and_then : {A B : Type 0} → Option (Got A) → (A → List ℕ → Option B) → Option B
and_then None next = None
and_then (Some got) next = next got.value got.rest

-- the bytes that are lent
abbrev pub seen : Option (Bor (List ℕ)) → Option (List ℕ)
seen None = None
seen (Some bytes) = Some bytes.now

-- what follows a key that stands at the front
unfoldable pub after_key : List ℕ → List ℕ → Option (List ℕ)
after_key [] line = Some line
after_key (k ∷ ks) [] = None
after_key (k ∷ ks) (b ∷ bs) = cond (b == k) (after_key ks bs) None

-- what follows a blank that stands at the front
abbrev pub after_blank : List ℕ → Option (List ℕ)
after_blank [] = None
after_blank (b ∷ bs) = cond (blank b) (Some bs) None

-- the same, where anything is left
abbrev pub blank_passed : Option (List ℕ) → Option (List ℕ)
blank_passed None = None
blank_passed (Some bytes) = after_blank bytes

-- all that follows a key and one blank
abbrev pub value_after : List ℕ → List ℕ → Option (List ℕ)
value_after key line = blank_passed (after_key key line)

-- the words that follow a key are gone through from there
abbrev pub left : Option Words → Option (List ℕ)
left None = None
left (Some words) = Some words.rest.now

-- the word at the front, up to the next blank or to the end
abbrev pub cut : Option (List ℕ) → Option (Got (List ℕ))
cut None = None
cut (Some bytes) = Some (record { value = take (position_or_len blank bytes) bytes; rest = drop (position_or_len blank bytes) bytes })

-- a blank, and the word that follows it
abbrev pub next_word : List ℕ → Option (Got (List ℕ))
next_word line = cut (after_blank line)

-- what is left of a line once its next word was asked for: what follows that word; the whole line where no word comes next
abbrev pub left_of : List ℕ → Option (Got (List ℕ)) → List ℕ
left_of line None = line
left_of line (Some got) = got.rest

abbrev pub word_left : List ℕ → List ℕ
word_left line = left_of line (next_word line)

-- the number from 0 to 9,999 whose decimal digits a word is
unfoldable pub number_of : List ℕ → Option ℕ
number_of word = cond (nat_le (digits_value 10 word) 9999 && bytes_eq (decimal (digits_value 10 word)) word) (Some (digits_value 10 word)) None

-- a number that is not below 0
abbrev pub whole : Option ℕ → Option ℤ
whole None = None
whole (Some n) = Some (pos n)

-- a number below 0, by its digits
abbrev pub below_zero : Option ℕ → Option ℤ
below_zero None = None
below_zero (Some zero) = None
below_zero (Some (suc n)) = Some (negsuc n)

-- a word's number, by the digits after a `-` that it starts with
abbrev pub signed_by : List ℕ → Option (List ℕ) → Option ℤ
signed_by word None = whole (number_of word)
signed_by word (Some digits) = below_zero (number_of digits)

-- the number of a word, with `-` before its digits where it is below 0
abbrev pub signed_of : List ℕ → Option ℤ
signed_of word = signed_by word (after_key (45 ∷ []) word)

-- a number is the next word
abbrev pub next_number : List ℕ → Option (Got ℕ)
next_number line = and_then (next_word line) (λ word rest. given (number_of word) rest)

-- the same, with `-` where it is below 0
abbrev pub next_signed : List ℕ → Option (Got ℤ)
next_signed line = and_then (next_word line) (λ word rest. given (signed_of word) rest)
