-- The laws of words: a word that comes next is given and passed, and where none does nothing is passed; the words that are numbers
-- are the written forms of their numbers; and a value is what follows its key and a blank.
use Rattle.std.specs.Prelude.{◌≡◌, ℕ, List, Some, None, ℤ}
use Rattle.words.specs.Forms.{Digits, KeyAndValue, NoWord, SignedDigits, WordNext}
use Rattle.words.specs.Words.{next_word, number_of, signed_of, value_after, word_left}

pub record WordLaws : Type 0 where
  pub word_read : (word rest line : List ℕ) → WordNext word rest line → (next_word line ≡ Some (record { value = word; rest = rest })) × (word_left line ≡ rest)
  pub word_only : (word rest line : List ℕ) → next_word line ≡ Some (record { value = word; rest = rest }) → WordNext word rest line
  pub word_missing : (line : List ℕ) → NoWord line → (next_word line ≡ None) × (word_left line ≡ line)
  pub number_read : (word : List ℕ) (n : ℕ) → Digits n word → number_of word ≡ Some n
  pub number_only : (word : List ℕ) (n : ℕ) → number_of word ≡ Some n → Digits n word
  pub signed_read : (word : List ℕ) (z : ℤ) → SignedDigits z word → signed_of word ≡ Some z
  pub signed_only : (word : List ℕ) (z : ℤ) → signed_of word ≡ Some z → SignedDigits z word
  pub value_read : (key value line : List ℕ) → KeyAndValue key value line → value_after key line ≡ Some value
  pub value_only : (key value line : List ℕ) → value_after key line ≡ Some value → KeyAndValue key value line
