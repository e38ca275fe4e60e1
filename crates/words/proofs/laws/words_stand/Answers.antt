use Rattle.words.proofs.Numbers.{digits_number, number_digits}
use Rattle.words.proofs.Signed.{signed_only, signed_read, value_only, value_read}
use Rattle.words.proofs.Steps.{word_missing, word_read, word_was}
use Rattle.words.proofs.laws.words_stand.Goals as goal

pub returns : goal.returns
returns c = record {
  word_read = word_read;
  word_only = word_was;
  word_missing = word_missing;
  number_read = digits_number;
  number_only = number_digits;
  signed_read = signed_read;
  signed_only = signed_only;
  value_read = value_read;
  value_only = value_only;
}
