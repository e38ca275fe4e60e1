use Rattle.reader.proofs.Readings.{reads_all, reads_no_other, faults_stand, tells_large, tells_outside, refuses_long, opens_alike}
use Rattle.reader.proofs.Standing.{items_stand}
use Rattle.reader.proofs.laws.calls_stand.Goals as goal

pub returns : goal.returns
returns c = record {
  every = reads_all;
  only = reads_no_other;
  faults = faults_stand;
  large = tells_large;
  outside = tells_outside;
  stand = items_stand;
  long = refuses_long;
  alike = opens_alike;
}
