use Rattle.rle.proofs.Reading.{reads_every, reads_only}
use Rattle.rle.proofs.Stopping.{stops_at_fault}
use Rattle.rle.proofs.Stops.{stops_at_large, stops_outside, stops_once, ends_or_stops}
use Rattle.rle.proofs.Places.{places_count}
use Rattle.rle.proofs.laws.reading_stands.Goals as goal

pub returns : goal.returns
returns c = record {
  every = reads_every;
  only = reads_only;
  always = ends_or_stops;
  faults = stops_at_fault;
  large = stops_at_large;
  outside = stops_outside;
  once = stops_once;
  placed = places_count;
}
