-- The laws of a reader's calls, one after another.
use Rattle.rle.specs.declared.fault.ReadCause.TheVariants.{Size, Outside}
use Rattle.reader.specs.Readings.{ReadsAll, ReadsNoOther, FaultsStand, TellsFault, RefusesLong, OpensAlike}
use Rattle.reader.specs.Standing.{ItemsStand}

pub record CallLaws : Type 0 where
  pub every : ReadsAll
  pub only : ReadsNoOther
  pub faults : FaultsStand
  pub large : TellsFault Size
  pub outside : TellsFault Outside
  pub stand : ItemsStand
  pub long : RefusesLong
  pub alike : OpensAlike
