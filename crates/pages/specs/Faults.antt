-- The number of each refusal of a page.
use Rattle.std.specs.Prelude.{ℕ}
use Rattle.pages.specs.declared.fault.PageFault.{PageFault}
use Rattle.pages.specs.declared.fault.PageFault.TheVariants.{Short}

abbrev pub number_of : PageFault → ℕ
number_of Short = 15
