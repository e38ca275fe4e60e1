-- The number and the words of each fault of a listing.
use Rattle.std.specs.Prelude.{ℕ, List, Some, None, codes, Option}
use Rattle.pages.specs.Faults.{number_of as page_number}
use Rattle.calls.specs.Faults.{number_of}
use Rattle.listing.specs.declared.fault.ListFault.{ListFault}
use Rattle.listing.specs.declared.fault.ListFault.TheVariants as listing

-- a call's refusal keeps its number, want of memory has none, and a sink that takes no more has none
abbrev pub list_number : ListFault → Option ℕ
list_number (listing.Call fault) = number_of fault
list_number (listing.Foot fault) = Some (page_number fault)
list_number listing.Closed = None

-- what is printed of each
abbrev pub list_words : ListFault → List ℕ
list_words (listing.Call fault) = codes "the search was refused"
list_words (listing.Foot fault) = codes "the search was refused"
list_words listing.Closed = codes "the output is closed"
