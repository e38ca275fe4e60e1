pub mod AskingLemmas
pub mod JudgingLemmas
pub mod Pages
pub mod Parts
pub mod Printing
pub mod RunLemmas
pub mod Texts
