pub mod Pages
pub mod Runs
pub mod Verdicts
pub mod Written
