pub mod Accepting
pub mod Verdicts
pub mod Worked
