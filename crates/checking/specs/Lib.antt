pub mod Checked
pub mod Faults
pub mod Laws
pub mod Verdicts
pub mod Examples
