pub mod Faults
pub mod Handing
