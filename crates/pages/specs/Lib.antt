pub mod Faults
pub mod Pages
