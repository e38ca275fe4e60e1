pub mod Covering
pub mod Faults
pub mod Placing
pub mod Telling
pub mod Whole
