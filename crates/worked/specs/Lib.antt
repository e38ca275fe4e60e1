pub mod Block
pub mod Codes
pub mod Worked
