pub mod Cells
pub mod Limits
