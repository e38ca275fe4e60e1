pub mod Faults
pub mod Frames
pub mod Limits
pub mod Numbers
pub mod Radix
