pub mod Fixing
pub mod Imaging
pub mod Layering
pub mod Remainders
pub mod Worked
