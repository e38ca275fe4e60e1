pub mod Again
pub mod Calls
pub mod Fronts
pub mod Numerals
pub mod Parts
pub mod Places
pub mod Readings
pub mod Standing
