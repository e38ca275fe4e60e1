pub mod Again
pub mod Calls
pub mod Laws
pub mod Left
pub mod Readings
pub mod Shown
pub mod Standing
