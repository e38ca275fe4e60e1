pub mod Keeping
pub mod Noting
pub mod Places
pub mod Spots
pub mod Tied
