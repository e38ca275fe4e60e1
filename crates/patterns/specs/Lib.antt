pub mod Told
pub mod Laid
pub mod Places
pub mod Laws
