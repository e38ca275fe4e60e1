pub mod Examples
pub mod Joined
pub mod Laws
pub mod Margins
pub mod Rolls
