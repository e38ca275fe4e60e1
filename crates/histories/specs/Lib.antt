pub mod Examples
pub mod Going
pub mod Laws
pub mod Listed
pub mod Searches
