pub mod Decided
pub mod Going
mod Made
