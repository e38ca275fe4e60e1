pub mod Counted
pub mod Going
pub mod Held
pub mod Indexed
pub mod Start
