mod Calls
mod Decided
pub mod Finds
mod Onward
mod Opened
mod Ranks
mod Settled
mod Turned
mod Walks
