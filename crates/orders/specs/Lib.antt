pub mod Orders
pub mod Sequences
pub mod Turns
