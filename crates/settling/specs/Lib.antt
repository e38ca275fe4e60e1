pub mod Boards
pub mod Counts
pub mod Knowing
