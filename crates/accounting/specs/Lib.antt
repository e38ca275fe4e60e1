pub mod Accounts
pub mod Rooms
