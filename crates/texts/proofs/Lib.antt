pub mod Leads
pub mod Lengths
pub mod Rows
pub mod Groups
pub mod Puts
