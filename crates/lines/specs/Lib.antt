pub mod Ends
pub mod Given
pub mod Lines
