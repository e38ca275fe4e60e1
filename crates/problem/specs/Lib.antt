pub mod Causes
pub mod Faults
pub mod Forms
pub mod Laws
pub mod Lines
pub mod Reading
pub mod Written
