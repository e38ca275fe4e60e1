pub mod Codes
pub mod Commons
pub mod Laws
pub mod Life
pub mod Parts
pub mod Tables
pub mod Values
