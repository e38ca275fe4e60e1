pub mod Keys
pub mod Numbers
pub mod Signed
pub mod Steps
