pub mod Asked
pub mod Worked
pub mod Laws
