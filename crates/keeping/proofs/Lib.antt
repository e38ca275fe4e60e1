pub mod Firsts
pub mod Looks
pub mod Grown
pub mod Broken
pub mod Following
