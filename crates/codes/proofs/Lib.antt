pub mod Bits
mod Completions
pub mod Knowing
mod LifeRule
mod Only
pub mod Pairs
pub mod Tables
