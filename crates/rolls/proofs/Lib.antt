pub mod Below
pub mod Chains
pub mod Dictionary
pub mod Generations
pub mod Worked
pub mod Margins
