pub mod Asked
pub mod Faults
pub mod Histories
pub mod Kinds
pub mod Laws
pub mod Ledgers
