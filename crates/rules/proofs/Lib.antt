pub mod Sets
pub mod Forms
pub mod Steps
