pub mod Forms
pub mod Laws
pub mod Words
