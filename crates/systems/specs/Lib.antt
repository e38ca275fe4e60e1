pub mod Alike
pub mod Laws
pub mod Settling
pub mod Spaces
pub mod Systems
pub mod Trails
