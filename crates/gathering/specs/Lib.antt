pub mod Bounds
pub mod Rendering
pub mod Systems
