pub mod Findings
pub mod Monotone
pub mod MonotoneLaws
pub mod Plane
pub mod PathEdges
pub mod Cones
pub mod Parts
