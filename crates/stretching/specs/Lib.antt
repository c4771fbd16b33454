pub mod Stretching
pub mod Stretches
pub mod Calls
pub mod Parts
