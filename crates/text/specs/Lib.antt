pub mod Text
pub mod Parts
pub mod Writing
