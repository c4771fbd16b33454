pub mod Saved
pub mod TreeFile
pub mod Parts
