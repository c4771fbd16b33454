pub mod Arranged
pub mod Arranging
pub mod Parts
