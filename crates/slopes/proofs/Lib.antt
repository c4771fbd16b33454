mod Walk
pub mod NeighbourLaws
pub mod LevelLaws
pub mod Descent
pub mod SlopeLaws
pub mod TenLaws
pub mod Backward
pub mod Examples
