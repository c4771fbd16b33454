pub mod Fitting
pub mod Inspecting
