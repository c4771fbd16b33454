pub mod Maximum
pub mod Laying
pub mod Settling
