pub mod Tallest
