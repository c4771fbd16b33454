pub mod Turns
pub mod Listing
pub mod EachLaws
