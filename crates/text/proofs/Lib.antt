pub mod Spelling
pub mod Listing
pub mod TextLaws
