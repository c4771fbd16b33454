pub mod Answers
pub mod ChainLaws
pub mod TallestLaws
