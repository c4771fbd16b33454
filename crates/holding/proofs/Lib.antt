pub mod Marked
pub mod HoldLaws
