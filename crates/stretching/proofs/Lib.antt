pub mod Examining
pub mod Subtrees
pub mod Outcomes
pub mod StretchLaws
pub mod CallLaws
pub mod Openings
pub mod HeldLaws
pub mod Reading
