pub mod Aligned
pub mod Aligning
pub mod AlignLaws
pub mod NarrowLaws
