pub mod PostNumbers
pub mod PostNumberLaws
pub mod Examples
