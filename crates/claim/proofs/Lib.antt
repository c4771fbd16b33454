pub mod Replaying
pub mod ClaimLaws
