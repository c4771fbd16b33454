pub mod Claim
pub mod Replay
