pub mod Loading
pub mod Opening
pub mod Encoding
pub mod FileLaws
