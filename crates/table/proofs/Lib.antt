pub mod FirstSlots
pub mod Seats
pub mod Marks
pub mod Validation
pub mod Walks
pub mod NumberingLaws
pub mod Postorder
