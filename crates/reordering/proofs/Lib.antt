pub mod ReorderLaws
pub mod EachOrderLaws
