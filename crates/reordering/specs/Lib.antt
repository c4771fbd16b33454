pub mod Reordering
pub mod EachOrder
