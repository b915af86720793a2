-- A component's block.
pub mod Rows
pub mod Block
