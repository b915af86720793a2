-- The calls: what they answer, what the lent store then holds, the demands on both, and the rows P1 to P10 of the bench table.
pub mod Answer
pub mod Store
pub mod SheetRun
pub mod Speed
pub mod Set
pub mod Demands
pub mod Bench
