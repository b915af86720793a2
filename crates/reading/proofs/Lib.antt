-- The laws behind the proofs; `Decided` is what other crates use.
pub mod BlocksRead
pub mod SheetLayout
pub mod Decided
