-- The laws behind the proofs; `Theorems` is what other crates use.
pub mod Sizes
pub mod Accepted
pub mod Cleaned
pub mod Fits
pub mod ReadBack
pub mod WriteBack
pub mod Theorems
