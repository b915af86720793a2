-- What a plan is written as.
pub mod Writing
