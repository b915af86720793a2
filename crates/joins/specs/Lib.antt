-- Lists joined in a store: what a join answers, and what it leaves there.
pub mod Filling
pub mod Joins
