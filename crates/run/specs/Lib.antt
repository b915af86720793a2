-- The run of a plan in a lent store: its stack of lists, what is left at the end, and the store's bytes.
pub mod Stack
pub mod Run
