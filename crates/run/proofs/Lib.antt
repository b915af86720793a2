-- What is proved of the run's definitions.
pub mod Entries
pub mod Stacked
pub mod Placing
pub mod Running
