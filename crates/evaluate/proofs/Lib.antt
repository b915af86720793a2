-- What is proved of the calls' definitions.
pub mod Bench
pub mod Numbers
pub mod Finish
pub mod Demands
pub mod SpeedMet
pub mod SetMet
pub mod LongerStore
pub mod Asked
