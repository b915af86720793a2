-- The laws behind the proofs. `Numbers`, `Entries` and `Valid` are what other crates use most.
pub mod Loops
pub mod Tests
pub mod Numbers
pub mod Entries
pub mod Components
pub mod Valid
pub mod Zeros
