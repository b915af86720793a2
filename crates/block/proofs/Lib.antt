-- What is proved of a block, read and written.
pub mod Rows
pub mod Laws
pub mod RoundTrip
