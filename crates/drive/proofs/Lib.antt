-- What is proved of the calls for C hosts.
pub mod Call
pub mod Speed
pub mod Set
