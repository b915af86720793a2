-- What is proved of the questions of a list.
pub mod Encoding
