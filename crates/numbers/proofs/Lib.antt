-- What is proved of numbers in bytes.
pub mod Numbers
