-- Numbers in bytes, most significant byte first.
pub mod Numbers
