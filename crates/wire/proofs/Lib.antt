-- What is proved of plans as bytes.
pub mod Decoding
pub mod Encoding
pub mod RoundTrip
