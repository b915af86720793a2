-- What is proved of the writer and the reader for C hosts.
pub mod Fits
pub mod Writer
pub mod Reader
pub mod RoundTrips
