-- What a sheet reads as.
pub mod Reading
