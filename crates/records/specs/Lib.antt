-- Lists of intervals as records in a buffer that the caller lends: their bytes, one insertion, and what stands where.
pub mod Bytes
pub mod Records
pub mod Store
pub mod Insertion
