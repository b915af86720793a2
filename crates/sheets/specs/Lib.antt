-- The writer and the reader for C hosts: the numbers that are returned, and each buffer afterwards.
pub mod Sheets
