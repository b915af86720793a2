-- The calls for C hosts: the numbers that are returned, and each buffer afterwards.
pub mod Call
pub mod Speed
pub mod Set
