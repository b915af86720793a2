-- The sheets of the rows and their lists, and what a call on a sheet answers.
pub mod Rows
