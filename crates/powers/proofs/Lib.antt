-- The rule of a table, from one test over the whole of it.
pub mod Table
