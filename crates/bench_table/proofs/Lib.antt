-- Laws of the rows' sheets.
pub mod Rows
