-- What is proved of records and lists beside the functions.
pub mod RecordLaws
pub mod Place
pub mod Inserting
pub mod Store
