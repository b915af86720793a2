-- What is proved of a list on the way, of pairs and of a join's answer beside the functions.
pub mod Holding
pub mod Filling
pub mod Answer
pub mod Listed
