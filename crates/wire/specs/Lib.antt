-- What C hosts pass as bytes: a plan, the demands of a set.
pub mod Wire
pub mod Demands
