-- What is asked of a list: its shares at a demand and at each of a set of demands, the speed for a target; the tests of a target and of a set.
pub mod Shares
pub mod Speed
