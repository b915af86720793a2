-- The drive calculation as document 01 defines it, in its order: "Words", "Joins", "Pairs, allowance and store", and the bounds that
-- demand 3 asks for; then document 02: the rest (request four) and the speed (request one); the order of lists is as request five
-- has it, the shared join as request six. With the structure stand the codes of its entries ("The sheet"); last, the refusals by number.
-- Document 01 is the requirement, document 02 has the requests after it; source 002 is Wagenknecht and Gocht,
-- "On the reliability of multistate systems with imprecise probabilities".
pub mod Limits
pub mod Sums
pub mod Focal
pub mod Order
pub mod Masses
pub mod Joins
pub mod Structure
pub mod Codes
pub mod Division
pub mod Choices
pub mod Lists
pub mod Evaluation
pub mod Bounds
pub mod Rest
pub mod Speed
pub mod Refusals
