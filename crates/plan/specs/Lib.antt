-- What a plan is, the numbered tests, and the rules that are asked of a plan.
pub mod Tests
pub mod Sheet
pub mod Plan
pub mod Rules
pub mod Valid
