-- Laws of lists by their elements, and of the two-bit word states.
pub mod Listed
pub mod States
pub mod Oldest
