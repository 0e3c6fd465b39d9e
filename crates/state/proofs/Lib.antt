-- Laws about the state that a step hands back, and about the test of a consistent one.
pub mod Answers
pub mod HandedBack
pub mod NoneDirty
pub mod Linear
pub mod Marks
pub mod Walking
