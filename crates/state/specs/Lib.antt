-- What the code's state means, what a step hands back of it, and the test of a consistent one.
pub mod Answers
pub mod View
pub mod HandedBack
pub mod Ended
pub mod Linear
