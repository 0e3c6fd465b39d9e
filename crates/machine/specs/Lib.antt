-- What the machine's state and answers mean.
pub mod Answers
