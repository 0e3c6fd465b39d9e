-- The lines as a list, and what is done to them.
pub mod Lines
pub mod Walks
pub mod Newest
