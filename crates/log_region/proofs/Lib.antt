-- The laws of the log region that its functions' proofs and the crates above cite.
pub mod Stored
pub mod Sizes
pub mod Numbers
pub mod Coding
pub mod Vectors
pub mod Holding
pub mod Appending
pub mod Appended
pub mod Searching
pub mod Readings
