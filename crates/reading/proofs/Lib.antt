-- Laws that the proofs of the functions share, and the theorems.
pub mod Streams
pub mod Texts
pub mod WayBack
