-- Laws that the proofs of the functions share.
pub mod Buffers
pub mod DecimalNumbers
pub mod Decimals
pub mod Numbers
