-- Laws that the proofs of the functions share.
pub mod ReadOn
pub mod Scanning
pub mod TwoPasses
pub mod RecoverStep
