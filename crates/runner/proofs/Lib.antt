-- Laws that the proofs of the functions share, and the proof of the claim.
pub mod StepsMade
pub mod Claim
