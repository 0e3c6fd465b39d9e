-- A step and a list of steps of the code as those of the model, and the claim about every list.
pub mod Running
pub mod Claim
