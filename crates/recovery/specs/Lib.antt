-- What a recovery's reading and its passes compute.
pub mod Recovering
