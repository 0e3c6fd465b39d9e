-- What the contracts cite, and the laws' statements.
pub mod Claim
pub mod Examples
pub mod Stream
pub mod Text
