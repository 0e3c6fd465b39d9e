-- Document 01 as executable definitions, in the order of the paper, with the requests of document 02 that have landed.
pub mod Lists
pub mod Machine
pub mod Consistent
pub mod Plan
pub mod Readings
pub mod Verdict
pub mod Refusals
pub mod Steps
pub mod Recovery
pub mod Step
pub mod FullLog
pub mod Book
pub mod Run
pub mod Scenarios
