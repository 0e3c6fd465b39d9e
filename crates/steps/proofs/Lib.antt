-- Laws of the steps.
pub mod Outcome
pub mod AppendWays
pub mod LineRows
pub mod WritingBack
pub mod DeleteStep
pub mod LoggingOldest
pub mod Refused
pub mod StoreParts
pub mod StoreRows
pub mod Commits
pub mod Eviction
