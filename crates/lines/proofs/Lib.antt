-- Laws that the proofs of the functions share, and that callers use.
pub mod FirstLines
pub mod LinesInUse
pub mod LineStores
pub mod ReleasedLines
pub mod LineWords
pub mod NewestWords
pub mod NewestRecords
