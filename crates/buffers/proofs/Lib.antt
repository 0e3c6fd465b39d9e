-- Laws of the list of a buffer's entries: what it is by the array, and where the entry of a word stands in it.
pub mod Waiting
pub mod Places
pub mod OldestLoop
pub mod LoggedLines
pub mod AddedEntries
