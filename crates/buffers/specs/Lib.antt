-- A log buffer as the list of its entries, and the entries that the words of a line add.
pub mod Waiting
pub mod Added
