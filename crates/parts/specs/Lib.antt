-- What the model names: entries, lines and the two-bit word states.
pub mod Listed
pub mod Entries
pub mod States
pub mod FreeLine
