-- The log region: what a store, a record, a slot and the region are.
pub mod Stores
pub mod Layout
pub mod Region
pub mod Holding
pub mod Appended
