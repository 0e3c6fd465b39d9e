-- What the contracts cite.
pub mod Answer
pub mod Decimal
pub mod Lines
pub mod Number
pub mod Written
