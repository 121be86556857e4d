-- What a reader of this crate must believe, lowest first. The model of document 002 (PharOS), and what is proved of it.
pub mod Prefix
pub mod Published
pub mod Histories
pub mod Theorems
-- The abstract model, and what is proved of it.
pub mod Model
pub mod Runs
pub mod Coded
pub mod Decoded
-- What weaker rules would allow.
pub mod Counterexamples
pub mod Backwards
