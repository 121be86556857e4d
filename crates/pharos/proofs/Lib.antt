-- One step of the published model.
pub mod Functional
pub mod Search
-- Lists that grow, and the theorems of the abstract model.
pub mod Tail
pub mod Determinacy
pub mod Progress
pub mod Completion
pub mod Coded
-- The published model is an instance of the abstract one.
pub mod Instance
pub mod Behaviours
pub mod GoodStates
pub mod Invariants
pub mod Filter
pub mod Decoded
-- What weaker rules would allow.
pub mod Counterexamples
pub mod Backwards
