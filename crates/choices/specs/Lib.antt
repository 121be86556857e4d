-- What a reader of this crate must believe, lowest first.
pub mod State
pub mod Messages
pub mod Effect
pub mod Fit
pub mod Step
pub mod Pick
pub mod Registers
pub mod Lates
