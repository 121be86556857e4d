-- What a reader of this crate must believe, lowest first.
pub mod Reasons
pub mod Instance
pub mod Demand2
pub mod Assumed
pub mod Steps
pub mod Runs
pub mod Demand3
pub mod Ends
pub mod Traces
pub mod ProvedCases
pub mod Cases
