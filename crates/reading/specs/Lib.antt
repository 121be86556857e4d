-- What a reader of this crate must believe, lowest first.
pub mod Reader
pub mod Calls
pub mod Laws
pub mod Cases
