-- What a reader of this crate must believe, lowest first.
pub mod Writer
pub mod Calls
pub mod Laws
pub mod Cases
