-- What a reader of this crate must believe, lowest first.
pub mod Input
pub mod Output
pub mod Calls
pub mod Places
pub mod Cases
