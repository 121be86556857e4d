-- What a reader of this crate must believe, lowest first.
pub mod Hex
pub mod Eight
pub mod Cases
