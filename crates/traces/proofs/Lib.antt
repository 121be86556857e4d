-- Laws that the proofs of several functions cite.
pub mod Newline
pub mod Places
pub mod Choices
pub mod Steps
pub mod Parts
pub mod Going
pub mod Whole
pub mod Table
