-- Laws of the digits: stores, eight at once, there and back.
pub mod Writes
pub mod Eight
pub mod Back
