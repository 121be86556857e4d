-- What a reader of this crate must believe, lowest first.
pub mod Basics
pub mod Replies
pub mod Small
pub mod Layout
pub mod Family
pub mod Rows
pub mod Table
pub mod Paths
pub mod Lines
pub mod Faults
pub mod Frames
pub mod Heads
pub mod Calls
pub mod Cases
