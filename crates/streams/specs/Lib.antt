-- What a reader of this crate must believe.
pub mod Tracing
