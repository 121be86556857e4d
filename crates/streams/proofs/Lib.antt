-- What a trace of a reader's bytes comes to.
pub mod Traces
