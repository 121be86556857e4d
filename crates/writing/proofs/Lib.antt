-- Laws of the text, then what the functions' proofs share, then what `write` and `read` are to each other.
pub mod Lengths
pub mod Turns
pub mod Outcomes
pub mod FrameLines
pub mod Counts
pub mod Loaded
pub mod Accepts
pub mod SameFrames
pub mod LinesClimb
pub mod Laws
