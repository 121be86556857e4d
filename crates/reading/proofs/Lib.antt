-- Laws of the reader, then what the functions' proofs share.
pub mod Places
pub mod Arms
pub mod Accepted
pub mod Sound
pub mod RowsRead
pub mod Loads
pub mod Outcomes
pub mod Climbs
pub mod Stores
pub mod Growing
pub mod ReadGood
pub mod Laws
pub mod Bounds
pub mod ReadSmall
