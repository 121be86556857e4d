-- Laws of the definitions, then what the functions' proofs share.
pub mod Lists
pub mod After
pub mod Choice
pub mod Effects
pub mod Lates
pub mod Pick
pub mod Onward
pub mod Looking
pub mod Around
pub mod Choosing
