-- What a reader of this crate must believe, lowest first; the rules of a state and of a choice are the specs of `choices`.
pub mod Replies
pub mod Run
pub mod InTurn
pub mod Calls
pub mod Cases
pub mod Numbers
pub mod Effects
pub mod Laws
