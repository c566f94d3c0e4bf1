pub mod Remaining
pub mod Playing
pub mod Claims
