pub mod Reckoned
pub mod Claims
