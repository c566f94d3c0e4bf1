pub mod Flat
pub mod Waits
pub mod Links
pub mod Walk
pub mod Lent
