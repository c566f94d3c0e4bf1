pub mod Right
pub mod Tallies
pub mod NearCounts
pub mod Steps
