pub mod Joining
pub mod Standing
pub mod Replies
pub mod Claims
pub mod Flights
