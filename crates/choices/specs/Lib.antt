pub mod Walk
pub mod Cheapest
pub mod Budget
pub mod Claims
pub mod Searching
pub mod Directions
pub mod Flights
pub mod Told
