pub mod Graph
pub mod Theorems
pub mod Flights
