pub mod UsableParts
pub mod Bits
pub mod Grants
pub mod Presses
pub mod LoopLaws
pub mod Orders
pub mod Claims
pub mod Flights
