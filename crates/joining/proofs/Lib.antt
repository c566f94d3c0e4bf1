pub mod SoundWrites
pub mod Cases
pub mod Decided
pub mod Refusals
pub mod Numbers
pub mod Texts
pub mod Claims
pub mod Flights
