pub mod Making
pub mod Transcribing
pub mod Flights
