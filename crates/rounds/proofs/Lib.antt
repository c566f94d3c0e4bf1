pub mod PlayingLoop
pub mod OneRound
pub mod Bounds
pub mod Readiness
pub mod Agree
pub mod ChainRounds
pub mod Copied
