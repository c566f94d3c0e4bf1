pub mod Keys
pub mod Bytes
pub mod Forms
pub mod Numbers
pub mod Refusals
pub mod Stops
pub mod Names
