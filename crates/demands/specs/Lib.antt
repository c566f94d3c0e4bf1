pub mod FullSizes
pub mod Writing
pub mod BestOrder
pub mod Numbers
pub mod Refusals
pub mod Remaining
pub mod Demands
