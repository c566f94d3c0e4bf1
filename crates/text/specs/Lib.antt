pub mod LinesRead
pub mod Names
pub mod TextRead
pub mod Written
pub mod Claims
pub mod Examples
pub mod TextWritten
pub mod OverLimits
