pub mod Meetings
pub mod Histogram
pub mod Asked
