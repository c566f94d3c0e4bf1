pub mod TextPlan
pub mod Claims
pub mod Reported
pub mod Examples
pub mod Older
pub mod LineFaults
pub mod Refused
