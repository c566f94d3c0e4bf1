pub mod Lifting
pub mod Judged
pub mod UpToDate
pub mod Marked
pub mod Answers
pub mod Lent
