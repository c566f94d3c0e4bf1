pub mod Arranged
pub mod Path
pub mod Replies
pub mod Questions
