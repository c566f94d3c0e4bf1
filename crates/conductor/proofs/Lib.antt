pub mod Reserved
pub mod Stored
pub mod ReadLaws
pub mod CallLaws
pub mod JoinLaws
