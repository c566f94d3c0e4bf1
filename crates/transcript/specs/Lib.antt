pub mod Keys
pub mod Input
pub mod Output
pub mod Run
