pub mod Site
pub mod Written
pub mod Claims
