pub mod Near
pub mod Claims
