pub mod Routes
pub mod Plans
pub mod Check
pub mod Claims
pub mod Asked
