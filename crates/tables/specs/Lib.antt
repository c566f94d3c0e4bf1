pub mod Limits
pub mod Legs
pub mod Flags
pub mod Entries
pub mod Tables
pub mod Zero
pub mod Lent
pub mod Filled
