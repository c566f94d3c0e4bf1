pub mod Overlaid
pub mod ColumnLaws
pub mod Unused
pub mod Seen
pub mod Flips
