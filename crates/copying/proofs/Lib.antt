pub mod ReadLaws
pub mod CopyLaws
mod Copying
pub mod LoopLaws
pub mod PairLaws
pub mod Offsets
pub mod Wider
