pub mod Arranged
pub mod Gathering
pub mod PathLaws
