pub mod LogLaws
pub mod LiftLaws
pub mod GoLaws
pub mod LinkLaws
pub mod VerdictLaws
pub mod UpToDateLaws
pub mod OrderLaws
