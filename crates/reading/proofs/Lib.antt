pub mod ReplyLaws
pub mod TakenText
pub mod StoredPlan
pub mod LinesCases
pub mod SiteTables
pub mod EntryCases
