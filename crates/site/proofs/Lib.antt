pub mod SiteCases
pub mod SiteSound
pub mod SiteRoundTrip
