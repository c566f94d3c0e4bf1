pub mod MakeLaws
pub mod ListLaws
pub mod TextLaws
pub mod ProgramLaws
pub mod RunLaws
pub mod FlightsBefore
pub mod StarredFlights
