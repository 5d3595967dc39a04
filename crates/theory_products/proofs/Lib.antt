pub mod ProductLaws
pub mod Componentwise
pub mod StepLaws
pub mod WordLaws
pub mod TableParts
pub mod PowerLaws
pub mod PeriodLaws
pub mod Generating
