pub mod MoreOutcomes
pub mod MoreRuns
pub mod MorePlaces
