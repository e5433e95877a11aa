pub mod AddedArcs
pub mod Filling
pub mod Linking
pub mod MovedArcs
pub mod Stamping
pub mod Views
