pub mod Defaults
pub mod Views
pub mod Reading
pub mod Features
pub mod Levels
