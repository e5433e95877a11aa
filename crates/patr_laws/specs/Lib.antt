pub mod Spelling
pub mod Charts
pub mod Tables
pub mod Bare
pub mod Alternatives
