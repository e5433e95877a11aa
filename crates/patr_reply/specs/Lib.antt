pub mod Naming
pub mod Held
pub mod Lines
pub mod Sources
pub mod Writing
