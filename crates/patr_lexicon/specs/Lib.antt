pub mod Cut
pub mod Entries
pub mod Laid
pub mod Parts
pub mod Reading
pub mod Records
pub mod Seen
pub mod States
