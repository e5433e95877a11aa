pub mod Expanded
pub mod Frames
pub mod Known
pub mod Meant
pub mod Seen
pub mod Sizes
pub mod Written
