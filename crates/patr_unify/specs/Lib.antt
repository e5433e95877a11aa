pub mod Following
pub mod Merging
pub mod Reading
pub mod Stepping
pub mod Walking
pub mod Deciding
pub mod Copying
pub mod Counting
