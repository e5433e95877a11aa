mod Corresponding
mod Facts
mod Imaging
mod ItemsKept
mod Keeping
mod Listed
mod Marking
mod Merged
mod Names
mod Parts
mod Placed
mod Placing
pub mod Reached
pub mod Room
mod Steps
mod Workspaces
mod Fronts
