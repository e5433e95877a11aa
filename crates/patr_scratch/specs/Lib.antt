pub mod Cells
pub mod WithRoom
pub mod Linked
pub mod Marks
pub mod Contents
pub mod Stamps
