pub mod Net
pub mod Shape
pub mod Meeting
pub mod Causes
pub mod Rest
pub mod Marks
pub mod Link
