pub mod Resting
pub mod Passing
pub mod Ending
pub mod LetThrough
