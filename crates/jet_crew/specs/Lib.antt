pub mod Turns
pub mod Epoch
pub mod Gather
pub mod inner
