pub mod Calling
pub mod Giving
pub mod Keeping
pub mod Trying
pub mod Valuing
