pub mod Joining
pub mod Rows
pub mod Places
pub mod Spots
pub mod Placing
pub mod Overall
pub mod Listing
