pub mod Chosen
pub mod Growing
pub mod Parting
pub mod Placing
pub mod Same
