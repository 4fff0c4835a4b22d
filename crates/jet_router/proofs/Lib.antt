pub mod Counting
mod Dealing
mod Each
mod Gifts
mod Growing
pub mod Lent
mod Offers
mod Same
mod Serving
