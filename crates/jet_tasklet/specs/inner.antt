-- What only private functions cite.
pub mod Chain
pub mod Leaving
pub mod Noting
