-- What only private functions cite.
pub mod FileChecks
pub mod LineLaws
pub mod Stopped
pub mod Tallying
