-- What only private functions cite.
pub mod Advance
pub mod Ended
pub mod Ending
pub mod FileLaws
pub mod Finished
pub mod Halting
pub mod LineLaws
pub mod Meeting
pub mod PartsView
pub mod Progress
pub mod RangeLaws
pub mod TextReading
pub mod Took
