-- What only private functions cite.
pub mod LetOut
pub mod Noted
