-- What only private functions cite.
pub mod Extremes
pub mod FrameMoves
pub mod NextEnds
pub mod Reached
pub mod WindowOf
