pub mod Begun
pub mod Carried
pub mod Feeds
pub mod Going
pub mod Progress
pub mod Runs
