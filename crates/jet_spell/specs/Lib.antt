pub mod Begins
pub mod Laws
pub mod Packets
pub mod Reading
pub mod Refusals
pub mod Spelling
pub mod Tags
