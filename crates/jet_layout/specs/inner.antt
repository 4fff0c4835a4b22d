pub mod Drafts
pub mod Facts
