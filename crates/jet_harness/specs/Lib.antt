pub mod Channels
pub mod Harness
pub mod Places
pub mod inner
