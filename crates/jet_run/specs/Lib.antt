pub mod Ended
pub mod Flows
pub mod SoFar
pub mod inner
