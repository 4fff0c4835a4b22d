pub mod Laws
pub mod Low
pub mod Notes
pub mod Queues
pub mod View
pub mod inner
