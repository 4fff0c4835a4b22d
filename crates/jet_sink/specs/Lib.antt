pub mod Alike
pub mod Drained
pub mod Naming
pub mod Taken
pub mod View
pub mod inner
