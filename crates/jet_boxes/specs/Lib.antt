pub mod Calls
pub mod Entry
pub mod Held
pub mod Ports
