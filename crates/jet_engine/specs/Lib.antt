pub mod Ends
pub mod Looking
pub mod Links
pub mod Wiring
pub mod Lasting
pub mod Jobs
