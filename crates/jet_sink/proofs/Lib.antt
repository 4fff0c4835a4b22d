pub mod Draining
pub mod Going
pub mod Naming
pub mod Noting
pub mod Printing
pub mod Sizes
pub mod Taking
pub mod Telling
