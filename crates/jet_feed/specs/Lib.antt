pub mod Bodies
pub mod Counted
pub mod Fed
pub mod FileItems
pub mod Leaves
