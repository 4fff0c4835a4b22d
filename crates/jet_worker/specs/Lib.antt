pub mod Calls
pub mod CheckText
pub mod Checked
pub mod Feeding
pub mod Opening
pub mod SideRows
pub mod Stopping
pub mod inner
