pub mod Ends
pub mod Link
pub mod Meeting
pub mod Packets
pub mod Receiving
pub mod Sending
pub mod Shape
pub mod Views
