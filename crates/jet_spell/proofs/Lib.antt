pub mod Appends
pub mod BigEndian
pub mod Fields
pub mod Items
pub mod Keys
pub mod Lengths
pub mod Lists
pub mod Longest
