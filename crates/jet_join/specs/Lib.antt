pub mod Bag
pub mod Calls
pub mod JoinLaws
pub mod Kept
pub mod Outs
pub mod Settings
pub mod Stands
pub mod inner
