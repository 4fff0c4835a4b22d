pub mod Accumulated
pub mod Apart
pub mod InTime
pub mod Listed
pub mod OneTable
pub mod Tables
