pub mod Aim
pub mod Deals
pub mod Dest
pub mod Gives
pub mod Lending
pub mod Router
