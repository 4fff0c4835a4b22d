pub mod Accs
pub mod Bags
pub mod InTime
pub mod RowLaws
