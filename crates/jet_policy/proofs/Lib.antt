pub mod Greatest
pub mod LastEnd
pub mod Rising
