pub mod Still
pub mod Keys
pub mod Met
