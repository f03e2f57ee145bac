pub mod Num
