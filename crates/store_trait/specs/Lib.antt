pub mod Onward
pub mod Keeping
pub mod Behind
