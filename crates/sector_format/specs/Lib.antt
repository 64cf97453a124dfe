pub mod Decode
pub mod Written
pub mod Laws
