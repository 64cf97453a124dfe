pub mod Tells
pub mod Places
pub mod Descriptors
