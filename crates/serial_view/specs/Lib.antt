pub mod Serial
pub mod Laws
pub mod Turns
pub mod Running
