pub mod Free
pub mod Directory
pub mod Laws
pub mod Reserves
