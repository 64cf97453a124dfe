pub mod Taken
pub mod Parts
pub mod Made
pub mod Pended
pub mod Loaded
pub mod Keeps
