pub mod Held
pub mod Standing
pub mod Locks
pub mod Names
