pub mod Worn
pub mod Recalls
pub mod Met
pub mod Keeps
pub mod Done
pub mod Closes
