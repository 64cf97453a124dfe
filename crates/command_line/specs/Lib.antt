pub mod Ends
pub mod Ipl
pub mod Chip
pub mod Asked
pub mod Choice
pub mod Laws
