pub mod Pending
pub mod Numbers
pub mod Frames
pub mod Lending
pub mod Rebuilt
