pub mod Kept
pub mod Looks
pub mod Often
pub mod Live
pub mod Paged
