pub mod Part
pub mod Cached
pub mod Answers
pub mod Tells
pub mod Views
