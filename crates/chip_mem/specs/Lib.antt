pub mod Sectors
pub mod Story
pub mod Plan
pub mod Tells
pub mod Picked
pub mod Views
