pub mod Story
pub mod Image
pub mod Moment
pub mod Lawful
pub mod Chart
pub mod Told
pub mod Wears
pub mod Laws
