pub mod Header
pub mod Mark
pub mod Laws
pub mod Retired
