pub mod Lists
pub mod Parted
pub mod Laws
