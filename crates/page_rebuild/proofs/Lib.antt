pub mod RoomLemmas
pub mod PartLemmas
pub mod CountLemmas
pub mod MadeLemmas
pub mod PendedLemmas
pub mod TakenLemmas
pub mod ReadLemmas
pub mod LoadedLemmas
