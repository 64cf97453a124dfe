pub mod FrameViewLemmas
pub mod FrameRoomLemmas
pub mod PutLemmas
pub mod NameLemmas
pub mod FillLemmas
pub mod WrittenLemmas
mod SpotLemmas
mod LogLemmas
pub mod RecordRoomLemmas
mod FoundLemmas
mod RecordLemmas
pub mod KeepLemmas
mod CauseLemmas
pub mod RecordSpendLemmas
mod TidyLemmas
pub mod WearLemmas
pub mod UntouchedLemmas
mod InPlaceLemmas
pub mod FrameLemmas
pub mod FramedLemmas
pub mod HeldLemmas
pub mod UpholdLemmas
pub mod UseLemmas
pub mod SpendLemmas
pub mod RenewLemmas
pub mod TableLemmas
pub mod OutLemmas
pub mod LeaveLemmas
pub mod GiveLemmas
pub mod LoadLemmas
pub mod BringLemmas
pub mod ChangedLemmas
pub mod AskLemmas
pub mod HomesLemmas
pub mod SessionPageLemmas
pub mod OutAllLemmas
pub mod CompleteLemmas
pub mod SlotMapLemmas
pub mod FaultyLemmas
pub mod TellLemmas
pub mod WorkLemmas
pub mod FetchLemmas
