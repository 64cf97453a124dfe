pub mod PagesLemmas
pub mod PacksLemmas
pub mod FilledLemmas
pub mod CountLemmas
pub mod KnownLemmas
pub mod GrownLemmas
pub mod MergeLemmas
pub mod FaultLemmas
pub mod KnownCleanLemmas
pub mod MergedMaskLemmas
mod CarryLemmas
mod RecordTestLemmas
mod LogLemmas
mod KeptLemmas
mod RecordOffsetLemmas
mod PageLemmas
pub mod UnbrokenLemmas
mod ThroughoutLemmas
mod ReadLemmas
mod MoveLemmas
mod PageMoveLemmas
mod WriteLemmas
mod FillLemmas
mod SealLemmas
mod PlaceLemmas
mod MovingLemmas
pub mod HeldLemmas
pub mod TakenLemmas
mod MergedLemmas
mod WholeLemmas
mod OverflowLemmas
mod PlacingLemmas
mod RoomLemmas
mod SpendLemmas
mod OftenLemmas
mod OnceLemmas
mod LeavingLemmas
mod FewLemmas
mod UnitMergeLemmas
pub mod TidyLemmas
pub mod CompleteLemmas
pub mod PackedMaskLemmas
pub mod LearntLemmas
