mod PayloadLemmas
mod LayoutLemmas
mod CloseCleanLemmas
mod MarkLemmas
mod BarrierLemmas
pub mod ReadyLemmas
pub mod ChainLemmas
pub mod RenewalCountLemmas
pub mod PlaceLemmas
pub mod PlaceStepLemmas
pub mod UnitLemmas
pub mod TurnLemmas
pub mod WalkLemmas
pub mod PassLemmas
pub mod PassingLemmas
pub mod PreserveLemmas
pub mod RenewalKnownLemmas
pub mod TellingLemmas
pub mod FoundLemmas
mod CountedMarkLemmas
pub mod RenewLemmas
pub mod CauseLemmas
pub mod RestLemmas
pub mod CostLemmas
pub mod RecoverLemmas
pub mod CompleteLemmas
pub mod FaultLemmas
pub mod TidyLemmas
pub mod RenewalWornLemmas
pub mod SecuringLemmas
mod InUseLemmas
pub mod JoinLemmas
pub mod KeepsLemmas
pub mod WriteLemmas
pub mod EventLemmas
pub mod HeldLemmas
pub mod LawfulLemmas
pub mod MirrorLemmas
pub mod WornLemmas
pub mod FreshLemmas
pub mod LookLemmas
pub mod KeptLemmas
pub mod TableLemmas
pub mod CommitLemmas
pub mod NoteLemmas
pub mod ListedLemmas
pub mod CollectedLemmas
pub mod LogLemmas
pub mod MaskedLemmas
pub mod FillLemmas
mod FillsLemmas
pub mod CountLemmas
pub mod CountedLogLemmas
pub mod HeaderLemmas
pub mod RetireLemmas
pub mod OpenLemmas
pub mod OverflowLemmas
pub mod KnownLemmas
pub mod ReadingLemmas
pub mod SpentLemmas
pub mod OpenedMaskLemmas
pub mod OpenedNumbersLemmas
pub mod CleanLemmas
pub mod OnceLemmas
