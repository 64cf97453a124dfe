pub mod WordLemmas
mod CountLemmas
mod ListLemmas
mod WorkLemmas
mod SourceLemmas
mod OrderLemmas
mod DoneLemmas
mod TakenLemmas
mod SaidLemmas
mod TrialLemmas
mod GatherLemmas
mod SayLemmas
mod ViewLemmas
pub mod ReadLemmas
mod ReplyLemmas
pub mod LineLemmas
mod FeedLemmas
pub mod RunLemmas
mod AnswerLemmas
mod GoesLemmas
pub mod CauseLemmas
pub mod AlongLemmas
pub mod CompleteLemmas
pub mod BehindLemmas
pub mod EndLemmas
