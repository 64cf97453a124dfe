mod AgeLemmas
pub mod ChainLemmas
mod CleanLemmas
mod CloseLemmas
mod CountLemmas
mod UnusedLemmas
mod EndLemmas
mod WornLemmas
mod EarlierLemmas
mod StartLemmas
mod AnewLemmas
mod TrialLemmas
mod RecordLemmas
mod SurviveLemmas
pub mod StatusLemmas
mod NoteLemmas
mod FrameLemmas
mod CalmLemmas
mod TopLemmas
mod SayLemmas
mod ViewLemmas
mod CheckLemmas
mod LineLemmas
mod ListLemmas
mod LawfulLemmas
