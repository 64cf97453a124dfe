pub mod SpendingLemmas
pub mod CountedLemmas
pub mod HomeLemmas
pub mod TurnLemmas
pub mod JoinLemmas
pub mod WearLemmas
