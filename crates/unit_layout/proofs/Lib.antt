pub mod WordLemmas
pub mod HeaderLemmas
pub mod StatusLemmas
pub mod MarkLemmas
