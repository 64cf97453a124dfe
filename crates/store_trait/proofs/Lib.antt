pub mod OnwardLemmas
pub mod DrawLemmas
pub mod TidyLemmas
pub mod UnusedLemmas
