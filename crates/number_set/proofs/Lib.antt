pub mod NumberLemmas
mod SearchLemmas
pub mod AmongLemmas
mod BitLemmas
mod GatherLemmas
pub mod FlagLemmas
