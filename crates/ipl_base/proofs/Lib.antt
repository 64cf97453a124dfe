pub mod FirstLemmas
pub mod UnitLemmas
