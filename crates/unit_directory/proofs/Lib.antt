pub mod FreeLemmas
pub mod RetiredLemmas
pub mod AsideLemmas
pub mod MarkedLemmas
