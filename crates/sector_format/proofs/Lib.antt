pub mod ListLemmas
pub mod JoinLemmas
pub mod EncodeLemmas
pub mod DecodeLemmas
