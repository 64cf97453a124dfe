pub mod MemLemmas
