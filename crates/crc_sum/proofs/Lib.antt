pub mod ChunkLemmas
pub mod ShiftLemmas
pub mod SumLemmas
pub mod TableLemmas
pub mod TailLemmas
pub mod Vectors
pub mod ZeroLemmas
