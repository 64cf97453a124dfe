pub mod SumLemmas
pub mod BuildLemmas
pub mod NothingLemmas
pub mod CheckLemmas
pub mod CountLemmas
pub mod EndLemmas
