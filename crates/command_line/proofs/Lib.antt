pub mod PartLemmas
pub mod AskedLemmas
pub mod NumberLemmas
pub mod ChipLemmas
pub mod OptionLemmas
pub mod ExampleLemmas
