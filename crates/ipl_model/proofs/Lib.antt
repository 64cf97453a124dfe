pub mod RuleBatchLemmas
pub mod ListLemmas
pub mod SeenLemmas
pub mod RuleSlotLemmas
pub mod SumLemmas
pub mod RulePeakLemmas
pub mod FillLemmas
pub mod WeightLemmas
pub mod RefusalLemmas
pub mod RunLemmas
mod GreatestLemmas
mod RecordLemmas
mod SlotLemmas
mod LogLemmas
mod PeakLemmas
mod ChangeLemmas
mod BatchLemmas
