pub mod HeadLemmas
pub mod RecordLemmas
pub mod ListLemmas
pub mod RecordsLemmas
