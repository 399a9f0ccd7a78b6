pub mod MapLemmas
mod SplitLemmas
mod LineLemmas
mod ObjectionLemmas
mod ElectionLemmas
mod StageLemmas
mod ProgressLemmas
mod ThreeKeyingsLemmas
pub mod KeyedLemmas
mod ElsewhereLemmas
mod TabulationLemmas
mod MovedLemmas
mod AdditionLemmas
mod NextLemmas
mod ItemLemmas
mod NominationLemmas
mod WardLemmas
mod CandidateLemmas
mod BatchLemmas
mod KeyingLemmas
mod VerdictLemmas
mod WardColumnLemmas
mod PaperLemmas
mod AgreedLemmas
mod PollLemmas
pub mod ContestLemmas
pub mod BundledLemmas
mod ToldLineLemmas
mod CountLemmas
mod TotalLemmas
pub mod MachineLemmas
pub mod SeenLemmas
mod DecisionLemmas
pub mod ListLaws
mod WorkedRows
mod NominationRows
mod BatchRows
mod CountRows
pub mod TabulatedLemmas
mod AddedLemmas
mod CountReadBackLemmas
mod TabulatedRows
