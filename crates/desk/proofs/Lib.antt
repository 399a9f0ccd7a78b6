pub mod NumbersRead
pub mod FrontsRead
pub mod OrdersNamed
mod OrderNames
pub mod OrderTables
pub mod PageLemmas
pub mod CauseLemmas
mod NoteLemmas
pub mod TellingLemmas
pub mod CourseLemmas
mod RecordLemmas
pub mod StageLemmas
pub mod KeptLemmas
mod RecordedLemmas
pub mod OpenLemmas
pub mod RecordedEnds
pub mod SealLemmas
pub mod ScriptLemmas
pub mod ScriptEnds
pub mod CopyingLemmas
pub mod JournalLemmas
mod NoScriptLemmas
pub mod WordsRefused
pub mod FaultsRead
pub mod PaperLemmas
mod LinesRead
mod KeysRead
mod OverviewLemmas
mod FormLemmas
mod MendLemmas
mod WholeLineLemmas
mod SecondLemmas
mod ContentForms
mod ContentLemmas
mod ScriptRecordLemmas
mod SameLemmas
mod ScriptContinues
mod RequestLemmas
mod RequestsRead
pub mod PublishLemmas
pub mod PublishableLemmas
