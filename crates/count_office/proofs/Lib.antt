pub mod CopyLemmas
pub mod MemoryLemmas
pub mod NewCodesLemmas
pub mod PieceLemmas
pub mod ScreenLemmas
pub mod ServingLemmas
pub mod MendLemmas
mod RemarkLemmas
