pub mod HandleLemmas
pub mod RunLemmas
pub mod PlayLemmas
mod ClerkLemmas
pub mod SheetLemmas
pub mod StopLemmas
mod TextLemmas
mod IndexLemmas
pub mod DecisionLemmas
