-- The lemmas, by topic.
pub mod SocketLemmas
