pub mod CoverLemmas
pub mod LawfulInputsLemmas
pub mod OneAtMost
pub mod PartLemmas
pub mod ForcedLemmas
