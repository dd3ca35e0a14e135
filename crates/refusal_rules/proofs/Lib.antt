pub mod RuleLemmas
pub mod TestLemmas
pub mod TellingApart
