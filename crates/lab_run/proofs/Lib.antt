mod StatusLemmas
mod Walks
