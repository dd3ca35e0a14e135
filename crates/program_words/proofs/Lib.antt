pub mod CommandLines
pub mod NamedInvocations
