pub mod MemberLemmas
pub mod CommandLemmas
pub mod ReplyTexts
pub mod ReplyTokens
