pub mod Decisions
pub mod FormDecisions
pub mod MailboxDecision
pub mod LabelDecision
pub mod IdnHostNameDecision
pub mod IdnMailboxDecision
pub mod RegexDecision
pub mod Companions
