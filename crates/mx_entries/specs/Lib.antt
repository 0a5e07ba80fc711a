pub mod Decided
pub mod Lawful
pub mod Own
pub mod Receipts
pub mod RuleChanges
