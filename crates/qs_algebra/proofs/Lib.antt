pub mod Kept
pub mod Alone
pub mod Steps
pub mod FlagLaws
pub mod MentionLaws
pub mod ColumnLaws
pub mod Variants
pub mod Arms
