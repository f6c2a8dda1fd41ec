pub mod OneOutcome
pub mod Remembers
pub mod SomeOutcome
pub mod NoTokens
pub mod Granted
pub mod Places
pub mod Nothing
