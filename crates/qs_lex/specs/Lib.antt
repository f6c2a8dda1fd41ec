pub use Rattle.qs_lex_regular.specs.Character
pub use Rattle.qs_lex_regular.specs.Form
pub use Rattle.qs_lex_regular.specs.Longest
pub mod Table
pub mod Lexes
pub mod inner
