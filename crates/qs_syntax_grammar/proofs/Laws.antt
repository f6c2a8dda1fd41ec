-- What tokens and their kinds must be for the laws of reading.
use Rattle.std.proofs.Common.{◌≡◌, true}
use Rattle.qs_syntax_grammar.specs.Rule.{Language}

pub record Lawful (L : Language) : Type 0 where
  pub same_true : (a b : L.Kind) → L.same a b ≡ true → a ≡ b
  pub same_refl : (a : L.Kind) → L.same a a ≡ true
  -- each kind has a token
  pub sample : L.Kind → L.Token
  pub sample_kind : (k : L.Kind) → L.kind (sample k) ≡ k
