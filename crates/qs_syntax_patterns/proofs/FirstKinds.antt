-- What some rules begin with.
use Rattle.std.proofs.Common.{◌≡◌, false, [], ◌∷◌, refl}
use Rattle.qs_syntax_grammar.specs.inner.Reading.{first, nullable}
use Rattle.qs_syntax_tree.specs.declared.kind.Kind.TheVariants as k
use Rattle.qs_syntax_tree.specs.inner.Table.{firsts}
use Rattle.qs_syntax_tree.specs.Rules.{binary_function, limit, offset, parenthesized, unary_function}
use Rattle.qs_syntax_tree.specs.inner.Procedures.{call, constraint, groups}

pub first_groups : first firsts groups ≡ k.LeftBrace ∷ []
unfolding groups
first_groups = refl

pub first_constraint : first firsts constraint ≡ k.LeftParen ∷ k.Bound ∷ k.If ∷ k.Coalesce ∷ k.Concat ∷ k.IsIri ∷ k.IsUri ∷ k.IsBlank ∷ k.IsLiteral ∷ k.IsNumeric ∷ k.Str ∷ k.Lang ∷ k.Datatype ∷ k.StrLen ∷ k.SameTerm ∷ k.LangMatches ∷ k.Contains ∷ k.StrStarts ∷ k.StrEnds ∷ []
unfolding constraint parenthesized call unary_function binary_function
first_constraint = refl

pub first_limit : first firsts limit ≡ k.Limit ∷ []
unfolding limit
first_limit = refl

pub first_offset : first firsts offset ≡ k.Offset ∷ []
unfolding offset
first_offset = refl

-- ---- rules that take at least one token

pub nullable_limit : nullable limit ≡ false
unfolding limit
nullable_limit = refl

pub nullable_offset : nullable offset ≡ false
unfolding offset
nullable_offset = refl
