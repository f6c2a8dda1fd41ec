-- What some rules begin with.
use Rattle.std.proofs.Common.{◌≡◌, false, [], ◌∷◌, refl}
use Rattle.qs_syntax_grammar.specs.inner.Reading.{first, nullable}
use Rattle.qs_syntax_tree.specs.declared.kind.Kind.TheVariants as k
use Rattle.qs_syntax_tree.specs.inner.Table.{firsts}
use Rattle.qs_syntax_tree.specs.Rules.{binary_function, comparison, parenthesized, unary_function}
use Rattle.qs_syntax_tree.specs.inner.Procedures.{call, relation}

pub first_parenthesized : first firsts parenthesized ≡ k.LeftParen ∷ []
unfolding parenthesized
first_parenthesized = refl

pub first_unary_function : first firsts unary_function ≡ k.IsIri ∷ k.IsUri ∷ k.IsBlank ∷ k.IsLiteral ∷ k.IsNumeric ∷ k.Str ∷ k.Lang ∷ k.Datatype ∷ k.StrLen ∷ []
unfolding unary_function
first_unary_function = refl

pub first_call : first firsts call ≡ k.Bound ∷ k.If ∷ k.Coalesce ∷ k.Concat ∷ k.IsIri ∷ k.IsUri ∷ k.IsBlank ∷ k.IsLiteral ∷ k.IsNumeric ∷ k.Str ∷ k.Lang ∷ k.Datatype ∷ k.StrLen ∷ k.SameTerm ∷ k.LangMatches ∷ k.Contains ∷ k.StrStarts ∷ k.StrEnds ∷ []
unfolding call unary_function binary_function
first_call = refl

pub first_comparison : first firsts comparison ≡ k.Equal ∷ k.BangEqual ∷ k.Less ∷ k.Greater ∷ k.LessOrEqual ∷ k.GreaterOrEqual ∷ []
unfolding comparison
first_comparison = refl

pub first_relation : first firsts relation ≡ k.Equal ∷ k.BangEqual ∷ k.Less ∷ k.Greater ∷ k.LessOrEqual ∷ k.GreaterOrEqual ∷ k.Not ∷ k.In ∷ []
unfolding relation comparison
first_relation = refl

-- ---- rules that take at least one token

pub nullable_unary_function : nullable unary_function ≡ false
unfolding unary_function
nullable_unary_function = refl

pub nullable_comparison : nullable comparison ≡ false
unfolding comparison
nullable_comparison = refl
