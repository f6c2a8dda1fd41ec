-- Conditions that are prepared over a dictionary.
use Rattle.std.specs.Prelude.{◌≡◌, ℕ, List, [], ◌∷◌, Option}
use Rattle.qs_terms.specs.declared.term.Term.{Term}
use Rattle.qs_dict.specs.inner.Dict.{number_of}
use Rattle.qs_expr_meaning.specs.declared.expr.Expr.{Expr}

-- the condition, and the numbers that some of its terms have, where the dictionary has them
pub record Prepared : Type 0 where
  pub expr : Expr
  pub numbers : List (Term × Option ℕ)

-- the numbers are those that the terms have in this dictionary
abbrev pub AreNumbersOf : List Term → List (Term × Option ℕ) → Type 0
AreNumbersOf known [] = Unit {0}
AreNumbersOf known (p ∷ ps) = (p.1 ≡ number_of known p.0) × AreNumbersOf known ps

-- the condition was prepared over a view with these known terms
abbrev pub IsPreparedFor : List Term → Prepared → Type 0
IsPreparedFor known c = AreNumbersOf known c.numbers
