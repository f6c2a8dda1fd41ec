-- Expressions at the named variables of a row.
use Rattle.std.proofs.Common.{◌≡◌, ◌≤◌, List, length, take, sym, ◌∙◌, ap, subst, arith, Option, Result}
use Rattle.std.proofs.lemmas.List.{take_all}
use Rattle.std.proofs.lemmas.Result.{IfOk-weaker}
use Rattle.std.specs.Result.{IfOk}
use Rattle.qs_terms.specs.declared.term.Term.{Term}
use Rattle.qs_algebra_solutions.specs.Solution.{Solution}
use Rattle.qs_expr_meaning.specs.Meaning.{holds, meaning}
use Rattle.qs_expr_meaning.specs.declared.expr.Expr.{Expr}
use Rattle.qs_expr.specs.inner.Cell.{Cells, denoted_if, row_solution, FitsIf}
use Rattle.qs_expr.specs.inner.Evaluated.{Evaluates, holds_at, value_at}
use Rattle.qs_expr.specs.inner.Row.{HasFront}
use Rattle.qs_expr.specs.declared.cell.Cell.{Cell}
use Rattle.qs_expr_meaning.specs.declared.fault.ExprFault.{ExprFault}
use Rattle.std.specs.declared.alloc.AllocError.{AllocError}
use Rattle.qs_ops_walk.specs.inner.Setting.{Setting, known_of}
use Rattle.qs_ops_walk.proofs.Passes.{row_length}

-- `t` is what the reader is inside, and `s` what contracts see
module _ (t s : Setting) (is : t ≡ s) (table : List Term) (m : Cells) where
  abbrev named : Solution
  named = take s.width (row_solution (known_of s) table m)

  -- the row has no other variables
  all_named : length m ≤ t.width → row_solution (known_of t) table m ≡ named
  all_named h =
      ap (λ (u : Setting). row_solution (known_of u) table m) is
      ∙ sym (take_all s.width (row_solution (known_of s) table m) (omega (arith, h, row_length (known_of s) table m, ap (λ (u : Setting). u.width) is)))

  -- n has the first cells
  front_named : (n : Cells) → HasFront t.width m n → row_solution (known_of t) table n ≡ named
  front_named n h = h (known_of t) table ∙ ap (λ (u : Setting). take u.width (row_solution (known_of u) table m)) is

  pub whole_holds : (e : Expr) → length m ≤ t.width → holds_at (known_of t) table m e ≡ holds named e
  whole_holds e h = ap (λ (x : Solution). holds x e) (all_named h)

  pub front_holds : (n : Cells) (e : Expr) → HasFront t.width m n → holds_at (known_of t) table n e ≡ holds named e
  front_holds n e h = ap (λ (x : Solution). holds x e) (front_named n h)

  pub whole_value : (e : Expr) → length m ≤ t.width → value_at (known_of t) table m e ≡ meaning named e
  whole_value e h = ap (λ (x : Solution). meaning x e) (all_named h)

  pub front_value : (n : Cells) (e : Expr) → HasFront t.width m n → value_at (known_of t) table n e ≡ meaning named e
  front_value n e h = ap (λ (x : Solution). meaning x e) (front_named n h)

-- what a cell is made of, by the value that the expression has
abbrev pub IsCellOf : Result Cell ExprFault → Result (Option Cell) AllocError → Type 0
IsCellOf value r =
    (known old new : List Term) (m : Cells) (e : Expr) → Evaluates known old new m e value → IfOk r (λ c. (denoted_if known new c ≡ value_at known old m e) × FitsIf known new c)

module _ (t s : Setting) (is : t ≡ s) (old new : List Term) (n : Cells) (e : Expr) (value : Result Cell ExprFault) (r : Result (Option Cell) AllocError) (f : IsCellOf value r) (v : Evaluates (known_of t) old new n e value) where
  pub cell_is : (x : Option Term) → value_at (known_of t) old n e ≡ x → IfOk r (λ c. denoted_if (known_of s) new c ≡ x)
  cell_is x d = IfOk-weaker r _ _ (λ c p. ap (λ (u : Setting). denoted_if (known_of u) new c) (sym is) ∙ (p.0 ∙ d)) (f (known_of t) old new n e v)

  pub cell_fits : IfOk r (λ c. FitsIf (known_of s) new c)
  cell_fits = IfOk-weaker r _ _ (λ c p. subst (λ (u : Setting). FitsIf (known_of u) new c) is p.1) (f (known_of t) old new n e v)
