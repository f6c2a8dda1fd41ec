-- The expressions of a text name no blank node.
use Rattle.std.proofs.Common.{◌≡◌, Bool, true, ◌&&◌, List, [], ◌∷◌, map, refl, sym, subst, ◌∙◌}
use Rattle.qs_expr_meaning.specs.declared.expr.Addend.{Addend, fold_out-Addend}
use Rattle.qs_expr_meaning.specs.declared.expr.Expr.{Expr, map-Expr, roll-Expr, fold-roll-Expr}
use Rattle.qs_expr_meaning.specs.declared.expr.Expr.TheOpen.{Expr-F}
use Rattle.qs_expr_meaning.specs.declared.expr.Expr.TheVariants.{rolls-Variable, rolls-Term, rolls-Or, rolls-And, rolls-Compare, rolls-In, rolls-NotIn, rolls-Sum, rolls-Product, rolls-Not, rolls-Signed, rolls-Bound, rolls-If, rolls-Coalesce, rolls-Concat, rolls-Unary, rolls-Binary}
use Rattle.qs_terms.specs.declared.term.Term.TheVariants as term
use Rattle.qs_syntax_ast.specs.declared.expression.Expression.{Expression, map-Expression, roll-Expression, fold-roll-Expression, ind-Expression}
use Rattle.qs_syntax_ast.specs.declared.expression.Addend.{Addend as WrittenAddend, map-Addend, roll-Addend, fold-roll-Addend}
use Rattle.qs_syntax_ast.specs.declared.expression.Expression.TheOpen.{Expression-F, Addend-F}
use Rattle.qs_syntax_scope.specs.Names.{Name}
use Rattle.qs_syntax_scope.specs.Places.{place_of}
use Rattle.qs_algebra.specs.Expressions.{product, expr_level as translated_level, addend_level as translated_addend, expr_of}
use Rattle.qs_algebra.specs.inner.Expressions.{addend_of}
use Rattle.qs_update_laws.specs.inner.NoBlank.{all, expr_level, addend_level, expr_has_no_blank, addend_has_no_blank}
use Rattle.qs_update_laws.proofs.Lists.{and_both}

abbrev NoBlank : Expr → Type 0
NoBlank e = expr_has_no_blank e ≡ true

-- an expression by its variant
made : (z : Expr-F Expr Addend) → expr_level (map-Expr Expr Addend Bool Bool expr_has_no_blank addend_has_no_blank z) ≡ true → NoBlank (roll-Expr z)
made z h = fold-roll-Expr Bool Bool expr_level addend_level z ∙ h

addend_is : (a : Addend) → addend_has_no_blank a ≡ expr_has_no_blank a.operand
addend_is a = fold_out-Addend Bool Bool expr_level addend_level a

module _ (names : List Name) where
  abbrev IsFree : Expression → Type 0
  IsFree e = expr_has_no_blank (expr_of names e) ≡ true

  abbrev IsFreeAddend : WrittenAddend → Type 0
  IsFreeAddend a = addend_has_no_blank (addend_of names a) ≡ true

  abbrev Known : Type 0
  Known = (e : Expression) × IsFree e

  abbrev KnownAddend : Type 0
  KnownAddend = (a : WrittenAddend) × IsFreeAddend a

  abbrev inner : Expression-F Known KnownAddend → Expression-F Expression WrittenAddend
  inner y = map-Expression Known KnownAddend Expression WrittenAddend (λ e. e.0) (λ a. a.0) y

  abbrev written : List Known → List Expr
  written es = map (expr_of names) (map (λ e. e.0) es)

  abbrev written_addends : List KnownAddend → List Addend
  written_addends es = map (addend_of names) (map (λ a. a.0) es)

  all_free : (es : List Known) → all (map expr_has_no_blank (written es)) ≡ true
  all_free [] = refl
  all_free (e ∷ es) = and_both (expr_has_no_blank (expr_of names e.0)) (all (map expr_has_no_blank (written es))) e.1 (all_free es)

  addends_free : (es : List KnownAddend) → all (map addend_has_no_blank (written_addends es)) ≡ true
  addends_free [] = refl
  addends_free (e ∷ es) = and_both (addend_has_no_blank (addend_of names e.0)) (all (map addend_has_no_blank (written_addends es))) e.1 (addends_free es)

  two_free : (a b : Known) → (expr_has_no_blank (expr_of names a.0) && expr_has_no_blank (expr_of names b.0)) ≡ true
  two_free a b = and_both (expr_has_no_blank (expr_of names a.0)) (expr_has_no_blank (expr_of names b.0)) a.1 b.1

  one_and_all : (a : Known) (es : List Known) → (expr_has_no_blank (expr_of names a.0) && all (map expr_has_no_blank (written es))) ≡ true
  one_and_all a es = and_both (expr_has_no_blank (expr_of names a.0)) (all (map expr_has_no_blank (written es))) a.1 (all_free es)

  product_free : (es : List Known) → NoBlank (product (written es))
  product_free [] = subst NoBlank (rolls-Coalesce []) (made (Expr-F.Coalesce []) refl)
  product_free (e ∷ es) = subst NoBlank (rolls-Product (expr_of names e.0) (written es)) (made (Expr-F.Product (expr_of names e.0) (written es)) (one_and_all e es))

  level_free : (y : Expression-F Known KnownAddend) → NoBlank (translated_level names (map-Expression Expression WrittenAddend Expr Addend (expr_of names) (addend_of names) (inner y)))
  level_free (Expression-F.Variable v) = subst NoBlank (rolls-Variable (place_of names v.name)) (made (Expr-F.Variable (place_of names v.name)) refl)
  level_free (Expression-F.Iri i) = subst NoBlank (rolls-Term (term.Iri i)) (made (Expr-F.Term (term.Iri i)) refl)
  level_free (Expression-F.Literal l) = subst NoBlank (rolls-Term (term.Literal l)) (made (Expr-F.Term (term.Literal l)) refl)
  level_free (Expression-F.Or es) = subst NoBlank (rolls-Or (written es)) (made (Expr-F.Or (written es)) (all_free es))
  level_free (Expression-F.And es) = subst NoBlank (rolls-And (written es)) (made (Expr-F.And (written es)) (all_free es))
  level_free (Expression-F.Compare c a b) = subst NoBlank (rolls-Compare c (expr_of names a.0) (expr_of names b.0)) (made (Expr-F.Compare c (expr_of names a.0) (expr_of names b.0)) (two_free a b))
  level_free (Expression-F.In a es) = subst NoBlank (rolls-In (expr_of names a.0) (written es)) (made (Expr-F.In (expr_of names a.0) (written es)) (one_and_all a es))
  level_free (Expression-F.NotIn a es) = subst NoBlank (rolls-NotIn (expr_of names a.0) (written es)) (made (Expr-F.NotIn (expr_of names a.0) (written es)) (one_and_all a es))
  level_free (Expression-F.Sum a es) =
      subst NoBlank (rolls-Sum (expr_of names a.0) (written_addends es))
      (made (Expr-F.Sum (expr_of names a.0) (written_addends es)) (and_both (expr_has_no_blank (expr_of names a.0)) (all (map addend_has_no_blank (written_addends es))) a.1 (addends_free es)))
  level_free (Expression-F.Product es) = product_free es
  level_free (Expression-F.Not a) = subst NoBlank (rolls-Not (expr_of names a.0)) (made (Expr-F.Not (expr_of names a.0)) a.1)
  level_free (Expression-F.Signed s a) = subst NoBlank (rolls-Signed s (expr_of names a.0)) (made (Expr-F.Signed s (expr_of names a.0)) a.1)
  level_free (Expression-F.Bound v) = subst NoBlank (rolls-Bound (place_of names v.name)) (made (Expr-F.Bound (place_of names v.name)) refl)
  level_free (Expression-F.If c a b) =
      subst NoBlank (rolls-If (expr_of names c.0) (expr_of names a.0) (expr_of names b.0))
      (made (Expr-F.If (expr_of names c.0) (expr_of names a.0) (expr_of names b.0)) (and_both (expr_has_no_blank (expr_of names c.0)) (expr_has_no_blank (expr_of names a.0) && expr_has_no_blank (expr_of names b.0)) c.1 (two_free a b)))
  level_free (Expression-F.Coalesce es) = subst NoBlank (rolls-Coalesce (written es)) (made (Expr-F.Coalesce (written es)) (all_free es))
  level_free (Expression-F.Concat es) = subst NoBlank (rolls-Concat (written es)) (made (Expr-F.Concat (written es)) (all_free es))
  level_free (Expression-F.Unary f a) = subst NoBlank (rolls-Unary f (expr_of names a.0)) (made (Expr-F.Unary f (expr_of names a.0)) a.1)
  level_free (Expression-F.Binary f a b) = subst NoBlank (rolls-Binary f (expr_of names a.0) (expr_of names b.0)) (made (Expr-F.Binary f (expr_of names a.0) (expr_of names b.0)) (two_free a b))

  rolled_free : (y : Expression-F Known KnownAddend) → IsFree (roll-Expression (inner y))
  rolled_free y = subst NoBlank (sym (fold-roll-Expression Expr Addend (translated_level names) translated_addend (inner y))) (level_free y)

  abbrev inner_addend : Addend-F Known KnownAddend → Addend-F Expression WrittenAddend
  inner_addend y = map-Addend Known KnownAddend Expression WrittenAddend (λ e. e.0) (λ a. a.0) y

  rolled_addend_free : (y : Addend-F Known KnownAddend) → IsFreeAddend (roll-Addend (inner_addend y))
  rolled_addend_free y =
      subst (λ (a : Addend). addend_has_no_blank a ≡ true) (sym (fold-roll-Addend Expr Addend (translated_level names) translated_addend (inner_addend y)))
      (addend_is (record { sign = y.sign; operand = expr_of names y.operand.0 }) ∙ y.operand.1)

  pub expr_free : (e : Expression) → IsFree e
  expr_free = ind-Expression IsFree IsFreeAddend (λ x y is. subst (λ z. IsFree (roll-Expression z)) is (rolled_free y)) (λ x y is. subst (λ z. IsFreeAddend (roll-Addend z)) is (rolled_addend_free y))
