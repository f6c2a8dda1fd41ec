-- What an expression means in a solution: a term of the solution, a term of the expression, or an IRI or a literal.
use Rattle.std.proofs.Common.{◌≡◌, ℕ, Bool, true, false, ◌&&◌, List, [], ◌∷◌, map, Option, Some, None, ℤ, refl, sym, subst, ◌∙◌}
use Rattle.std.specs.Option.{option_map, option_and_then}
use Rattle.qs_terms.specs.declared.term.Term.{Term}
use Rattle.qs_terms.specs.declared.term.Term.TheVariants as term
use Rattle.qs_expr_values.specs.Values.{worth, boolean_term, integer_term, strung}
use Rattle.qs_algebra_solutions.specs.Solution.{Solution}
use Rattle.qs_expr_meaning.specs.Calls.{Value, unary, binary, string_of, text_of_worth, both_forms, strings, common_tag, joined, of_both}
use Rattle.qs_expr_meaning.specs.inner.Calls.{length_of, of_texts, forms}
use Rattle.qs_expr_meaning.specs.Meaning.{truth, SignedValue, choice, first_value, level, addend_level as addend_value_level, meaning}
use Rattle.qs_expr_meaning.specs.inner.Meaning.{boolean_value, integer_value, addend_meaning}
use Rattle.qs_syntax_tree.specs.declared.expression.UnaryFunction.{UnaryFunction}
use Rattle.qs_syntax_tree.specs.declared.expression.UnaryFunction.TheVariants.{IsIri, IsBlank, IsLiteral, IsNumeric, Str, Lang, Datatype, StrLen}
use Rattle.qs_syntax_tree.specs.declared.expression.BinaryFunction.{BinaryFunction}
use Rattle.qs_syntax_tree.specs.declared.expression.BinaryFunction.TheVariants.{SameTerm, LangMatches, Contains, StrStarts, StrEnds}
use Rattle.qs_expr_meaning.specs.declared.expr.Addend.{Addend}
use Rattle.qs_expr_meaning.specs.declared.expr.Expr.{Expr, map-Expr, roll-Expr, fold-roll-Expr, ind-Expr}
use Rattle.qs_expr_meaning.specs.declared.expr.Expr.TheOpen.{Expr-F}
use Rattle.qs_update_laws.specs.inner.NoBlank.{all, expr_level, addend_level, expr_has_no_blank, addend_has_no_blank}
use Rattle.qs_update_laws.proofs.Lists.{both_hold}
use Rattle.qs_update_laws.proofs.Cells.{TermBelow, CellBelow, RowBelow, no_blank_below, at_below}

module _ (next : ℕ) where
  mapped_below : {X : Type 0} (f : X → Term) → ((x : X) → TermBelow next (f x)) → (o : Option X) → CellBelow next (option_map f o)
  mapped_below f h None = refl
  mapped_below f h (Some x) = h x

  boolean_below : (o : Option Bool) → CellBelow next (boolean_value o)
  boolean_below o = mapped_below boolean_term (λ b. refl) o

  integer_below : (o : Option ℤ) → CellBelow next (integer_value o)
  integer_below o = mapped_below integer_term (λ z. refl) o

  choice_below : (c : Option Bool) (x y : Value) → CellBelow next x → CellBelow next y → CellBelow next (choice c x y)
  choice_below (Some true) x y h k = h
  choice_below (Some false) x y h k = k
  choice_below None x y h k = refl

  first_below : (x : Value) (xs : List Value) → CellBelow next x → CellBelow next (first_value xs) → CellBelow next (first_value (x ∷ xs))
  first_below None xs h k = k
  first_below (Some t) xs h k = h

  -- ---- functions

  strung_below : (tag : Option (List ℕ)) (form : List ℕ) → TermBelow next (strung tag form)
  strung_below None form = refl
  strung_below (Some tag) form = refl

  unary_below : (f : UnaryFunction) (t : Term) → CellBelow next (unary f t)
  unary_below IsIri t = refl
  unary_below IsBlank t = refl
  unary_below IsLiteral t = refl
  unary_below IsNumeric t = refl
  unary_below Str (term.Iri i) = refl
  unary_below Str (term.Blank n) = refl
  unary_below Str (term.Literal l) = refl
  unary_below Lang (term.Iri i) = refl
  unary_below Lang (term.Blank n) = refl
  unary_below Lang (term.Literal l) = refl
  unary_below Datatype (term.Iri i) = refl
  unary_below Datatype (term.Blank n) = refl
  unary_below Datatype (term.Literal l) = refl
  unary_below StrLen t = mapped_below length_of (λ l. refl) (string_of t)

  of_one_below : (f : UnaryFunction) (x : Value) → CellBelow next (option_and_then (unary f) x)
  of_one_below f None = refl
  of_one_below f (Some t) = unary_below f t

  texts_below : (test : List ℕ → List ℕ → Bool) (a b : Option (List ℕ)) → CellBelow next (of_texts test a b)
  texts_below test None b = refl
  texts_below test (Some x) None = refl
  texts_below test (Some x) (Some y) = refl

  binary_below : (f : BinaryFunction) (a b : Term) → CellBelow next (binary f a b)
  binary_below SameTerm a b = refl
  binary_below LangMatches a b = texts_below _ (text_of_worth (worth a)) (text_of_worth (worth b))
  binary_below Contains a b = mapped_below _ (λ p. refl) (both_forms a b)
  binary_below StrStarts a b = mapped_below _ (λ p. refl) (both_forms a b)
  binary_below StrEnds a b = mapped_below _ (λ p. refl) (both_forms a b)

  of_two_below : (f : BinaryFunction) (x y : Value) → CellBelow next (of_both (binary f) x y)
  of_two_below f None y = refl
  of_two_below f (Some a) None = refl
  of_two_below f (Some a) (Some b) = binary_below f a b

  -- ---- expressions

  module _ (m : Solution) (h : RowBelow next m) where
    abbrev MeansBelow : Expr → Type 0
    MeansBelow e = expr_has_no_blank e ≡ true → CellBelow next (meaning m e)

    abbrev Known : Type 0
    Known = (e : Expr) × MeansBelow e

    -- (a sum is an integer, whatever its operands mean)
    abbrev KnownAddend : Type 0
    KnownAddend = (a : Addend) × Unit {0}

    abbrev inner : Expr-F Known KnownAddend → Expr-F Expr Addend
    inner y = map-Expr Known KnownAddend Expr Addend (λ e. e.0) (λ a. a.0) y

    coalesce_below : (es : List Known) → all (map expr_has_no_blank (map (λ e. e.0) es)) ≡ true → CellBelow next (first_value (map (meaning m) (map (λ e. e.0) es)))
    coalesce_below [] k = refl
    coalesce_below (e ∷ es) k =
        let l = both_hold (expr_has_no_blank e.0) (all (map expr_has_no_blank (map (λ e. e.0) es))) k in
        first_below (meaning m e.0) (map (meaning m) (map (λ e. e.0) es)) (e.1 l.0) (coalesce_below es l.1)

    level_below : (y : Expr-F Known KnownAddend) → expr_level (map-Expr Expr Addend Bool Bool expr_has_no_blank addend_has_no_blank (inner y)) ≡ true
        → CellBelow next (level m (map-Expr Expr Addend Value SignedValue (meaning m) (addend_meaning m) (inner y)))
    level_below (Expr-F.Variable v) k = at_below next m v h
    level_below (Expr-F.Term t) k = no_blank_below next t k
    level_below (Expr-F.Or es) k = boolean_below _
    level_below (Expr-F.And es) k = boolean_below _
    level_below (Expr-F.Compare c a b) k = boolean_below _
    level_below (Expr-F.In a es) k = boolean_below _
    level_below (Expr-F.NotIn a es) k = boolean_below _
    level_below (Expr-F.Sum a es) k = integer_below _
    level_below (Expr-F.Product a es) k = integer_below _
    level_below (Expr-F.Not a) k = boolean_below _
    level_below (Expr-F.Signed s a) k = integer_below _
    level_below (Expr-F.Bound v) k = refl
    level_below (Expr-F.If c a b) k =
        let l = both_hold (expr_has_no_blank a.0) (expr_has_no_blank b.0) (both_hold (expr_has_no_blank c.0) (expr_has_no_blank a.0 && expr_has_no_blank b.0) k).1 in
        choice_below (truth (meaning m c.0)) (meaning m a.0) (meaning m b.0) (a.1 l.0) (b.1 l.1)
    level_below (Expr-F.Coalesce es) k = coalesce_below es k
    level_below (Expr-F.Concat es) k = mapped_below joined (λ ls. strung_below (common_tag ls) (forms ls)) (strings (map (meaning m) (map (λ e. e.0) es)))
    level_below (Expr-F.Unary f a) k = of_one_below f (meaning m a.0)
    level_below (Expr-F.Binary f a b) k = of_two_below f (meaning m a.0) (meaning m b.0)

    rolled_below : (y : Expr-F Known KnownAddend) → MeansBelow (roll-Expr (inner y))
    rolled_below y k =
        subst (CellBelow next) (sym (fold-roll-Expr Value SignedValue (level m) addend_value_level (inner y)))
        (level_below y (sym (fold-roll-Expr Bool Bool expr_level addend_level (inner y)) ∙ k))

    pub meaning_below : (e : Expr) → MeansBelow e
    meaning_below = ind-Expr MeansBelow (λ a. Unit {0}) (λ x y is. subst (λ z. MeansBelow (roll-Expr z)) is (rolled_below y)) (λ x y is. tt)
