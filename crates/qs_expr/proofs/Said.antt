-- What comparisons say of the terms of variables.
use Rattle.std.proofs.Common.{◌≡◌, ℕ, Bool, true, false, ◌&&◌, if◌then◌else◌, List, Option, Some, None, refl, sym, ◌∙◌, ap}
use Rattle.std.specs.declared.cmp.Ordering.{Ordering}
use Rattle.std.specs.declared.cmp.Ordering.TheVariants as order
use Rattle.std.specs.Ordering.{nat_cmp, int_cmp, is_eq}
use Rattle.std.specs.Cmp.{int_cmp_total, tied_itself}
use Rattle.std.specs.Cmp.Lexicographic.{slice_cmp, nat_list_cmp_total}
use Rattle.std.specs.Prelude.{ℤ}
use Rattle.std.specs.Str.{bytes_eq}
use Rattle.std.proofs.lemmas.Option.{same_Some}
use Rattle.std.proofs.lemmas.Bool.Decides.{same_from_decides, Decides-like}
use Rattle.qs_terms.specs.Literal.{Literal, xsd_string, xsd_integer, xsd_boolean}
use Rattle.qs_terms.specs.declared.term.Term.{Term}
use Rattle.qs_terms.specs.declared.term.Term.TheVariants as rdf
use Rattle.qs_terms.specs.Term.{same_term}
use Rattle.qs_terms.proofs.SameTerm.{same_term-Decides}
use Rattle.qs_algebra_solutions.specs.Solution.{Solution, term_at}
use Rattle.qs_expr_values.specs.Number.{integer_of}
use Rattle.qs_expr_values.specs.Values.{Worth, integer, boolean, text, other, worth, boolean_of, compare, equal, equal_terms, is_literal, boolean_term}
use Rattle.qs_expr_values.specs.inner.Values.{is_true, integer_or_other, boolean_or_other, by_order}
use Rattle.qs_expr_meaning.specs.Calls.{binary, of_both}
use Rattle.qs_expr_meaning.specs.Truth.{denied}
use Rattle.qs_expr_meaning.specs.Meaning.{compared, holds, meaning, truth}
use Rattle.qs_expr_meaning.specs.declared.expr.Expr.{Expr}
use Rattle.qs_expr_meaning.specs.declared.expr.Expr.TheVariants as expr
use Rattle.qs_syntax_tree.specs.declared.expression.Comparison.{Comparison}
use Rattle.qs_syntax_tree.specs.declared.expression.Comparison.TheVariants.{Equal, NotEqual, Less, Greater, LessOrEqual, GreaterOrEqual}
use Rattle.qs_syntax_tree.specs.declared.expression.BinaryFunction.TheVariants.{SameTerm}
use Rattle.qs_expr_meaning.proofs.Equations.{variable_is, term_is, compare_is, binary_is}
use Rattle.qs_expr_meaning.proofs.Truths.{truth_of, truth_told}
use Rattle.qs_expr.specs.inner.Against.{has_term, ordered, satisfies, with_constant}

-- ---- what a literal is worth

module _ (l : Literal) (s : List ℕ) where
  no_integer : (o : Option ℤ) → integer_or_other o ≡ text s → ⊥
  no_integer None e = cc
  no_integer (Some z) e = cc

  no_boolean : (o : Option Bool) → boolean_or_other o ≡ text s → ⊥
  no_boolean None e = cc
  no_boolean (Some b) e = cc

  -- a literal that is worth a text is worth its form
  pub text_is_form : worth (rdf.Literal l) ≡ text s → text l.form ≡ text s
  text_is_form = by (bytes_eq l.datatype xsd_integer) (bytes_eq l.datatype xsd_boolean) (bytes_eq l.datatype xsd_string)
    where
      by : (a b c : Bool) → (if a then integer_or_other (integer_of l.form) else (if b then boolean_or_other (boolean_of l.form) else (if c then text l.form else other))) ≡ text s → text l.form ≡ text s
      by true b c e = absurd (no_integer (integer_of l.form) e)
      by false true c e = absurd (no_boolean (boolean_of l.form) e)
      by false false true e = e
      by false false false e = absurd (cc)

-- ---- a term that is no literal

worthless : (t : Term) → is_literal t ≡ false → worth t ≡ other
worthless (rdf.Iri i) h = refl
worthless (rdf.Blank n) h = refl
worthless (rdf.Literal l) h = let f : true ≡ false = h in cc

no_order : (w : Worth) → compare w other ≡ None
no_order (integer z) = refl
no_order (boolean b) = refl
no_order (text s) = refl
no_order other = refl

no_order_first : (w : Worth) → compare other w ≡ None
no_order_first (integer z) = refl
no_order_first (boolean b) = refl
no_order_first (text s) = refl
no_order_first other = refl

flipped : (a b : Term) → same_term a b ≡ same_term b a
flipped a b = same_from_decides (same_term a b) (same_term b a) (same_term-Decides a b) (Decides-like (same_term b a) (λ e. sym e) (λ e. sym e) (same_term-Decides b a))

by_tests : (s a b : Bool) → (a && b) ≡ false → (if s then Some true else (if a && b then None else Some false)) ≡ Some s
by_tests true a b h = refl
by_tests false a b h = ap (λ (c : Bool). if c then None else Some false) h

and_second : (a b : Bool) → b ≡ false → (a && b) ≡ false
and_second true b h = h
and_second false b h = refl

and_first : (a b : Bool) → a ≡ false → (a && b) ≡ false
and_first true b h = let f : true ≡ false = h in cc
and_first false b h = refl

-- `=` with a term that is no literal asks for the term
equal_plain : (x t : Term) → is_literal t ≡ false → equal x t ≡ Some (same_term x t)
equal_plain x t h =
    ap (λ w. by_order (compare (worth x) w) (equal_terms x t)) (worthless t h)
    ∙ (ap (λ o. by_order o (equal_terms x t)) (no_order (worth x)) ∙ by_tests (same_term x t) (is_literal x) (is_literal t) (and_second (is_literal x) (is_literal t) h))

equal_plain_first : (x t : Term) → is_literal t ≡ false → equal t x ≡ Some (same_term x t)
equal_plain_first x t h =
    ap (λ w. by_order (compare w (worth x)) (equal_terms t x)) (worthless t h)
    ∙ (ap (λ o. by_order o (equal_terms t x)) (no_order_first (worth x))
    ∙ (by_tests (same_term t x) (is_literal t) (is_literal x) (and_first (is_literal t) (is_literal x) h) ∙ ap Some (flipped t x)))

-- ---- conditions that are comparisons

module _ (m : Solution) where
  pub holds_compare : (c : Comparison) (a b : Expr) → holds m (expr.Compare c a b) ≡ is_true (of_both (compared c) (meaning m a) (meaning m b))
  holds_compare c a b = ap (λ x. is_true (truth x)) (compare_is m c a b) ∙ ap is_true (truth_of (of_both (compared c) (meaning m a) (meaning m b)))

  pub compare_second : (c : Comparison) (v : ℕ) (t : Term) → holds m (expr.Compare c (expr.Variable v) (expr.Term t)) ≡ is_true (of_both (compared c) (term_at m v) (Some t))
  compare_second c v t = holds_compare c (expr.Variable v) (expr.Term t) ∙ ap (λ x. is_true (of_both (compared c) x (meaning m (expr.Term t)))) (variable_is m v) ∙ ap (λ y. is_true (of_both (compared c) (term_at m v) y)) (term_is m t)

  pub compare_first : (c : Comparison) (v : ℕ) (t : Term) → holds m (expr.Compare c (expr.Term t) (expr.Variable v)) ≡ is_true (of_both (compared c) (Some t) (term_at m v))
  compare_first c v t = holds_compare c (expr.Term t) (expr.Variable v) ∙ ap (λ x. is_true (of_both (compared c) x (meaning m (expr.Variable v)))) (term_is m t) ∙ ap (λ y. is_true (of_both (compared c) (Some t) y)) (variable_is m v)

  pub compare_both : (c : Comparison) (v w : ℕ) → holds m (expr.Compare c (expr.Variable v) (expr.Variable w)) ≡ is_true (of_both (compared c) (term_at m v) (term_at m w))
  compare_both c v w = holds_compare c (expr.Variable v) (expr.Variable w) ∙ ap (λ x. is_true (of_both (compared c) x (meaning m (expr.Variable w)))) (variable_is m v) ∙ ap (λ y. is_true (of_both (compared c) (term_at m v) y)) (variable_is m w)

  -- sameTerm
  told : (x y : Option Term) → is_true (truth (of_both (binary SameTerm) x y)) ≡ is_true (of_both (λ a b. Some (same_term a b)) x y)
  told None y = refl
  told (Some a) None = refl
  told (Some a) (Some b) = ap is_true (truth_told (Some (boolean_term (same_term a b))) (same_term a b) refl)

  holds_same : (a b : Expr) → holds m (expr.Binary SameTerm a b) ≡ is_true (of_both (λ x y. Some (same_term x y)) (meaning m a) (meaning m b))
  holds_same a b = ap (λ x. is_true (truth x)) (binary_is m SameTerm a b) ∙ told (meaning m a) (meaning m b)

  pub same_both : (v w : ℕ) → holds m (expr.Binary SameTerm (expr.Variable v) (expr.Variable w)) ≡ is_true (of_both (λ x y. Some (same_term x y)) (term_at m v) (term_at m w))
  same_both v w =
      holds_same (expr.Variable v) (expr.Variable w)
      ∙ ap (λ x. is_true (of_both (λ x y. Some (same_term x y)) x (meaning m (expr.Variable w)))) (variable_is m v)
      ∙ ap (λ y. is_true (of_both (λ x y. Some (same_term x y)) (term_at m v) y)) (variable_is m w)

-- ---- a variable has a term

-- `?v = <iri>`, in either order
asks_equal : (x : Option Term) (t : Term) → is_literal t ≡ false → is_true (of_both (compared Equal) x (Some t)) ≡ has_term false t x
asks_equal None t h = refl
asks_equal (Some x) t h = ap is_true (equal_plain x t h)

asks_equal_first : (x : Option Term) (t : Term) → is_literal t ≡ false → is_true (of_both (compared Equal) (Some t) x) ≡ has_term false t x
asks_equal_first None t h = refl
asks_equal_first (Some x) t h = ap is_true (equal_plain_first x t h)

asks_unlike : (x : Option Term) (t : Term) → is_literal t ≡ false → is_true (of_both (compared NotEqual) x (Some t)) ≡ has_term true t x
asks_unlike None t h = refl
asks_unlike (Some x) t h = ap (λ o. is_true (denied o)) (equal_plain x t h)

asks_unlike_first : (x : Option Term) (t : Term) → is_literal t ≡ false → is_true (of_both (compared NotEqual) (Some t) x) ≡ has_term true t x
asks_unlike_first None t h = refl
asks_unlike_first (Some x) t h = ap (λ o. is_true (denied o)) (equal_plain_first x t h)

pub equal_to_plain : (m : Solution) (first : Bool) (v : ℕ) (t : Term) (e : Expr) → e ≡ with_constant first Equal v t → is_literal t ≡ false → holds m e ≡ has_term false t (term_at m v)
equal_to_plain m true v t e is h = ap (holds m) is ∙ (compare_first m Equal v t ∙ asks_equal_first (term_at m v) t h)
equal_to_plain m false v t e is h = ap (holds m) is ∙ (compare_second m Equal v t ∙ asks_equal (term_at m v) t h)

pub unlike_plain : (m : Solution) (first : Bool) (v : ℕ) (t : Term) (e : Expr) → e ≡ with_constant first NotEqual v t → is_literal t ≡ false → holds m e ≡ has_term true t (term_at m v)
unlike_plain m true v t e is h = ap (holds m) is ∙ (compare_first m NotEqual v t ∙ asks_unlike_first (term_at m v) t h)
unlike_plain m false v t e is h = ap (holds m) is ∙ (compare_second m NotEqual v t ∙ asks_unlike (term_at m v) t h)

-- sameTerm with any term, in either order
same_has : (x : Option Term) (t : Term) → is_true (of_both (λ a b. Some (same_term a b)) x (Some t)) ≡ has_term false t x
same_has None t = refl
same_has (Some x) t = refl

same_has_first : (x : Option Term) (t : Term) → is_true (of_both (λ a b. Some (same_term a b)) (Some t) x) ≡ has_term false t x
same_has_first None t = refl
same_has_first (Some x) t = flipped t x

pub same_term_second : (m : Solution) (v : ℕ) (t : Term) (e : Expr) → e ≡ expr.Binary SameTerm (expr.Variable v) (expr.Term t) → holds m e ≡ has_term false t (term_at m v)
same_term_second m v t e is =
    ap (holds m) is ∙ (holds_same m (expr.Variable v) (expr.Term t)
    ∙ (ap (λ x. is_true (of_both (λ a b. Some (same_term a b)) x (meaning m (expr.Term t)))) (variable_is m v)
    ∙ (ap (λ y. is_true (of_both (λ a b. Some (same_term a b)) (term_at m v) y)) (term_is m t) ∙ same_has (term_at m v) t)))

pub same_term_first : (m : Solution) (v : ℕ) (t : Term) (e : Expr) → e ≡ expr.Binary SameTerm (expr.Term t) (expr.Variable v) → holds m e ≡ has_term false t (term_at m v)
same_term_first m v t e is =
    ap (holds m) is ∙ (holds_same m (expr.Term t) (expr.Variable v)
    ∙ (ap (λ x. is_true (of_both (λ a b. Some (same_term a b)) x (meaning m (expr.Variable v)))) (term_is m t)
    ∙ (ap (λ y. is_true (of_both (λ a b. Some (same_term a b)) (Some t) y)) (variable_is m v) ∙ same_has_first (term_at m v) t)))

-- ---- two variables

self_order : (w : Worth) (o : Ordering) → compare w w ≡ Some o → o ≡ order.Equal
self_order (integer z) o e = sym (same_Some (int_cmp z z) o e) ∙ tied_itself int_cmp_total z
self_order (boolean true) o e = cc
self_order (boolean false) o e = cc
self_order (text s) o e = sym (same_Some (slice_cmp nat_cmp s s) o e) ∙ tied_itself nat_list_cmp_total s
self_order other o e = absurd (cc)

-- a term equals itself, also an ill-formed one
equal_self : (x : Term) → equal x x ≡ Some true
equal_self x = by (compare (worth x) (worth x)) refl
  where
    by : (o : Option Ordering) → compare (worth x) (worth x) ≡ o → by_order o (equal_terms x x) ≡ Some true
    by None e = ap (λ (b : Bool). if b then Some true else (if is_literal x && is_literal x then None else Some false)) ((same_term-Decides x x).1 refl)
    by (Some o) e = ap (λ p. Some (is_eq p)) (self_order (worth x) o e)

both_there : (c : Comparison) (m : Solution) (v w : ℕ) (x y : Term) → term_at m v ≡ Some x → term_at m w ≡ Some y → is_true (of_both (compared c) (term_at m v) (term_at m w)) ≡ is_true (compared c x y)
both_there c m v w x y p q = ap (λ a. is_true (of_both (compared c) a (term_at m w))) p ∙ ap (λ b. is_true (of_both (compared c) (Some x) b)) q

pub same_are_equal : (m : Solution) (v w : ℕ) (x : Term) (e : Expr) → e ≡ expr.Compare Equal (expr.Variable v) (expr.Variable w) → term_at m v ≡ Some x → term_at m w ≡ Some x → holds m e ≡ true
same_are_equal m v w x e is p q = ap (holds m) is ∙ (compare_both m Equal v w ∙ (both_there Equal m v w x x p q ∙ ap is_true (equal_self x)))

pub same_are_not_unlike : (m : Solution) (v w : ℕ) (x : Term) (e : Expr) → e ≡ expr.Compare NotEqual (expr.Variable v) (expr.Variable w) → term_at m v ≡ Some x → term_at m w ≡ Some x → holds m e ≡ false
same_are_not_unlike m v w x e is p q = ap (holds m) is ∙ (compare_both m NotEqual v w ∙ (both_there NotEqual m v w x x p q ∙ ap (λ o. is_true (denied o)) (equal_self x)))

module _ (m : Solution) (v w : ℕ) (x y : Term) (e : Expr) (is : e ≡ expr.Binary SameTerm (expr.Variable v) (expr.Variable w)) (p : term_at m v ≡ Some x) (q : term_at m w ≡ Some y) where
  same_there : holds m e ≡ same_term x y
  same_there =
      ap (holds m) is ∙ (same_both m v w
      ∙ (ap (λ a. is_true (of_both (λ a b. Some (same_term a b)) a (term_at m w))) p ∙ ap (λ b. is_true (of_both (λ a b. Some (same_term a b)) (Some x) b)) q))

  pub same_term_alike : y ≡ x → holds m e ≡ true
  same_term_alike i = same_there ∙ (same_term-Decides x y).1 (sym i)

  pub same_term_unlike : same_term x y ≡ false → holds m e ≡ false
  same_term_unlike f = same_there ∙ f

-- ---- comparisons with a constant

ordered_so : (c : Comparison) (a b : Term) (o : Ordering) → compare (worth a) (worth b) ≡ Some o → is_true (compared c a b) ≡ satisfies c o
ordered_so Equal a b o e = ap (λ p. is_true (by_order p (equal_terms a b))) e
ordered_so NotEqual a b o e = ap (λ p. is_true (denied (by_order p (equal_terms a b)))) e
ordered_so Less a b o e = rw e refl
ordered_so Greater a b o e = rw e refl
ordered_so LessOrEqual a b o e = rw e refl
ordered_so GreaterOrEqual a b o e = rw e refl

pub against_sound : (m : Solution) (first : Bool) (c : Comparison) (v : ℕ) (k x : Term) (w : Worth) (o : Ordering) (e : Expr) → e ≡ with_constant first c v k → w ≡ worth k → term_at m v ≡ Some x → ordered first w (worth x) ≡ Some o → holds m e ≡ satisfies c o
against_sound m true c v k x w o e is f p h =
    ap (holds m) is ∙ (compare_first m c v k ∙ (ap (λ y. is_true (of_both (compared c) (Some k) y)) p ∙ ordered_so c k x o (ap (λ u. compare u (worth x)) (sym f) ∙ h)))
against_sound m false c v k x w o e is f p h =
    ap (holds m) is ∙ (compare_second m c v k ∙ (ap (λ y. is_true (of_both (compared c) y (Some k))) p ∙ ordered_so c x k o (ap (λ u. compare (worth x) u) (sym f) ∙ h)))
