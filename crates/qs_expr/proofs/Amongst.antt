-- IN and NOT IN of constants.
use Rattle.std.proofs.Common.{◌≡◌, ℕ, ◌+◌, ◌<◌, Bool, true, false, ◌&&◌, ◌||◌, not, List, [], ◌∷◌, length, map, take, get_or, Option, Some, None, refl, sym, ◌∙◌, ap}
use Rattle.std.specs.List.{list_all, list_any}
use Rattle.qs_terms.specs.declared.term.Term.{Term}
use Rattle.qs_algebra_solutions.specs.Solution.{Solution, term_at}
use Rattle.qs_expr_values.specs.Values.{equal, is_literal, worth}
use Rattle.qs_expr_values.specs.inner.Values.{is_true}
use Rattle.qs_expr_meaning.specs.Calls.{of_both}
use Rattle.qs_expr_meaning.specs.Truth.{denied, either}
use Rattle.qs_expr_meaning.specs.Meaning.{among, holds, meaning, truth}
use Rattle.qs_expr_meaning.specs.declared.expr.Expr.{Expr}
use Rattle.qs_expr_meaning.specs.declared.expr.Expr.TheVariants as expr
use Rattle.qs_expr_meaning.proofs.Equations.{variable_is, term_is, in_is, not_in_is, not_is}
use Rattle.qs_expr_meaning.proofs.Truths.{truth_of}
use Rattle.qs_expr.specs.declared.members.Members.{Members}
use Rattle.qs_expr.specs.inner.Members.{among_by, decided, differs, differs_member, equals, equals_member, errs_by, is_apart, is_in, IsEmpty, IsProper}
use Rattle.qs_expr.proofs.Taken.{all_at, and_assoc, any_at, or_assoc}

-- ---- a list of equalities

either_true : (x y : Option Bool) → is_true (either x y) ≡ (is_true x || is_true y)
either_true (Some true) y = refl
either_true (Some false) y = refl
either_true None (Some true) = refl
either_true None (Some false) = refl
either_true None None = refl

either_denied : (x y : Option Bool) → is_true (denied (either x y)) ≡ (is_true (denied x) && is_true (denied y))
either_denied (Some true) y = refl
either_denied (Some false) y = refl
either_denied None (Some true) = refl
either_denied None (Some false) = refl
either_denied None None = refl

module _ (m : Solution) (x : Term) where
  some_equal : (es : List Expr) → is_true (among (Some x) (map (meaning m) es)) ≡ list_any (equals_member m x) es
  some_equal [] = refl
  some_equal (e ∷ es) = either_true (of_both equal (Some x) (meaning m e)) (among (Some x) (map (meaning m) es)) ∙ ap (λ b. equals_member m x e || b) (some_equal es)

  all_differ : (es : List Expr) → is_true (denied (among (Some x) (map (meaning m) es))) ≡ list_all (differs_member m x) es
  all_differ [] = refl
  all_differ (e ∷ es) = either_denied (of_both equal (Some x) (meaning m e)) (among (Some x) (map (meaning m) es)) ∙ ap (λ b. differs_member m x e && b) (all_differ es)

  -- ---- one constant more

  module _ (es : List Expr) (i : ℕ) (e : Expr) (k : Term) (l : i < length es) (at : e ≡ get_or es i e) (is : e ≡ expr.Term k) where
    pub equals_more : (begun now next : Bool) → now ≡ (begun || list_any (equals_member m x) (take i es)) → next ≡ (now || equals x k) → next ≡ (begun || list_any (equals_member m x) (take (i + 1) es))
    equals_more begun now next h n =
        let hit : equals_member m x e ≡ equals x k = ap (equals_member m x) is ∙ ap (λ y. is_true (of_both equal (Some x) y)) (term_is m k) in
        n ∙ (ap (λ b. now || b) (sym hit) ∙ (ap (λ b. b || equals_member m x e) h
        ∙ (or_assoc begun (list_any (equals_member m x) (take i es)) (equals_member m x e) ∙ ap (λ b. begun || b) (sym (any_at (equals_member m x) es i e l at)))))

    pub differs_more : (begun now next : Bool) → now ≡ (begun && list_all (differs_member m x) (take i es)) → next ≡ (now && differs x k) → next ≡ (begun && list_all (differs_member m x) (take (i + 1) es))
    differs_more begun now next h n =
        let hit : differs_member m x e ≡ differs x k = ap (differs_member m x) is ∙ ap (λ y. is_true (denied (of_both equal (Some x) y))) (term_is m k) in
        n ∙ (ap (λ b. now && b) (sym hit) ∙ (ap (λ b. b && differs_member m x e) h
        ∙ (and_assoc begun (list_all (differs_member m x) (take i es)) (differs_member m x e) ∙ ap (λ b. begun && b) (sym (all_at (differs_member m x) es i e l at)))))

-- ---- conditions that ask for a member

empty_has : (s : Members) → IsEmpty s → (x : Term) → is_in s x ≡ false
empty_has s h x = h.within x (worth x)

empty_apart : (s : Members) → IsEmpty s → (x : Term) → is_apart s x ≡ true
empty_apart s h x = ap (λ b. not (b || errs_by s (is_literal x) (worth x))) (empty_has s h x) ∙ ap not (h.errs (is_literal x) (worth x))

module _ (s n : Members) (es : List Expr) (empty : IsEmpty s) (hits : (m : Solution) (x : Term) → IsProper x → is_in n x ≡ (is_in s x || list_any (equals_member m x) es)) (apart : (m : Solution) (x : Term) → IsProper x → is_apart n x ≡ (is_apart s x && list_all (differs_member m x) es)) where
  by_members : (deny : Bool) (m : Solution) (x : Term) → IsProper x → among_by deny m (Some x) es ≡ decided deny n x
  by_members true m x p = all_differ m x es ∙ sym (apart m x p ∙ ap (λ b. b && list_all (differs_member m x) es) (empty_apart s empty x))
  by_members false m x p = some_equal m x es ∙ sym (hits m x p ∙ ap (λ b. b || list_any (equals_member m x) es) (empty_has s empty x))

  pub among_sound : (deny : Bool) (v : ℕ) (e : Expr) → ((m : Solution) → holds m e ≡ among_by deny m (term_at m v) es) → (m : Solution) (x : Term) → term_at m v ≡ Some x → IsProper x → holds m e ≡ decided deny n x
  among_sound deny v e asks m x at p = asks m ∙ (ap (λ y. among_by deny m y es) at ∙ by_members deny m x p)

module _ (m : Solution) (a : Expr) (es : List Expr) where
  pub holds_in : holds m (expr.In a es) ≡ among_by false m (meaning m a) es
  holds_in = ap (λ x. is_true (truth x)) (in_is m a es) ∙ ap is_true (truth_of (among (meaning m a) (map (meaning m) es)))

  pub holds_not_in : holds m (expr.NotIn a es) ≡ among_by true m (meaning m a) es
  holds_not_in = ap (λ x. is_true (truth x)) (not_in_is m a es) ∙ ap is_true (truth_of (denied (among (meaning m a) (map (meaning m) es))))

holds_not : (m : Solution) (e : Expr) → holds m (expr.Not e) ≡ is_true (denied (truth (meaning m e)))
holds_not m e = ap (λ x. is_true (truth x)) (not_is m e) ∙ ap is_true (truth_of (denied (truth (meaning m e))))

denied_twice : (x : Option Bool) → denied (denied x) ≡ x
denied_twice None = refl
denied_twice (Some true) = refl
denied_twice (Some false) = refl

module _ (m : Solution) (a e : Expr) (es : List Expr) where
  pub denies_in : e ≡ expr.In a es → holds m (expr.Not e) ≡ among_by true m (meaning m a) es
  denies_in is =
      holds_not m e ∙ (ap (λ y. is_true (denied (truth (meaning m y)))) is
      ∙ (ap (λ x. is_true (denied (truth x))) (in_is m a es) ∙ ap (λ x. is_true (denied x)) (truth_of (among (meaning m a) (map (meaning m) es)))))

  pub denies_not_in : e ≡ expr.NotIn a es → holds m (expr.Not e) ≡ among_by false m (meaning m a) es
  denies_not_in is =
      holds_not m e ∙ (ap (λ y. is_true (denied (truth (meaning m y)))) is
      ∙ (ap (λ x. is_true (denied (truth x))) (not_in_is m a es)
      ∙ (ap (λ x. is_true (denied x)) (truth_of (denied (among (meaning m a) (map (meaning m) es)))) ∙ ap is_true (denied_twice (among (meaning m a) (map (meaning m) es))))))

pub of_variable : (deny : Bool) (m : Solution) (v : ℕ) (a e : Expr) (es : List Expr) → a ≡ expr.Variable v → holds m e ≡ among_by deny m (meaning m a) es → holds m e ≡ among_by deny m (term_at m v) es
of_variable deny m v a e es is h = h ∙ ap (λ x. among_by deny m x es) (ap (meaning m) is ∙ variable_is m v)

-- the operand and the members as they are lent
pub lent : (deny : Bool) (m : Solution) (a b : Expr) (es fs : List Expr) → b ≡ a → fs ≡ es → among_by deny m (meaning m a) es ≡ among_by deny m (meaning m b) fs
lent deny m a b es fs p q = sym (ap (λ e. among_by deny m (meaning m e) fs) p ∙ ap (λ l. among_by deny m (meaning m a) l) q)
