-- Conditions that are taken into parts.
use Rattle.std.proofs.Common.{◌≡◌, ℕ, zero, suc, ◌+◌, ◌<◌, Bool, true, false, ◌&&◌, ◌||◌, List, [], ◌∷◌, ◌++◌, length, map, take, get_or, Option, Some, None, refl, sym, ◌∙◌, ap, subst, arith}
use Rattle.std.specs.List.{list_all, list_any}
use Rattle.std.proofs.lemmas.List.{take_more}
use Rattle.std.proofs.lemmas.List.Folds.{list_all-append, list_any-append}
use Rattle.qs_terms.specs.declared.term.Term.{Term}
use Rattle.qs_algebra_solutions.specs.Solution.{Solution}
use Rattle.qs_expr_values.specs.inner.Values.{is_true}
use Rattle.qs_expr_meaning.specs.inner.Makes.{makes, some}
use Rattle.qs_expr_meaning.specs.Truth.{both, every}
use Rattle.qs_expr_meaning.specs.Meaning.{holds, meaning, truth}
use Rattle.qs_expr_meaning.specs.declared.expr.Expr.{Expr}
use Rattle.qs_expr_meaning.specs.declared.expr.Expr.TheVariants as expr
use Rattle.qs_expr_meaning.proofs.Equations.{and_is, and_makes}
use Rattle.qs_expr_meaning.proofs.Truths.{truth_of}
use Rattle.qs_expr.specs.inner.Condition.{AreNumbersOf}
use Rattle.qs_expr.specs.declared.part.Part.{Part}
use Rattle.qs_expr.specs.declared.part.Part.TheVariants.{Has, Alike, Against, Among, Other}
use Rattle.qs_expr.specs.inner.Parts.{all_hold, asked, number_in, numbers_of, some_make, IsNumbered}

and_true : (a : Bool) → (a && true) ≡ a
and_true true = refl
and_true false = refl

or_false : (a : Bool) → (a || false) ≡ a
or_false true = refl
or_false false = refl

pub and_assoc : (a b c : Bool) → ((a && b) && c) ≡ (a && (b && c))
and_assoc true b c = refl
and_assoc false b c = refl

pub or_assoc : (a b c : Bool) → ((a || b) || c) ≡ (a || (b || c))
or_assoc true b c = refl
or_assoc false b c = refl

-- ---- conjunctions

both_true : (x y : Option Bool) → is_true (both x y) ≡ (is_true x && is_true y)
both_true (Some true) y = refl
both_true (Some false) y = refl
both_true None (Some true) = refl
both_true None (Some false) = refl
both_true None None = refl

every_true : (m : Solution) (es : List Expr) → is_true (every (map truth (map (meaning m) es))) ≡ list_all (holds m) es
every_true m [] = refl
every_true m (e ∷ es) = both_true (truth (meaning m e)) (every (map truth (map (meaning m) es))) ∙ ap (λ b. holds m e && b) (every_true m es)

-- a conjunction is true where each operand is
pub and_holds : (m : Solution) (es : List Expr) → holds m (expr.And es) ≡ list_all (holds m) es
and_holds m es = ap (λ x. is_true (truth x)) (and_is m es) ∙ (ap is_true (truth_of (every (map truth (map (meaning m) es)))) ∙ every_true m es)

some_makes : (es : List Expr) → some (map makes es) ≡ list_any makes es
some_makes [] = refl
some_makes (e ∷ es) = ap (λ b. makes e || b) (some_makes es)

pub and_takes : (es : List Expr) → makes (expr.And es) ≡ list_any makes es
and_takes es = and_makes es ∙ some_makes es

-- ---- one part more

pub hold_more : (m : Solution) (ps ps' : List Part) (p : Part) (e : Expr) → ps' ≡ ps ++ p ∷ [] → asked p ≡ e → all_hold m ps' ≡ (all_hold m ps && holds m e)
hold_more m ps ps' p e f a =
    ap (all_hold m) f ∙ (list_all-append (λ q. holds m (asked q)) ps (p ∷ [])
    ∙ (ap (λ b. all_hold m ps && b) (and_true (holds m (asked p))) ∙ ap (λ x. all_hold m ps && holds m x) a))

pub make_more : (ps ps' : List Part) (p : Part) (e : Expr) → ps' ≡ ps ++ p ∷ [] → asked p ≡ e → some_make ps' ≡ (some_make ps || makes e)
make_more ps ps' p e f a =
    ap some_make f ∙ (list_any-append (λ q. makes (asked q)) ps (p ∷ [])
    ∙ (ap (λ b. some_make ps || b) (or_false (makes (asked p))) ∙ ap (λ x. some_make ps || makes x) a))

module _ (known : List Term) where
  numbers_one : (p : Part) (rest : List (Term × Option ℕ)) → IsNumbered known p → AreNumbersOf known rest → AreNumbersOf known (number_in p rest)
  numbers_one (Has p) rest h k = (h.0, k)
  numbers_one (Alike p) rest h k = k
  numbers_one (Against p) rest h k = k
  numbers_one (Among p) rest h k = k
  numbers_one (Other e) rest h k = k

  numbers_rest : (p : Part) (rest : List (Term × Option ℕ)) → AreNumbersOf known (number_in p rest) → AreNumbersOf known rest
  numbers_rest (Has p) rest h = h.1
  numbers_rest (Alike p) rest h = h
  numbers_rest (Against p) rest h = h
  numbers_rest (Among p) rest h = h
  numbers_rest (Other e) rest h = h

  numbers_first : (p : Part) (rest : List (Term × Option ℕ)) → AreNumbersOf known (number_in p rest) → IsNumbered known p
  numbers_first (Has p) rest h = (h.0, tt)
  numbers_first (Alike p) rest h = tt
  numbers_first (Against p) rest h = tt
  numbers_first (Among p) rest h = tt
  numbers_first (Other e) rest h = tt

  pub numbers_more : (ps ps' : List Part) (p : Part) → ps' ≡ ps ++ p ∷ [] → IsNumbered known p → AreNumbersOf known (numbers_of ps) → AreNumbersOf known (numbers_of ps')
  numbers_more ps ps' p f h k = subst (λ qs. AreNumbersOf known (numbers_of qs)) (sym f) (behind ps k)
    where
      behind : (qs : List Part) → AreNumbersOf known (numbers_of qs) → AreNumbersOf known (numbers_of (qs ++ p ∷ []))
      behind [] n = h
      behind (q ∷ qs) n = numbers_one q (numbers_of (qs ++ p ∷ [])) (numbers_first q (numbers_of qs) n) (behind qs (numbers_rest q (numbers_of qs) n))

  pub number_of_part : (ps : List Part) (i : ℕ) (p : Part) → i < length ps → p ≡ get_or ps i p → AreNumbersOf known (numbers_of ps) → IsNumbered known p
  number_of_part [] i p l e h = absurd (omega arith)
  number_of_part (q ∷ ps) zero p l e h = subst (IsNumbered known) (sym e) (numbers_first q (numbers_of ps) h)
  number_of_part (q ∷ ps) (suc i) p l e h = number_of_part ps i p (omega arith) e (numbers_rest q (numbers_of ps) h)

-- ---- one condition more

pub all_at : (f : Expr → Bool) (es : List Expr) (i : ℕ) (e : Expr) → i < length es → e ≡ get_or es i e → list_all f (take (i + 1) es) ≡ (list_all f (take i es) && f e)
all_at f es i e l is =
    ap (list_all f) (take_more es i e l ∙ ap (λ x. take i es ++ x ∷ []) (sym is))
    ∙ (list_all-append f (take i es) (e ∷ []) ∙ ap (λ b. list_all f (take i es) && b) (and_true (f e)))

pub any_at : (f : Expr → Bool) (es : List Expr) (i : ℕ) (e : Expr) → i < length es → e ≡ get_or es i e → list_any f (take (i + 1) es) ≡ (list_any f (take i es) || f e)
any_at f es i e l is =
    ap (list_any f) (take_more es i e l ∙ ap (λ x. take i es ++ x ∷ []) (sym is))
    ∙ (list_any-append f (take i es) (e ∷ []) ∙ ap (λ b. list_any f (take i es) || b) (or_false (f e)))

pub all_hold_more : (m : Solution) (es : List Expr) (i : ℕ) (e : Expr) (begun now next : Bool) → i < length es → e ≡ get_or es i e → now ≡ (begun && list_all (holds m) (take i es)) → next ≡ (now && holds m e) → next ≡ (begun && list_all (holds m) (take (i + 1) es))
all_hold_more m es i e begun now next l is h k =
    k ∙ (ap (λ b. b && holds m e) h ∙ (and_assoc begun (list_all (holds m) (take i es)) (holds m e) ∙ ap (λ b. begun && b) (sym (all_at (holds m) es i e l is))))

pub some_make_more : (es : List Expr) (i : ℕ) (e : Expr) (begun now next : Bool) → i < length es → e ≡ get_or es i e → now ≡ (begun || list_any makes (take i es)) → next ≡ (now || makes e) → next ≡ (begun || list_any makes (take (i + 1) es))
some_make_more es i e begun now next l is h k =
    k ∙ (ap (λ b. b || makes e) h ∙ (or_assoc begun (list_any makes (take i es)) (makes e) ∙ ap (λ b. begun || b) (sym (any_at makes es i e l is))))

-- ---- the parts of a row's condition

pub parts_more : (m : Solution) (ps : List Part) (i : ℕ) (p : Part) → i < length ps → p ≡ get_or ps i p → all_hold m (take i ps) ≡ true → holds m (asked p) ≡ true → all_hold m (take (i + 1) ps) ≡ true
parts_more m ps i p l is h k =
    ap (all_hold m) (take_more ps i p l ∙ ap (λ x. take i ps ++ x ∷ []) (sym is))
    ∙ (list_all-append (λ q. holds m (asked q)) (take i ps) (p ∷ []) ∙ (ap (λ b. b && (holds m (asked p) && true)) h ∙ (and_true (holds m (asked p)) ∙ k)))

pub parts_fail : (m : Solution) (ps : List Part) (i : ℕ) (p : Part) → i < length ps → p ≡ get_or ps i p → holds m (asked p) ≡ false → all_hold m ps ≡ false
parts_fail m [] i p l e h = absurd (omega arith)
parts_fail m (q ∷ ps) zero p l e h = ap (λ b. b && all_hold m ps) (ap (λ x. holds m (asked x)) (sym e) ∙ h)
parts_fail m (q ∷ ps) (suc i) p l e h = second (holds m (asked q)) (all_hold m ps) (parts_fail m ps i p (omega arith) e h)
  where
    second : (a b : Bool) → b ≡ false → (a && b) ≡ false
    second true b f = f
    second false b f = refl

pub parts_take : (ps : List Part) (i : ℕ) (p : Part) → i < length ps → p ≡ get_or ps i p → makes (asked p) ≡ true → some_make ps ≡ true
parts_take [] i p l e h = absurd (omega arith)
parts_take (q ∷ ps) zero p l e h = ap (λ b. b || some_make ps) (ap (λ x. makes (asked x)) (sym e) ∙ h)
parts_take (q ∷ ps) (suc i) p l e h = second (makes (asked q)) (some_make ps) (parts_take ps i p (omega arith) e h)
  where
    second : (a b : Bool) → b ≡ true → (a || b) ≡ true
    second true b f = refl
    second false b f = f
