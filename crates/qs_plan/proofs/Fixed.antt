-- Which conditions fix a variable, and which steps keep one.
use Rattle.std.proofs.Common.{◌≡◌, ℕ, ◌+◌, ◌≤◌, ◌<◌, ◌==◌, Bool, true, false, not, ◌&&◌, ◌||◌, cond, if◌then◌else◌, List, [], ◌∷◌, ◌++◌, map, take, length, get_or, Option, Some, None, refl, sym, ◌∙◌, ap, subst, append-nil}
use Rattle.std.specs.List.{AllByRecursion, filter, list_any}
use Rattle.std.proofs.lemmas.List.{get_or-set_other, take_all}
use Rattle.qs_terms.specs.Bag.{Distinct, with_new}
use Rattle.qs_terms.specs.Term.{same_term}
use Rattle.qs_terms.specs.declared.term.Term.{Term}
use Rattle.qs_terms.specs.declared.term.Term.TheVariants as term
use Rattle.qs_terms.proofs.SameTerm.{same_term-Decides}
use Rattle.qs_expr_values.specs.Values.{Worth, integer, boolean, text, other, worth, compare, equal, equal_terms, is_literal}
use Rattle.qs_expr_values.specs.inner.Values.{is_true, by_order}
use Rattle.qs_expr_meaning.specs.Calls.{binary, of_both}
use Rattle.qs_terms.specs.Statement.{is_iri}
use Rattle.qs_expr_meaning.specs.Truth.{either}
use Rattle.qs_expr_meaning.specs.Meaning.{meaning, holds, truth, compared, among}
use Rattle.qs_expr_meaning.specs.declared.expr.Expr.{Expr}
use Rattle.qs_expr_meaning.specs.declared.expr.Expr.TheVariants as expr
use Rattle.qs_syntax_tree.specs.declared.expression.Comparison.TheVariants.{Equal}
use Rattle.qs_syntax_tree.specs.declared.expression.BinaryFunction.TheVariants.{SameTerm}
use Rattle.qs_expr_meaning.proofs.Equations.{variable_is, term_is, compare_is, binary_is, in_is}
use Rattle.qs_expr_meaning.proofs.Truths.{truth_of, truth_told}
use Rattle.qs_algebra_solutions.specs.Solution.{Solution, term_at}
use Rattle.qs_algebra_solutions.specs.Operators.{merges, or_alone, excludes}
use Rattle.qs_algebra_patterns.specs.Eval.{eval, all_hold}
use Rattle.qs_algebra_patterns.specs.inner.Eval.{bound_to}
use Rattle.qs_algebra_patterns.specs.declared.pattern.PatternNode.{PatternNode}
use Rattle.qs_algebra_patterns.specs.declared.pattern.Step.{Step}
use Rattle.qs_algebra_patterns.specs.declared.pattern.Step.TheVariants as one
use Rattle.qs_algebra_patterns.proofs.Meaning.{step_join, step_left_join, step_minus, step_extend}
use Rattle.qs_plan.specs.inner.Certain.{Alike}
use Rattle.qs_plan.specs.inner.Fixes.{is_one_of, Fixes, Admits, IsOnly, IsIri, HasNew, StepKeeps}
use Rattle.qs_plan.proofs.Fixing.{turned}
use Rattle.qs_plan.proofs.Keeping.{merges_alike, alone_alike, all_more}
use Rattle.qs_plan.proofs.Leaving.{differs}
use Rattle.qs_plan.proofs.Widths.{all_filter}

-- ---- an IRI equals itself alone

other_right : (w : Worth) → compare w other ≡ None
other_right (integer z) = refl
other_right (boolean b) = refl
other_right (text s) = refl
other_right other = refl

other_left : (w : Worth) → compare other w ≡ None
other_left (integer z) = refl
other_left (boolean b) = refl
other_left (text s) = refl
other_left other = refl

same_of_equal : (b c : Bool) → is_true (if b then Some true else (if c then None else Some false)) ≡ true → b ≡ true
same_of_equal true c h = refl
same_of_equal false true h = h
same_of_equal false false h = h

iri_right : (x t : Term) → is_iri t ≡ true → is_true (equal x t) ≡ true → same_term x t ≡ true
iri_right x (term.Iri i) k h =
    same_of_equal (same_term x (term.Iri i)) (is_literal x && is_literal (term.Iri i))
    (ap is_true (sym (ap (λ o. by_order o (equal_terms x (term.Iri i))) (other_right (worth x)))) ∙ h)
iri_right x (term.Blank n) k h = absurd (let n : false ≡ true = k in cc)
iri_right x (term.Literal l) k h = absurd (let n : false ≡ true = k in cc)

iri_left : (t x : Term) → is_iri t ≡ true → is_true (equal t x) ≡ true → same_term t x ≡ true
iri_left (term.Iri i) x k h =
    same_of_equal (same_term (term.Iri i) x) (is_literal (term.Iri i) && is_literal x)
    (ap is_true (sym (ap (λ o. by_order o (equal_terms (term.Iri i) x)) (other_left (worth x)))) ∙ h)
iri_left (term.Blank n) x k h = absurd (let n : false ≡ true = k in cc)
iri_left (term.Literal l) x k h = absurd (let n : false ≡ true = k in cc)

alone_true : (x t : Term) → same_term x t ≡ true → is_one_of (t ∷ []) (Some x) ≡ true
alone_true x t e = ap (λ b. b || false) e

-- ---- `=`

equal_holds : (m : Solution) (a b : Expr) → holds m (expr.Compare Equal a b) ≡ is_true (of_both (compared Equal) (meaning m a) (meaning m b))
equal_holds m a b = ap (λ o. is_true (truth o)) (compare_is m Equal a b) ∙ ap is_true (truth_of (of_both (compared Equal) (meaning m a) (meaning m b)))

equal_to : (o : Option Term) (t : Term) → is_iri t ≡ true → is_true (of_both (compared Equal) o (Some t)) ≡ true → is_one_of (t ∷ []) o ≡ true
equal_to None t k h = refl
equal_to (Some x) t k h = alone_true x t (iri_right x t k h)

equal_from : (o : Option Term) (t : Term) → is_iri t ≡ true → is_true (of_both (compared Equal) (Some t) o) ≡ true → is_one_of (t ∷ []) o ≡ true
equal_from None t k h = refl
equal_from (Some x) t k h = alone_true x t (sym (turned t x) ∙ iri_left t x k h)

-- the term that an expression is
one_term : (e : Expr) (s t : Term) → e ≡ expr.Term s → e ≡ expr.Term t → s ≡ t
one_term e s t a b =
    let k : Some s ≡ Some t = sym (ap (meaning []) a ∙ term_is [] s) ∙ (ap (meaning []) b ∙ term_is [] t) in cc

iri_term : (e : Expr) (ts : List Term) (i : IsIri e) (o : IsOnly e ts) → is_iri o.one ≡ true
iri_term e ts i o = ap is_iri (sym (one_term e i.one o.one i.is o.is)) ∙ i.iri

alone_distinct : (e : Expr) (ts : List Term) → IsOnly e ts → Distinct same_term ts
alone_distinct e ts o = subst (Distinct same_term) (sym o.alone) (refl, tt)

pub equal_fixes : (v w : ℕ) (ts : List Term) (a b : Expr) → a ≡ expr.Variable v → w ≡ v → IsIri b → IsOnly b ts → Fixes w ts (expr.Compare Equal a b)
equal_fixes v w ts a b is n i o = subst (λ (u : ℕ). Fixes u ts (expr.Compare Equal a b)) (sym n) (record {
  distinct = alone_distinct b ts o;
  only = λ m h.
      subst (λ (l : List Term). is_one_of l (term_at m v) ≡ true) (sym o.alone)
      (equal_to (term_at m v) o.one (iri_term b ts i o)
      (ap is_true (sym (ap (λ x. of_both (compared Equal) x (meaning m b)) (ap (meaning m) is ∙ variable_is m v) ∙ ap (of_both (compared Equal) (term_at m v)) (ap (meaning m) o.is ∙ term_is m o.one)))
      ∙ (sym (equal_holds m a b) ∙ h)));
})

pub fixes_equal : (v w : ℕ) (ts : List Term) (a b : Expr) → b ≡ expr.Variable v → w ≡ v → IsIri a → IsOnly a ts → Fixes w ts (expr.Compare Equal a b)
fixes_equal v w ts a b is n i o = subst (λ (u : ℕ). Fixes u ts (expr.Compare Equal a b)) (sym n) (record {
  distinct = alone_distinct a ts o;
  only = λ m h.
      subst (λ (l : List Term). is_one_of l (term_at m v) ≡ true) (sym o.alone)
      (equal_from (term_at m v) o.one (iri_term a ts i o)
      (ap is_true (sym (ap (of_both (compared Equal) (meaning m a)) (ap (meaning m) is ∙ variable_is m v) ∙ ap (λ x. of_both (compared Equal) x (term_at m v)) (ap (meaning m) o.is ∙ term_is m o.one)))
      ∙ (sym (equal_holds m a b) ∙ h)));
})

-- ---- sameTerm

same_holds : (m : Solution) (a b : Expr) → holds m (expr.Binary SameTerm a b) ≡ is_true (truth (of_both (binary SameTerm) (meaning m a) (meaning m b)))
same_holds m a b = ap (λ o. is_true (truth o)) (binary_is m SameTerm a b)

same_to : (o : Option Term) (t : Term) → is_true (truth (of_both (binary SameTerm) o (Some t))) ≡ true → is_one_of (t ∷ []) o ≡ true
same_to None t h = refl
same_to (Some x) t h = alone_true x t (sym (ap is_true (truth_told (of_both (binary SameTerm) (Some x) (Some t)) (same_term x t) refl)) ∙ h)

same_from : (o : Option Term) (t : Term) → is_true (truth (of_both (binary SameTerm) (Some t) o)) ≡ true → is_one_of (t ∷ []) o ≡ true
same_from None t h = refl
same_from (Some x) t h = alone_true x t (sym (turned t x) ∙ (sym (ap is_true (truth_told (of_both (binary SameTerm) (Some t) (Some x)) (same_term t x) refl)) ∙ h))

pub same_fixes : (v w : ℕ) (ts : List Term) (a b : Expr) → a ≡ expr.Variable v → w ≡ v → IsOnly b ts → Fixes w ts (expr.Binary SameTerm a b)
same_fixes v w ts a b is n o = subst (λ (u : ℕ). Fixes u ts (expr.Binary SameTerm a b)) (sym n) (record {
  distinct = alone_distinct b ts o;
  only = λ m h.
      subst (λ (l : List Term). is_one_of l (term_at m v) ≡ true) (sym o.alone)
      (same_to (term_at m v) o.one
      (ap (λ x. is_true (truth x)) (sym (ap (λ x. of_both (binary SameTerm) x (meaning m b)) (ap (meaning m) is ∙ variable_is m v) ∙ ap (of_both (binary SameTerm) (term_at m v)) (ap (meaning m) o.is ∙ term_is m o.one)))
      ∙ (sym (same_holds m a b) ∙ h)));
})

pub fixes_same : (v w : ℕ) (ts : List Term) (a b : Expr) → b ≡ expr.Variable v → w ≡ v → IsOnly a ts → Fixes w ts (expr.Binary SameTerm a b)
fixes_same v w ts a b is n o = subst (λ (u : ℕ). Fixes u ts (expr.Binary SameTerm a b)) (sym n) (record {
  distinct = alone_distinct a ts o;
  only = λ m h.
      subst (λ (l : List Term). is_one_of l (term_at m v) ≡ true) (sym o.alone)
      (same_from (term_at m v) o.one
      (ap (λ x. is_true (truth x)) (sym (ap (of_both (binary SameTerm) (meaning m a)) (ap (meaning m) is ∙ variable_is m v) ∙ ap (λ x. of_both (binary SameTerm) x (term_at m v)) (ap (meaning m) o.is ∙ term_is m o.one)))
      ∙ (sym (same_holds m a b) ∙ h)));
})

-- ---- IN

true_either : (x y : Option Bool) → is_true (either x y) ≡ (is_true x || is_true y)
true_either (Some true) y = refl
true_either (Some false) y = refl
true_either None (Some true) = refl
true_either None (Some false) = refl
true_either None None = refl

among_these : (ts : List Term) (m : Solution) (x : Term) (es : List Expr) → AllByRecursion (Admits ts) es → is_true (among (Some x) (map (meaning m) es)) ≡ true → list_any (same_term x) ts ≡ true
among_these ts m x [] k h = absurd (let n : false ≡ true = h in cc)
among_these ts m x (e ∷ es) k h =
    at (is_true (of_both equal (Some x) (meaning m e))) (is_true (among (Some x) (map (meaning m) es))) refl refl
    (sym (true_either (of_both equal (Some x) (meaning m e)) (among (Some x) (map (meaning m) es))) ∙ h) (among_these ts m x es k.1)
  where
    at : (b c : Bool) → is_true (of_both equal (Some x) (meaning m e)) ≡ b → is_true (among (Some x) (map (meaning m) es)) ≡ c → (b || c) ≡ true → (is_true (among (Some x) (map (meaning m) es)) ≡ true → list_any (same_term x) ts ≡ true) → list_any (same_term x) ts ≡ true
    at true c f g i next = k.0.only m x f
    at false true f g i next = next g
    at false false f g i next = absurd (let n : false ≡ true = i in cc)

in_these : (ts : List Term) (m : Solution) (o : Option Term) (es : List Expr) → AllByRecursion (Admits ts) es → is_true (among o (map (meaning m) es)) ≡ true → is_one_of ts o ≡ true
in_these ts m None es k h = refl
in_these ts m (Some x) es k h = among_these ts m x es k h

pub in_fixes : (v : ℕ) (ts : List Term) (a : Expr) (es : List Expr) → a ≡ expr.Variable v → Distinct same_term ts → AllByRecursion (Admits ts) es → Fixes v ts (expr.In a es)
in_fixes v ts a es is d k = record {
  distinct = d;
  only = λ m h.
      in_these ts m (term_at m v) es k
      (ap (λ o. is_true (among o (map (meaning m) es))) (sym (ap (meaning m) is ∙ variable_is m v))
      ∙ (sym (ap (λ o. is_true (truth o)) (in_is m a es) ∙ ap is_true (truth_of (among (meaning m a) (map (meaning m) es)))) ∙ h));
}

-- ---- members, one after another

any_last : (x : Term) (ts : List Term) (t : Term) → list_any (same_term x) (ts ++ t ∷ []) ≡ (list_any (same_term x) ts || same_term x t)
any_last x [] t = at (same_term x t)
  where
    at : (b : Bool) → (b || false) ≡ b
    at true = refl
    at false = refl
any_last x (s ∷ ts) t = at (same_term x s) (any_last x ts t)
  where
    at : (b : Bool) → list_any (same_term x) (ts ++ t ∷ []) ≡ (list_any (same_term x) ts || same_term x t) → (b || list_any (same_term x) (ts ++ t ∷ [])) ≡ ((b || list_any (same_term x) ts) || same_term x t)
    at true h = refl
    at false h = h

distinct_last : (ts : List Term) (t : Term) → list_any (same_term t) ts ≡ false → Distinct same_term ts → Distinct same_term (ts ++ t ∷ [])
distinct_last [] t h d = (refl, tt)
distinct_last (s ∷ ts) t h d = (any_last s ts t ∙ neither (list_any (same_term s) ts) (same_term s t) d.0 (turned s t ∙ (none (same_term t s) (list_any (same_term t) ts) h).0), distinct_last ts t (none (same_term t s) (list_any (same_term t) ts) h).1 d.1)
  where
    none : (b c : Bool) → (b || c) ≡ false → (b ≡ false) × (c ≡ false)
    none true c k = let n : true ≡ false = k in cc
    none false c k = (refl, k)

    neither : (b c : Bool) → b ≡ false → c ≡ false → (b || c) ≡ false
    neither b c e f = ap (λ x. x || c) e ∙ f

or_right : (b : Bool) → (b || true) ≡ true
or_right true = refl
or_right false = refl

-- the term is among them then
pub new_admits : (e : Expr) (t : Term) (old new : List Term) → IsIri e → e ≡ expr.Term t → new ≡ with_new same_term old t → HasNew old e new
new_admits e t old new i is n = subst (HasNew old e) (sym n) (at (list_any (same_term t) old) refl)
  where
    iri : is_iri t ≡ true
    iri = ap is_iri (sym (one_term e i.one t i.is is)) ∙ i.iri

    is_same : (m : Solution) (x : Term) → is_true (of_both equal (Some x) (meaning m e)) ≡ true → x ≡ t
    is_same m x h = (same_term-Decides x t).0 (iri_right x t iri (ap (λ o. is_true (of_both equal (Some x) o)) (sym (ap (meaning m) is ∙ term_is m t)) ∙ h))

    at : (b : Bool) → list_any (same_term t) old ≡ b → HasNew old e (if b then old else old ++ t ∷ [])
    at true f = record {
      distinct = λ d. d;
      more = λ x h. h;
      admits = record { only = λ m x h. subst (λ (y : Term). list_any (same_term y) old ≡ true) (sym (is_same m x h)) f };
    }
    at false f = record {
      distinct = distinct_last old t f;
      more = λ x h. any_last x old t ∙ ap (λ b. b || same_term x t) h;
      admits = record {
        only = λ m x h.
            any_last x old t
            ∙ (ap (λ b. list_any (same_term x) old || b) (subst (λ (y : Term). same_term y t ≡ true) (sym (is_same m x h)) ((same_term-Decides t t).1 refl))
            ∙ or_right (list_any (same_term x) old));
      };
    }

-- one member more
pub members_more : (parts : List Expr) (i : ℕ) (e : Expr) (old new : List Term) → i < length parts → e ≡ get_or parts i e → HasNew old e new → Distinct same_term old × AllByRecursion (Admits old) (take i parts)
    → Distinct same_term new × AllByRecursion (Admits new) (take (i + 1) parts)
members_more parts i e old new lt is h k = (h.distinct k.0, all_more (Admits new) parts i e e lt is (each (take i parts) k.1) h.admits)
  where
    each : (es : List Expr) → AllByRecursion (Admits old) es → AllByRecursion (Admits new) es
    each [] a = tt
    each (d ∷ es) a = (record { only = λ m x g. h.more x (a.0.only m x g) }, each es a.1)

pub members_all : (parts : List Expr) (i : ℕ) (ts : List Term) → length parts ≤ i → Distinct same_term ts × AllByRecursion (Admits ts) (take i parts) → Distinct same_term ts × AllByRecursion (Admits ts) parts
members_all parts i ts le h = (h.0, subst (AllByRecursion (Admits ts)) (take_all i parts le) h.1)

-- ---- steps

module _ (v : ℕ) where
  pub join_keeps : (s : Step) (part : PatternNode) → s ≡ one.Join part → StepKeeps v s
  join_keeps s part is = subst (StepKeeps v) (sym is) (record {
    alike = λ width quads graph a b.
        subst (AllByRecursion (Alike v a)) (sym (step_join width quads graph part (a ∷ []) ∙ append-nil (merges (eval width quads part graph) a))) (merges_alike v (eval width quads part graph) a b);
  })

  pub left_join_keeps : (s : Step) (part : PatternNode) (conditions : List Expr) → s ≡ one.LeftJoin part conditions → StepKeeps v s
  left_join_keeps s part conditions is = subst (StepKeeps v) (sym is) (record {
    alike = λ width quads graph a b.
        (let found : List Solution = filter (all_hold conditions) (merges (eval width quads part graph) a) in
        subst (AllByRecursion (Alike v a)) (sym (step_left_join width quads graph part conditions (a ∷ []) ∙ append-nil (or_alone a found)))
        (alone_alike v a found (all_filter (Alike v a) (all_hold conditions) (merges (eval width quads part graph) a) (merges_alike v (eval width quads part graph) a b))));
  })

  pub minus_keeps_step : (s : Step) (part : PatternNode) → s ≡ one.Minus part → StepKeeps v s
  minus_keeps_step s part is = subst (StepKeeps v) (sym is) (record {
    alike = λ width quads graph a b.
        subst (AllByRecursion (Alike v a)) (sym (step_minus width quads graph part (a ∷ []))) (at a (not (list_any (excludes a) (eval width quads part graph))));
  })
    where
      at : (a : Solution) (b : Bool) → AllByRecursion (Alike v a) (cond b (a ∷ []) [])
      at a true = (refl, tt)
      at a false = tt

  pub extend_keeps : (s : Step) (w : ℕ) (e : Expr) → s ≡ one.Extend w e → not (w == v) ≡ true → StepKeeps v s
  extend_keeps s w e is h = subst (StepKeeps v) (sym is) (record {
    alike = λ width quads graph a b.
        subst (AllByRecursion (Alike v a)) (sym (step_extend width quads graph w e (a ∷ []))) (at a (meaning a e), tt);
  })
    where
      at : (a : Solution) (o : Option Term) → Alike v a (bound_to a w o)
      at a None = refl
      at a (Some t) = get_or-set_other a w v (Some t) None (λ k. differs w v h (sym k))
