-- Variables that settle expressions.
use Rattle.std.proofs.Common.{◌≡◌, ℕ, ◌+◌, ◌<◌, ◌≤◌, List, [], ◌∷◌, ◌++◌, length, map, take, get_or, refl, sym, ◌∙◌, ap, subst}
use Rattle.std.specs.List.{AllByRecursion, fold}
use Rattle.std.specs.Option.{option_map}
use Rattle.std.proofs.lemmas.List.{take_all, take_more}
use Rattle.qs_terms.specs.declared.term.Term.{Term as RdfTerm}
use Rattle.qs_algebra_solutions.specs.Solution.{Solution, term_at}
use Rattle.qs_expr_meaning.specs.Truth.{any, every, denied}
use Rattle.qs_expr_meaning.specs.Calls.{joined, strings}
use Rattle.qs_expr_meaning.specs.Meaning.{added, among, first_value, meaning, multiplied, number, truth}
use Rattle.qs_expr_meaning.specs.inner.Meaning.{boolean_value, integer_value, addend_meaning}
use Rattle.qs_expr_meaning.specs.declared.expr.Addend.{Addend}
use Rattle.qs_expr_meaning.specs.declared.expr.Expr.{Expr}
use Rattle.qs_expr_meaning.specs.declared.expr.Expr.TheVariants.{Variable, Term, Bound, Not, Signed, Unary, Compare, Binary, If, Or, And, Coalesce, Concat, In, NotIn, Sum, Product}
use Rattle.qs_syntax_tree.specs.declared.expression.Comparison.{Comparison}
use Rattle.qs_syntax_tree.specs.declared.expression.Sign.{Sign}
use Rattle.qs_syntax_tree.specs.declared.expression.UnaryFunction.{UnaryFunction}
use Rattle.qs_syntax_tree.specs.declared.expression.BinaryFunction.{BinaryFunction}
use Rattle.qs_expr_meaning.proofs.Equations.{variable_is, term_is, bound_is, not_is, signed_is, unary_is, compare_is, binary_is, or_is, and_is, coalesce_is, concat_is, if_is, in_is, not_in_is, product_is, sum_is, addend_is}
use Rattle.qs_plan.specs.inner.Reads.{Agree, Settles, SettlesOperand, Grows}

pub grows_same : (vs : List ℕ) → Grows vs vs
grows_same vs = record { agree = λ m x h. h }

pub grows_more : (a b c : List ℕ) → Grows a b → Grows b c → Grows a c
grows_more a b c h k = record { agree = λ m x g. h.agree m x (k.agree m x g) }

pub settles_more : (a b : List ℕ) (e : Expr) → Grows a b → Settles a e → Settles b e
settles_more a b e h k = record { same = λ m x g. k.same m x (h.agree m x g) }

all_more : (a b : List ℕ) → Grows a b → (es : List Expr) → AllByRecursion (Settles a) es → AllByRecursion (Settles b) es
all_more a b h [] k = tt
all_more a b h (e ∷ es) k = (settles_more a b e h k.0, all_more a b h es k.1)

all_append : (vs : List ℕ) (es ds : List Expr) → AllByRecursion (Settles vs) es → AllByRecursion (Settles vs) ds → AllByRecursion (Settles vs) (es ++ ds)
all_append vs [] ds h k = k
all_append vs (e ∷ es) ds h k = (h.0, all_append vs es ds h.1 k)

-- one part more
pub part_settled : (parts : List Expr) (i : ℕ) (e : Expr) (a b : List ℕ) → i < length parts → e ≡ get_or parts i e → AllByRecursion (Settles a) (take i parts) → Grows a b → Settles b e → AllByRecursion (Settles b) (take (i + 1) parts)
part_settled parts i e a b l is h g k =
    subst (AllByRecursion (Settles b)) (sym (take_more parts i e l))
    (all_append b (take i parts) (get_or parts i e ∷ []) (all_more a b g (take i parts) h) (subst (Settles b) is k, tt))

pub all_settled : (parts : List Expr) (i : ℕ) (a : List ℕ) → length parts ≤ i → AllByRecursion (Settles a) (take i parts) → AllByRecursion (Settles a) parts
all_settled parts i a l h = subst (AllByRecursion (Settles a)) (take_all i parts l) h

same_each : (vs : List ℕ) (m x : Solution) → Agree vs m x → (es : List Expr) → AllByRecursion (Settles vs) es → map (meaning x) es ≡ map (meaning m) es
same_each vs m x b [] h = refl
same_each vs m x b (e ∷ es) h = ap (λ v. v ∷ map (meaning x) es) (h.0.same m x b) ∙ ap (λ l. meaning m e ∷ l) (same_each vs m x b es h.1)

module _ (vs : List ℕ) (e : Expr) (es slice : List Expr) (j : slice ≡ es) (h : AllByRecursion (Settles vs) slice) where
  each : (m x : Solution) → Agree vs m x → map (meaning x) es ≡ map (meaning m) es
  each m x b = same_each vs m x b es (subst (AllByRecursion (Settles vs)) j h)

  pub or_settled : e ≡ Or es → Settles vs e
  or_settled is = record {
    same = λ m x b.
        ap (meaning x) is ∙ (or_is x es ∙ (ap (λ l. boolean_value (any (map truth l))) (each m x b) ∙ sym (ap (meaning m) is ∙ or_is m es)));
  }

  pub and_settled : e ≡ And es → Settles vs e
  and_settled is = record {
    same = λ m x b.
        ap (meaning x) is ∙ (and_is x es ∙ (ap (λ l. boolean_value (every (map truth l))) (each m x b) ∙ sym (ap (meaning m) is ∙ and_is m es)));
  }

  pub coalesce_settled : e ≡ Coalesce es → Settles vs e
  coalesce_settled is = record {
    same = λ m x b.
        ap (meaning x) is ∙ (coalesce_is x es ∙ (ap first_value (each m x b) ∙ sym (ap (meaning m) is ∙ coalesce_is m es)));
  }

  pub concat_settled : e ≡ Concat es → Settles vs e
  concat_settled is = record {
    same = λ m x b.
        ap (meaning x) is ∙ (concat_is x es ∙ (ap (λ l. option_map joined (strings l)) (each m x b) ∙ sym (ap (meaning m) is ∙ concat_is m es)));
  }

  pub product_settled : (us : List ℕ) (a d : Expr) → d ≡ a → Grows us vs → Settles us d → e ≡ Product a es → Settles vs e
  product_settled us a d k g s is = record {
    same = λ m x b.
        let t : meaning x a ≡ meaning m a = subst (λ (y : Expr). meaning x y ≡ meaning m y) k (s.same m x (g.agree m x b)) in
        ap (meaning x) is ∙ (product_is x a es ∙ (ap (λ l. integer_value (fold multiplied (number (meaning x a)) l)) (each m x b) ∙ (ap (λ v. integer_value (fold multiplied (number v) (map (meaning m) es))) t ∙ sym (ap (meaning m) is ∙ product_is m a es))));
  }

  pub in_settled : (us : List ℕ) (a d : Expr) → d ≡ a → Grows us vs → Settles us d → e ≡ In a es → Settles vs e
  in_settled us a d k g s is = record {
    same = λ m x b.
        let t : meaning x a ≡ meaning m a = subst (λ (y : Expr). meaning x y ≡ meaning m y) k (s.same m x (g.agree m x b)) in
        ap (meaning x) is ∙ (in_is x a es ∙ (ap (λ l. boolean_value (among (meaning x a) l)) (each m x b) ∙ (ap (λ v. boolean_value (among v (map (meaning m) es))) t ∙ sym (ap (meaning m) is ∙ in_is m a es))));
  }

  pub not_in_settled : (us : List ℕ) (a d : Expr) → d ≡ a → Grows us vs → Settles us d → e ≡ NotIn a es → Settles vs e
  not_in_settled us a d k g s is = record {
    same = λ m x b.
        let t : meaning x a ≡ meaning m a = subst (λ (y : Expr). meaning x y ≡ meaning m y) k (s.same m x (g.agree m x b)) in
        ap (meaning x) is ∙ (not_in_is x a es ∙ (ap (λ l. boolean_value (denied (among (meaning x a) l))) (each m x b) ∙ (ap (λ v. boolean_value (denied (among v (map (meaning m) es)))) t ∙ sym (ap (meaning m) is ∙ not_in_is m a es))));
  }

front : (m x : Solution) (v : ℕ) (us : List ℕ) → Agree (us ++ v ∷ []) m x → Agree us m x
front m x v [] h = tt
front m x v (u ∷ us) h = (h.0, front m x v us h.1)

pub one_more : (vs : List ℕ) (v : ℕ) → Grows vs (vs ++ v ∷ [])
one_more vs v = record { agree = λ m x h. front m x v vs h }

last_agrees : (vs : List ℕ) (v : ℕ) (m x : Solution) → Agree (vs ++ v ∷ []) m x → term_at x v ≡ term_at m v
last_agrees [] v m x h = h.0
last_agrees (u ∷ vs) v m x h = last_agrees vs v m x h.1

pub variable_settled : (vs new : List ℕ) (v : ℕ) (e : Expr) → e ≡ Variable v → new ≡ vs ++ v ∷ [] → Settles new e
variable_settled vs new v e is n = subst (λ (l : List ℕ). Settles l e) (sym n) (subst (Settles (vs ++ v ∷ [])) (sym is) (record { same = λ m x h. variable_is x v ∙ (last_agrees vs v m x h ∙ sym (variable_is m v)) }))

pub bound_settled : (vs new : List ℕ) (v : ℕ) (e : Expr) → e ≡ Bound v → new ≡ vs ++ v ∷ [] → Settles new e
bound_settled vs new v e is n = subst (λ (l : List ℕ). Settles l e) (sym n) (subst (Settles (vs ++ v ∷ [])) (sym is) (record { same = λ m x h. let k : term_at x v ≡ term_at m v = last_agrees vs v m x h in let a = bound_is x v in let b = bound_is m v in cc }))

pub grows_by_one : (vs new : List ℕ) (v : ℕ) → new ≡ vs ++ v ∷ [] → Grows vs new
grows_by_one vs new v e = subst (Grows vs) (sym e) (one_more vs v)

pub term_settled : (vs : List ℕ) (t : RdfTerm) (e : Expr) → e ≡ Term t → Settles vs e
term_settled vs t e is = subst (Settles vs) (sym is) (record { same = λ m x h. term_is x t ∙ sym (term_is m t) })

-- ---- operators of one and of two

pub not_settled : (vs : List ℕ) (e a d : Expr) → e ≡ Not a → d ≡ a → Settles vs d → Settles vs e
not_settled vs e a d is k s = subst (Settles vs) (sym is) (record { same = λ m x h. let q : meaning x a ≡ meaning m a = subst (λ (y : Expr). meaning x y ≡ meaning m y) k (s.same m x h) in let f = not_is x a in let g = not_is m a in cc })

pub signed_settled : (vs : List ℕ) (sign : Sign) (e a d : Expr) → e ≡ Signed sign a → d ≡ a → Settles vs d → Settles vs e
signed_settled vs sign e a d is k s = subst (Settles vs) (sym is) (record { same = λ m x h. let q : meaning x a ≡ meaning m a = subst (λ (y : Expr). meaning x y ≡ meaning m y) k (s.same m x h) in let f = signed_is x sign a in let g = signed_is m sign a in cc })

pub unary_settled : (vs : List ℕ) (u : UnaryFunction) (e a d : Expr) → e ≡ Unary u a → d ≡ a → Settles vs d → Settles vs e
unary_settled vs u e a d is k s = subst (Settles vs) (sym is) (record { same = λ m x h. let q : meaning x a ≡ meaning m a = subst (λ (y : Expr). meaning x y ≡ meaning m y) k (s.same m x h) in let f = unary_is x u a in let g = unary_is m u a in cc })

pub compare_settled : (us vs : List ℕ) (o : Comparison) (e a b a' b' : Expr) → e ≡ Compare o a b → a' ≡ a → b' ≡ b → Settles us a' → Grows us vs → Settles vs b' → Settles vs e
compare_settled us vs o e a b a' b' is k l s g t = subst (Settles vs) (sym is) (record {
  same = λ m x h.
      let q : meaning x a ≡ meaning m a = subst (λ (y : Expr). meaning x y ≡ meaning m y) k (s.same m x (g.agree m x h)) in
      let r : meaning x b ≡ meaning m b = subst (λ (y : Expr). meaning x y ≡ meaning m y) l (t.same m x h) in
      let f = compare_is x o a b in let p = compare_is m o a b in cc;
})

pub binary_settled : (us vs : List ℕ) (o : BinaryFunction) (e a b a' b' : Expr) → e ≡ Binary o a b → a' ≡ a → b' ≡ b → Settles us a' → Grows us vs → Settles vs b' → Settles vs e
binary_settled us vs o e a b a' b' is k l s g t = subst (Settles vs) (sym is) (record {
  same = λ m x h.
      let q : meaning x a ≡ meaning m a = subst (λ (y : Expr). meaning x y ≡ meaning m y) k (s.same m x (g.agree m x h)) in
      let r : meaning x b ≡ meaning m b = subst (λ (y : Expr). meaning x y ≡ meaning m y) l (t.same m x h) in
      let f = binary_is x o a b in let p = binary_is m o a b in cc;
})

pub if_settled : (us vs ws : List ℕ) (e c a b c' a' b' : Expr) → e ≡ If c a b → c' ≡ c → a' ≡ a → b' ≡ b → Settles us c' → Grows us vs → Settles vs a' → Grows vs ws → Settles ws b' → Settles ws e
if_settled us vs ws e c a b c' a' b' is k l n s g t h w = subst (Settles ws) (sym is) (record {
  same = λ m x i.
      let p : meaning x c ≡ meaning m c = subst (λ (y : Expr). meaning x y ≡ meaning m y) k (s.same m x (g.agree m x (h.agree m x i))) in
      let q : meaning x a ≡ meaning m a = subst (λ (y : Expr). meaning x y ≡ meaning m y) l (t.same m x (h.agree m x i)) in
      let r : meaning x b ≡ meaning m b = subst (λ (y : Expr). meaning x y ≡ meaning m y) n (w.same m x i) in
      let f = if_is x c a b in let d = if_is m c a b in cc;
})

-- ---- sums

operands_more : (a b : List ℕ) → Grows a b → (es : List Addend) → AllByRecursion (SettlesOperand a) es → AllByRecursion (SettlesOperand b) es
operands_more a b h [] k = tt
operands_more a b h (e ∷ es) k = (settles_more a b e.operand h k.0, operands_more a b h es k.1)

operands_append : (vs : List ℕ) (es ds : List Addend) → AllByRecursion (SettlesOperand vs) es → AllByRecursion (SettlesOperand vs) ds → AllByRecursion (SettlesOperand vs) (es ++ ds)
operands_append vs [] ds h k = k
operands_append vs (e ∷ es) ds h k = (h.0, operands_append vs es ds h.1 k)

-- one operand more
pub addend_settled : (addends : List Addend) (i : ℕ) (d : Addend) (a b : List ℕ) → i < length addends → d ≡ get_or addends i d → AllByRecursion (SettlesOperand a) (take i addends) → Grows a b → Settles b d.operand → AllByRecursion (SettlesOperand b) (take (i + 1) addends)
addend_settled addends i d a b l is h g k =
    subst (AllByRecursion (SettlesOperand b)) (sym (take_more addends i d l))
    (operands_append b (take i addends) (get_or addends i d ∷ []) (operands_more a b g (take i addends) h) (subst (SettlesOperand b) is k, tt))

pub addends_settled : (addends : List Addend) (i : ℕ) (a : List ℕ) → length addends ≤ i → AllByRecursion (SettlesOperand a) (take i addends) → AllByRecursion (SettlesOperand a) addends
addends_settled addends i a l h = subst (AllByRecursion (SettlesOperand a)) (take_all i addends l) h

same_operands : (vs : List ℕ) (m x : Solution) → Agree vs m x → (es : List Addend) → AllByRecursion (SettlesOperand vs) es → map (addend_meaning x) es ≡ map (addend_meaning m) es
same_operands vs m x b [] h = refl
same_operands vs m x b (e ∷ es) h =
    ap (λ v. v ∷ map (addend_meaning x) es) (addend_is x e ∙ (ap (λ v. (e.sign, v)) (h.0.same m x b) ∙ sym (addend_is m e))) ∙ ap (λ l. addend_meaning m e ∷ l) (same_operands vs m x b es h.1)

pub sum_settled : (us vs : List ℕ) (e a d : Expr) (more slice : List Addend) → slice ≡ more → AllByRecursion (SettlesOperand vs) slice → d ≡ a → Grows us vs → Settles us d → e ≡ Sum a more → Settles vs e
sum_settled us vs e a d more slice j h k g s is = record {
  same = λ m x b.
      let t : meaning x a ≡ meaning m a = subst (λ (y : Expr). meaning x y ≡ meaning m y) k (s.same m x (g.agree m x b)) in
      ap (meaning x) is
      ∙ (sum_is x a more
      ∙ (ap (λ l. integer_value (fold added (number (meaning x a)) l)) (same_operands vs m x b more (subst (AllByRecursion (SettlesOperand vs)) j h))
      ∙ (ap (λ v. integer_value (fold added (number v) (map (addend_meaning m) more))) t ∙ sym (ap (meaning m) is ∙ sum_is m a more))));
}
