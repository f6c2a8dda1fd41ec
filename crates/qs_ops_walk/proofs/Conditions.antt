-- Conditions, one after another.
use Rattle.std.proofs.Common.{◌≡◌, ℕ, zero, suc, ◌+◌, ◌<◌, ◌≤◌, Bool, true, false, ◌&&◌, List, [], ◌∷◌, ◌++◌, length, get_or, map, take, refl, sym, ◌∙◌, ap, subst, add-one, arith}
use Rattle.std.specs.List.{AllByRecursion}
use Rattle.qs_algebra_solutions.specs.Solution.{Solution}
use Rattle.qs_algebra_patterns.specs.Eval.{all_hold}
use Rattle.qs_expr_meaning.specs.Meaning.{holds}
use Rattle.qs_expr_meaning.specs.declared.expr.Expr.{Expr}
use Rattle.qs_expr.specs.inner.Condition.{Prepared}
use Rattle.qs_ops_walk.specs.inner.Works.{expr_of}

pub all_at : {X : Type 0} (P : X → Type 0) (xs : List X) (i : ℕ) (x : X) → i < length xs → x ≡ get_or xs i x → AllByRecursion P xs → P x
all_at P [] i x l e h = absurd (omega arith)
all_at P (y ∷ xs) zero x l e h = subst P (sym e) h.0
all_at P (y ∷ xs) (suc i) x l e h = all_at P xs i x (omega arith) e h.1

module _ (m : Solution) where
  more : (cs : List Prepared) (i : ℕ) (c : Prepared) → i < length cs → c ≡ get_or cs i c → all_hold (map expr_of (take i cs)) m ≡ true → holds m c.expr ≡ true → all_hold (map expr_of (take (suc i) cs)) m ≡ true
  more [] i c l e h k = absurd (omega arith)
  more (d ∷ cs) zero c l e h k =
      let a : holds m d.expr ≡ true = ap (λ (p : Prepared). holds m p.expr) (sym e) ∙ k in
      let b : all_hold (map expr_of (take 0 cs)) m ≡ true = none cs in
      ap (λ (x : Bool). x && all_hold (map expr_of (take 0 cs)) m) a ∙ b
    where
      none : (cs : List Prepared) → all_hold (map expr_of (take 0 cs)) m ≡ true
      none [] = refl
      none (c ∷ cs) = refl
  more (d ∷ cs) (suc i) c l e h k =
      let p : (holds m d.expr ≡ true) × (all_hold (map expr_of (take i cs)) m ≡ true) = both (holds m d.expr) (all_hold (map expr_of (take i cs)) m) h in
      ap (λ (x : Bool). x && all_hold (map expr_of (take (suc i) cs)) m) p.0 ∙ more cs i c (omega arith) e p.1 k
    where
      both : (a b : Bool) → (a && b) ≡ true → (a ≡ true) × (b ≡ true)
      both true b f = (refl, f)
      both false b f = absurd (cc)

  pub conditions_more : (cs : List Prepared) (i : ℕ) (c : Prepared) → i < length cs → c ≡ get_or cs i c → all_hold (map expr_of (take i cs)) m ≡ true → holds m c.expr ≡ true → all_hold (map expr_of (take (i + 1) cs)) m ≡ true
  conditions_more cs i c l e h k = rw add-one (more cs i c l e h k)

  pub conditions_fail : (cs : List Prepared) (i : ℕ) (c : Prepared) → i < length cs → c ≡ get_or cs i c → holds m c.expr ≡ false → all_hold (map expr_of cs) m ≡ false
  conditions_fail [] i c l e k = absurd (omega arith)
  conditions_fail (d ∷ cs) zero c l e k = ap (λ (x : Bool). x && all_hold (map expr_of cs) m) (ap (λ (p : Prepared). holds m p.expr) (sym e) ∙ k)
  conditions_fail (d ∷ cs) (suc i) c l e k = second (holds m d.expr) (all_hold (map expr_of cs) m) (conditions_fail cs i c (omega arith) e k)
    where
      second : (a b : Bool) → b ≡ false → (a && b) ≡ false
      second true b f = f
      second false b f = refl

  pub conditions_end : (cs : List Prepared) (i : ℕ) → length cs ≤ i → all_hold (map expr_of (take i cs)) m ≡ true → all_hold (map expr_of cs) m ≡ true
  conditions_end [] zero l h = refl
  conditions_end [] (suc i) l h = refl
  conditions_end (d ∷ cs) zero l h = absurd (omega arith)
  conditions_end (d ∷ cs) (suc i) l h =
      let p : (holds m d.expr ≡ true) × (all_hold (map expr_of (take i cs)) m ≡ true) = both (holds m d.expr) (all_hold (map expr_of (take i cs)) m) h in
      ap (λ (x : Bool). x && all_hold (map expr_of cs) m) p.0 ∙ conditions_end cs i (omega arith) p.1
    where
      both : (a b : Bool) → (a && b) ≡ true → (a ≡ true) × (b ≡ true)
      both true b f = (refl, f)
      both false b f = absurd (cc)

-- ---- prepared, one after another
pub exprs_push : (cs : List Prepared) (c : Prepared) → map expr_of (cs ++ c ∷ []) ≡ map expr_of cs ++ c.expr ∷ []
exprs_push [] c = refl
exprs_push (d ∷ cs) c = ap (λ (es : List Expr). d.expr ∷ es) (exprs_push cs c)

pub take_next : {X : Type 0} (xs : List X) (i : ℕ) (x : X) → i < length xs → x ≡ get_or xs i x → take (i + 1) xs ≡ take i xs ++ x ∷ []
take_next xs i x l e = rw add-one (next xs i x l e)
  where
    next : {X : Type 0} (xs : List X) (i : ℕ) (x : X) → i < length xs → x ≡ get_or xs i x → take (suc i) xs ≡ take i xs ++ x ∷ []
    next [] i x l e = absurd (omega arith)
    next (y ∷ xs) zero x l e = ap (λ z. z ∷ take 0 xs) (sym e) ∙ empty xs x
      where
        empty : {X : Type 0} (xs : List X) (x : X) → x ∷ take 0 xs ≡ x ∷ []
        empty [] x = refl
        empty (y ∷ xs) x = refl
    next (y ∷ xs) (suc i) x l e = ap (λ zs. y ∷ zs) (next xs i x (omega arith) e)
