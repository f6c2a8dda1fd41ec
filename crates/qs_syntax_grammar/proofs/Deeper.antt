-- More depth changes nothing, and as much depth as there are tokens is enough.
use Rattle.std.proofs.Common.{◌≡◌, ◌<◌, ◌≤◌, ℕ, zero, suc, Bool, true, not, ◌&&◌, ◌||◌, List, [], ◌∷◌, ◌++◌, length, Ok, refl, ap, inl, inr, arith, length-append}
use Rattle.std.proofs.lemmas.Bool.{and_from, or_left, or_right, and_parts, false≢true, cases_Bool, not_from_false}
use Rattle.qs_syntax_grammar.specs.Rule.{Language, Rule, token, empty, both, either, many, made, placed, ref, Spelt}
use Rattle.qs_syntax_grammar.specs.inner.Reading.{Reader, has, starts, first, nullable, apart, more, is_sure, reading, loop, and_then, opens}
use Rattle.qs_syntax_grammar.proofs.Outcomes.{IfRead, IfRead-weaker, IfRead-always, Extends, Extends-and_then, Extends-cond, IsShallow, IsShallow-and_then, IsShallow-cond, and_then_alike, cond_alike, LeavesAtMost, LeavesAtMost-and_then, LeavesAtMost-weaker, LeavesAtMost-cond}
use Rattle.qs_syntax_grammar.proofs.Sound.{Takes, sound}
use Rattle.qs_syntax_grammar.proofs.Begins.{begins, starts_at}
use Rattle.qs_syntax_grammar.proofs.Laws.{Lawful}

module _ (L : Language) (laws : Lawful L) where
  extends_loop : {A : Type 0} (ks : List L.Kind) (p p' : Reader L.Token A) → ((ts : List L.Token) → Extends (p ts) (p' ts)) → (n : ℕ) (ts : List L.Token) → Extends (loop L n ks p ts) (loop L n ks p' ts)
  extends_loop ks p p' h zero ts = inl refl
  extends_loop ks p p' h (suc n) ts = Extends-cond (starts L ks ts) _ _ _ _
      (Extends-and_then (p ts) (p' ts) _ _ (h ts) (λ x s. Extends-and_then (loop L n ks p s) (loop L n ks p' s) _ _ (extends_loop ks p p' h n s) (λ xs s'. inr refl)))
      (inr refl)

  module _ (fs : L.Name → List L.Kind) (env env' : (n : L.Name) → Reader L.Token (L.Tree n)) (named : (n : L.Name) (ts : List L.Token) → Extends (env n ts) (env' n ts)) where
    pub extends : {A : Type 0} (r : Rule L A) (ts : List L.Token) → Extends (reading fs env r ts) (reading fs env' r ts)
    extends (token k) ts = inr refl
    extends (empty a) ts = inr refl
    extends (both p q) ts = Extends-and_then (reading fs env p ts) (reading fs env' p ts) _ _ (extends p ts)
        (λ x s. Extends-and_then (reading fs env q s) (reading fs env' q s) _ _ (extends q s) (λ y s'. inr refl))
    extends (either p q) ts = Extends-cond (starts L (first fs p) ts) _ _ _ _ (extends p ts) (extends q ts)
    extends (many p) ts = extends_loop (first fs p) (reading fs env p) (reading fs env' p) (extends p) (suc (length ts)) ts
    extends (made f p) ts = Extends-and_then (reading fs env p ts) (reading fs env' p ts) _ _ (extends p ts) (λ x s. inr refl)
    extends (placed p) ts = Extends-and_then (reading fs env p ts) (reading fs env' p ts) _ _ (extends p ts) (λ x s. inr refl)
    extends (ref n) ts = named n ts

  pub leaves_loop : {A : Type 0} (ks : List L.Kind) (p : Reader L.Token A) → ((ts : List L.Token) → LeavesAtMost (length ts) (p ts)) → (n : ℕ) (ts : List L.Token) → LeavesAtMost (length ts) (loop L n ks p ts)
  leaves_loop ks p h zero ts = tt
  leaves_loop ks p h (suc n) ts = LeavesAtMost-cond (length ts) (starts L ks ts) _ _
      (LeavesAtMost-and_then (length ts) (p ts) _ (h ts) (λ x s l. LeavesAtMost-and_then (length ts) (loop L n ks p s) _
      (LeavesAtMost-weaker (length s) (length ts) (loop L n ks p s) l (leaves_loop ks p h n s)) (λ xs s' k. k)))
      (omega arith)

  module _ (fs : L.Name → List L.Kind) (env : (n : L.Name) → Reader L.Token (L.Tree n)) (named : (n : L.Name) (ts : List L.Token) → LeavesAtMost (length ts) (env n ts)) where
    pub leaves : {A : Type 0} (r : Rule L A) (ts : List L.Token) → LeavesAtMost (length ts) (reading fs env r ts)
    leaves (token k) [] = omega arith
    leaves (token k) (t ∷ ts) = LeavesAtMost-cond (length (t ∷ ts)) (has L (k ∷ []) (L.kind t)) _ _ (omega arith) (omega arith)
    leaves (empty a) ts = omega arith
    leaves (both p q) ts = LeavesAtMost-and_then (length ts) (reading fs env p ts) _ (leaves p ts) (λ x s l. LeavesAtMost-and_then (length ts) (reading fs env q s) _
        (LeavesAtMost-weaker (length s) (length ts) (reading fs env q s) l (leaves q s)) (λ y s' k. k))
    leaves (either p q) ts = LeavesAtMost-cond (length ts) (starts L (first fs p) ts) _ _ (leaves p ts) (leaves q ts)
    leaves (many p) ts = leaves_loop (first fs p) (reading fs env p) (leaves p) (suc (length ts)) ts
    leaves (made f p) ts = LeavesAtMost-and_then (length ts) (reading fs env p ts) _ (leaves p ts) (λ x s l. l)
    leaves (placed p) ts = LeavesAtMost-and_then (length ts) (reading fs env p ts) _ (leaves p ts) (λ x s l. l)
    leaves (ref n) ts = named n ts

  shorter_by : (ks : List L.Kind) (us rest : List L.Token) → starts L ks us ≡ true → length rest < length (us ++ rest)
  shorter_by ks [] rest h = absurd (false≢true h)
  shorter_by ks (t ∷ us) rest h = omega (arith, length-append us rest)

  -- a loop L has enough turns, once they are more than the tokens
  pub loop_same : {A : Type 0} (ks : List L.Kind) (p : Reader L.Token A) → ((ts : List L.Token) → IfRead (p ts) (λ x s. length s < length ts))
      → (n m : ℕ) (ts : List L.Token) → length ts < n → length ts < m → loop L n ks p ts ≡ loop L m ks p ts
  loop_same ks p h zero m ts l k = absurd (omega arith)
  loop_same ks p h (suc n) zero ts l k = absurd (omega arith)
  loop_same ks p h (suc n) (suc m) ts l k = cond_alike (starts L ks ts) _ _ _
      (λ _. and_then_alike (p ts) _ _ (IfRead-weaker (p ts) (λ x s. length s < length ts) _ (h ts)
      (λ x s g. ap (λ o. and_then o (λ xs s'. Ok (x ∷ xs, s'))) (loop_same ks p h n m s (omega arith) (omega arith)))))

  shallow_loop : {A : Type 0} (m : ℕ) (ks : List L.Kind) (p : Reader L.Token A) (o : Bool) → ((ts : List L.Token) → IfRead (p ts) (λ x s. length s < length ts))
      → ((ts : List L.Token) → length ts ≤ m → (o ≡ true → length ts < m) → IsShallow (p ts))
      → (n : ℕ) (ts : List L.Token) → length ts < n → length ts ≤ m → (o ≡ true → length ts < m) → IsShallow (loop L n ks p ts)
  shallow_loop m ks p o h k zero ts l b c = omega arith
  shallow_loop m ks p o h k (suc n) ts l b c = IsShallow-cond (starts L ks ts) _ _
      (λ _. IsShallow-and_then (p ts) _ (k ts b c) (IfRead-weaker (p ts) (λ x s. length s < length ts) _ (h ts)
      (λ x s g. IsShallow-and_then (loop L n ks p s) _ (shallow_loop m ks p o h k n s (omega arith) (omega arith) (λ _. omega arith))
      (IfRead-always (loop L n ks p s) _ (λ xs s'. tt)))))
      tt

  module _ (fs ms : L.Name → List L.Kind) (env : (n : L.Name) → Reader L.Token (L.Tree n)) (refs : (n : L.Name) → List L.Token → L.Tree n → Type 0)
      (named : (n : L.Name) (ts : List L.Token) (x : L.Tree n) → refs n ts x → starts L (fs n) ts ≡ true)
      (found : (n : L.Name) (ts : List L.Token) → IfRead (env n ts) (λ x rest. Takes (refs n) ts x rest)) where
    -- a rule that is not nullable takes a token
    pub consumes : {A : Type 0} (r : Rule L A) → is_sure fs ms r ≡ true → not (nullable r) ≡ true → (ts : List L.Token) → IfRead (reading fs env r ts) (λ x s. length s < length ts)
    consumes r s n ts = IfRead-weaker (reading fs env r ts) (λ x rest. Takes (Spelt refs r) ts x rest) (λ x s. length s < length ts) (sound L laws fs ms env refs named found r s ts)
        (λ x rest a. rw a.is (shorter_by (first fs r) a.part rest (starts_at L (first fs r) (nullable r) a.part n (begins L laws fs ms refs named r s a.part x a.spelt))))

    keeps : {A : Type 0} (r : Rule L A) → is_sure fs ms r ≡ true → (ts : List L.Token) → IfRead (reading fs env r ts) (λ x s. length s ≤ length ts)
    keeps r s ts = IfRead-weaker (reading fs env r ts) (λ x rest. Takes (Spelt refs r) ts x rest) (λ x s. length s ≤ length ts) (sound L laws fs ms env refs named found r s ts)
        (λ x rest a. rw a.is (omega (arith, length-append a.part rest)))

    module _ (m : ℕ) (enough : (n : L.Name) (ts : List L.Token) → length ts < m → IsShallow (env n ts)) where
      second : {A B : Type 0} (p : Rule L A) (q : Rule L B) → is_sure fs ms p ≡ true → (ts : List L.Token) → length ts ≤ m → ((opens p || (nullable p && opens q)) ≡ true → length ts < m)
          → IfRead (reading fs env p ts) (λ x s. (length s ≤ m) × (opens q ≡ true → length s < m))
      second p q s ts b c = elim (cases_Bool (nullable p)) [
        | inl e ↦ IfRead-weaker (reading fs env p ts) (λ x s. length s ≤ length ts) _ (keeps p s ts)
            (λ x s l. (omega arith, λ o. let k : length ts < m = c (or_right (opens p) (nullable p && opens q) (and_from (nullable p) (opens q) e o)) in omega arith))
        | inr e ↦ IfRead-weaker (reading fs env p ts) (λ x s. length s < length ts) _ (consumes p s (not_from_false (nullable p) e) ts)
            (λ x s l. (omega arith, λ o. omega arith))
      ]

      pub shallow : {A : Type 0} (r : Rule L A) → is_sure fs ms r ≡ true → (ts : List L.Token) → length ts ≤ m → (opens r ≡ true → length ts < m) → IsShallow (reading fs env r ts)
      shallow (token k) s [] b c = tt
      shallow (token k) s (t ∷ ts) b c = IsShallow-cond (has L (k ∷ []) (L.kind t)) _ _ (λ _. tt) tt
      shallow (empty a) s ts b c = tt
      shallow (both p q) s ts b c =
          let a = and_parts (is_sure fs ms p && is_sure fs ms q) (apart L (more fs ms p) (first fs q)) s in
          let d = and_parts (is_sure fs ms p) (is_sure fs ms q) a.0 in
          IsShallow-and_then (reading fs env p ts) _ (shallow p d.0 ts b (λ o. c (or_left (opens p) (nullable p && opens q) o)))
          (IfRead-weaker (reading fs env p ts) (λ x s. (length s ≤ m) × (opens q ≡ true → length s < m)) _ (second p q d.0 ts b c)
          (λ x s l. IsShallow-and_then (reading fs env q s) _ (shallow q d.1 s l.0 l.1) (IfRead-always (reading fs env q s) _ (λ y s'. tt))))
      shallow (either p q) s ts b c =
          let a = and_parts (is_sure fs ms p && is_sure fs ms q && apart L (first fs p) (first fs q)) (not (nullable p)) s in
          let d = and_parts (is_sure fs ms p && is_sure fs ms q) (apart L (first fs p) (first fs q)) a.0 in
          let e = and_parts (is_sure fs ms p) (is_sure fs ms q) d.0 in
          IsShallow-cond (starts L (first fs p) ts) _ _ (λ _. shallow p e.0 ts b (λ o. c (or_left (opens p) (opens q) o))) (shallow q e.1 ts b (λ o. c (or_right (opens p) (opens q) o)))
      shallow (many p) s ts b c =
          let a = and_parts (is_sure fs ms p && apart L (more fs ms p) (first fs p)) (not (nullable p)) s in
          let d = and_parts (is_sure fs ms p) (apart L (more fs ms p) (first fs p)) a.0 in
          shallow_loop m (first fs p) (reading fs env p) (opens p) (consumes p d.0 a.1) (shallow p d.0) (suc (length ts)) ts (omega arith) b c
      shallow (made f p) s ts b c = IsShallow-and_then (reading fs env p ts) _ (shallow p s ts b c) (IfRead-always (reading fs env p ts) _ (λ x s. tt))
      shallow (placed p) s ts b c =
          let a = and_parts (is_sure fs ms p) (not (nullable p)) s in
          IsShallow-and_then (reading fs env p ts) _ (shallow p a.0 ts b c) (IfRead-always (reading fs env p ts) _ (λ x i. tt))
      shallow (ref n) s ts b c = enough n ts (c refl)
