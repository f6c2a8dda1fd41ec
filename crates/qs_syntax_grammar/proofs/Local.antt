-- What is read, or where no tree can be read, does not hang on tokens beyond that place.
use Rattle.std.proofs.Common.{◌≡◌, ◌≤◌, ℕ, zero, suc, ◌+◌, Bool, true, false, cond, not, ◌&&◌, List, [], ◌∷◌, length, Ok, Err, refl, ap, inl, inr, ◌⊎◌, arith}
use Rattle.std.proofs.lemmas.Bool.{and_parts}
use Rattle.qs_syntax_grammar.specs.declared.fault.Fault.TheVariants.{Memory, Deep, Syntax}
use Rattle.qs_syntax_grammar.specs.Rule.{Language, place_of, Rule, token, empty, both, either, many, made, placed, ref}
use Rattle.qs_syntax_grammar.specs.inner.Reading.{Reader, Outcome, take_kind, has, starts, first, nullable, apart, more, is_sure, reading, loop, and_then}
use Rattle.qs_syntax_grammar.proofs.Outcomes.{IfRead, LeavesAtMost, LeavesAtMost-and_then, LeavesAtMost-weaker}
use Rattle.qs_syntax_grammar.proofs.Sound.{Takes}
use Rattle.qs_syntax_grammar.proofs.Deeper.{leaves, leaves_loop, consumes, loop_same}
use Rattle.qs_syntax_grammar.proofs.Laws.{Lawful}

-- two lists that are the same up to a token, and with it
pub data Twin {T : Type 0} (t : T) (w v : List T) : List T → List T → Type 0 where
  here : Twin t w v (t ∷ w) (t ∷ v)
  there : {x : T} {xs ys : List T} → Twin t w v xs ys → Twin t w v (x ∷ xs) (x ∷ ys)

-- the first outcome came before that token was passed, and then the second is the same
abbrev pub Alike : {T A : Type 0} (t : T) (w v : List T) → Outcome T A → Outcome T A → Type 0
Alike {T} t w v (Ok p) o = (length p.1 ≤ length w) ⊎ ((s : List T) × Twin t w v p.1 s × (o ≡ Ok (p.0, s)))
Alike t w v (Err (Syntax n)) o = (n ≤ length w) ⊎ ((m : ℕ) × (o ≡ Err (Syntax m)))
Alike t w v (Err Deep) o = Unit {0}
Alike t w v (Err Memory) o = Unit {0}

module _ (L : Language) (laws : Lawful L) where
  module _ (t : L.Token) (w v : List L.Token) where
    beyond : {A : Type 0} (o o' : Outcome L.Token A) → LeavesAtMost (length w) o → Alike t w v o o'
    beyond (Ok p) o' h = inl h
    beyond (Err (Syntax n)) o' h = inl h
    beyond (Err Deep) o' h = tt
    beyond (Err Memory) o' h = tt

    Alike-and_then : {A B : Type 0} (o o' : Outcome L.Token A) (f g : A → List L.Token → Outcome L.Token B) → Alike t w v o o'
        → ((x : A) (s : List L.Token) → length s ≤ length w → LeavesAtMost (length w) (f x s))
        → ((x : A) (s s' : List L.Token) → Twin t w v s s' → Alike t w v (f x s) (g x s')) → Alike t w v (and_then o f) (and_then o' g)
    Alike-and_then (Ok p) o' f g (inl h) b k = beyond (f p.0 p.1) (and_then o' g) (b p.0 p.1 h)
    Alike-and_then (Ok p) o' f g (inr h) b k = rw h.2 (k p.0 p.1 h.0 h.1)
    Alike-and_then (Err (Syntax n)) o' f g (inl h) b k = inl h
    Alike-and_then (Err (Syntax n)) o' f g (inr h) b k = inr (h.0, rw h.1 refl)
    Alike-and_then (Err Deep) o' f g h b k = tt
    Alike-and_then (Err Memory) o' f g h b k = tt

    Alike-cond : {A : Type 0} (b b' : Bool) (x x' y y' : Outcome L.Token A) → b' ≡ b → Alike t w v x x' → Alike t w v y y' → Alike t w v (cond b x y) (cond b' x' y')
    Alike-cond true b' x x' y y' e h k = rw e h
    Alike-cond false b' x x' y y' e h k = rw e k

    same_start : (ks : List L.Kind) {ts ts' : List L.Token} → Twin t w v ts ts' → starts L ks ts' ≡ starts L ks ts
    same_start ks here = refl
    same_start ks (there h) = refl

    same_place : {ts ts' : List L.Token} → Twin t w v ts ts' → place_of L ts' ≡ place_of L ts
    same_place here = refl
    same_place (there h) = refl

    alike_token : (k : L.Kind) {ts ts' : List L.Token} → Twin t w v ts ts' → Alike t w v (take_kind L k ts) (take_kind L k ts')
    alike_token k here = Alike-cond (has L (k ∷ []) (L.kind t)) (has L (k ∷ []) (L.kind t)) _ _ _ _ refl (inl (omega arith)) (inr (_, refl))
    alike_token k (there {x} {xs} {ys} h) = Alike-cond (has L (k ∷ []) (L.kind x)) (has L (k ∷ []) (L.kind x)) _ _ _ _ refl (inr (ys, h, refl)) (inr (_, refl))

    alike_loop : {A : Type 0} (ks : List L.Kind) (p : Reader L.Token A) → ((ts : List L.Token) → LeavesAtMost (length ts) (p ts))
        → ((ts ts' : List L.Token) → Twin t w v ts ts' → Alike t w v (p ts) (p ts')) → (n : ℕ) (ts ts' : List L.Token) → Twin t w v ts ts' → Alike t w v (loop L n ks p ts) (loop L n ks p ts')
    alike_loop ks p l h zero ts ts' e = tt
    alike_loop ks p l h (suc n) ts ts' e = Alike-cond (starts L ks ts) (starts L ks ts') _ _ _ _ (same_start ks e)
        (Alike-and_then (p ts) (p ts') _ _ (h ts ts' e)
        (λ x s b. LeavesAtMost-and_then (length w) (loop L n ks p s) _ (LeavesAtMost-weaker (length s) (length w) (loop L n ks p s) b (leaves_loop L laws ks p l n s)) (λ xs s' c. c))
        (λ x s s' c. Alike-and_then (loop L n ks p s) (loop L n ks p s') _ _ (alike_loop ks p l h n s s' c) (λ xs i d. d) (λ xs i i' d. inr (i', d, refl))))
        (inr (ts', e, refl))

    module _ (fs ms : L.Name → List L.Kind) (env : (n : L.Name) → Reader L.Token (L.Tree n)) (refs : (n : L.Name) → List L.Token → L.Tree n → Type 0)
        (named : (n : L.Name) (ts : List L.Token) (x : L.Tree n) → refs n ts x → starts L (fs n) ts ≡ true)
        (found : (n : L.Name) (ts : List L.Token) → IfRead (env n ts) (λ x rest. Takes (refs n) ts x rest))
        (left : (n : L.Name) (ts : List L.Token) → LeavesAtMost (length ts) (env n ts))
        (nearby : (n : L.Name) (ts ts' : List L.Token) → Twin t w v ts ts' → Alike t w v (env n ts) (env n ts')) where
      pub alike : {A : Type 0} (r : Rule L A) → is_sure fs ms r ≡ true → (ts ts' : List L.Token) → Twin t w v ts ts' → Alike t w v (reading fs env r ts) (reading fs env r ts')
      alike (token k) s ts ts' e = alike_token k e
      alike (empty a) s ts ts' e = inr (ts', e, refl)
      alike (both p q) s ts ts' e =
          let a = and_parts (is_sure fs ms p && is_sure fs ms q) (apart L (more fs ms p) (first fs q)) s in
          let d = and_parts (is_sure fs ms p) (is_sure fs ms q) a.0 in
          Alike-and_then (reading fs env p ts) (reading fs env p ts') _ _ (alike p d.0 ts ts' e)
          (λ x s b. LeavesAtMost-and_then (length w) (reading fs env q s) _ (LeavesAtMost-weaker (length s) (length w) (reading fs env q s) b (leaves L laws fs env left q s)) (λ y s' c. c))
          (λ x s s' c. Alike-and_then (reading fs env q s) (reading fs env q s') _ _ (alike q d.1 s s' c) (λ y i g. g) (λ y i i' g. inr (i', g, refl)))
      alike (either p q) s ts ts' e =
          let a = and_parts (is_sure fs ms p && is_sure fs ms q && apart L (first fs p) (first fs q)) (not (nullable p)) s in
          let d = and_parts (is_sure fs ms p && is_sure fs ms q) (apart L (first fs p) (first fs q)) a.0 in
          let g = and_parts (is_sure fs ms p) (is_sure fs ms q) d.0 in
          Alike-cond (starts L (first fs p) ts) (starts L (first fs p) ts') _ _ _ _ (same_start (first fs p) e) (alike p g.0 ts ts' e) (alike q g.1 ts ts' e)
      alike (many p) s ts ts' e =
          let a = and_parts (is_sure fs ms p && apart L (more fs ms p) (first fs p)) (not (nullable p)) s in
          let d = and_parts (is_sure fs ms p) (apart L (more fs ms p) (first fs p)) a.0 in
          let shorter = consumes L laws fs ms env refs named found p d.0 a.1 in
          let turns : ℕ = suc (length ts + length ts') in
          let one : loop L (suc (length ts)) (first fs p) (reading fs env p) ts ≡ loop L turns (first fs p) (reading fs env p) ts =
          loop_same L laws (first fs p) (reading fs env p) shorter (suc (length ts)) turns ts (omega arith) (omega arith) in
          let other : loop L (suc (length ts')) (first fs p) (reading fs env p) ts' ≡ loop L turns (first fs p) (reading fs env p) ts' =
          loop_same L laws (first fs p) (reading fs env p) shorter (suc (length ts')) turns ts' (omega arith) (omega arith) in
          rw (one, other) (alike_loop (first fs p) (reading fs env p) (leaves L laws fs env left p) (alike p d.0) turns ts ts' e)
      alike (made f p) s ts ts' e = Alike-and_then (reading fs env p ts) (reading fs env p ts') _ _ (alike p s ts ts' e) (λ x s b. b) (λ x s s' c. inr (s', c, refl))
      alike (placed p) s ts ts' e =
          let a = and_parts (is_sure fs ms p) (not (nullable p)) s in
          Alike-and_then (reading fs env p ts) (reading fs env p ts') _ _ (alike p a.0 ts ts' e) (λ x i b. b)
          (λ x i i' c. inr (i', c, ap (λ n. Ok ((n, x), i')) (same_place e)))
      alike (ref n) s ts ts' e = nearby n ts ts' e
