-- What is spelt is read, where what follows does not go on with it.
use Rattle.std.proofs.Common.{◌≡◌, ◌<◌, ℕ, zero, suc, Bool, true, false, not, ◌&&◌, List, [], ◌∷◌, ◌++◌, length, Ok, refl, sym, ◌∙◌, ap, subst, inl, inr, arith, append_assoc, length-append}
use Rattle.std.proofs.lemmas.Bool.{or_left, and_parts, false≢true}
use Rattle.qs_syntax_grammar.specs.Rule.{Language, Rule, token, empty, both, either, many, made, placed, ref, Each, Spelt}
use Rattle.qs_syntax_grammar.specs.inner.Reading.{Reader, has, starts, first, nullable, join, apart, more, is_sure, reading, loop}
use Rattle.qs_syntax_grammar.proofs.Outcomes.{and_then_is, cond_is_true, cond_is_false}
use Rattle.qs_syntax_grammar.proofs.Begins.{Begins, begins, starts_at, join_left, join_right, wider_left, wider_right, starts-append, stops_narrower, apart-at, begins_each}
use Rattle.qs_syntax_grammar.proofs.Sound.{place-append}
use Rattle.qs_syntax_grammar.proofs.Laws.{Lawful}

module _ (L : Language) (laws : Lawful L) where
  -- what follows the first part stops it
  stops_between : (a b m : List L.Kind) (n : Bool) (vs rest : List L.Token) → apart L a b ≡ true → Begins L b n vs
      → starts L (join n m a) rest ≡ false → starts L a (vs ++ rest) ≡ false
  stops_between a b m n vs rest e (inl h) stop = apart-at L laws a b e (vs ++ rest) (starts-append L b vs rest h)
  stops_between a b m n vs rest e (inr h) stop =
      rw h.1 (stops_narrower L a (join n m a) rest (join_right L n m a h.0) stop)

  starts_long : (ks : List L.Kind) (us vs rest : List L.Token) (n : ℕ) → starts L ks us ≡ true → length (us ++ (vs ++ rest)) < suc n → length (vs ++ rest) < n
  starts_long ks [] vs rest n h l = absurd (false≢true h)
  starts_long ks (t ∷ us) vs rest n h l = omega (arith, length-append us (vs ++ rest))

  complete_each : {A : Type 0} (P : List L.Token → A → Type 0) (ks m : List L.Kind) (p : Reader L.Token A) → apart L m ks ≡ true
      → ((us : List L.Token) (x : A) → P us x → starts L ks us ≡ true)
      → ((us : List L.Token) (x : A) (rest : List L.Token) → P us x → starts L m rest ≡ false → p (us ++ rest) ≡ Ok (x, rest))
      → (n : ℕ) (xs : List A) (ts rest : List L.Token) → Each P ts xs → length (ts ++ rest) < n → starts L (ks ++ m) rest ≡ false
      → loop L n ks p (ts ++ rest) ≡ Ok (xs, rest)
  complete_each P ks m p e b c zero xs ts rest h l stop = absurd (omega arith)
  complete_each P ks m p e b c (suc n) [] ts rest h l stop =
      rw h (cond_is_false (starts L ks rest) _ _ _ (stops_narrower L ks (ks ++ m) rest (wider_left L ks m) stop) refl)
  complete_each P ks m p e b c (suc n) (x ∷ xs) ts rest h l stop =
      let us = h.0 in
      let vs = h.1 in
      let where_ : ts ++ rest ≡ us ++ (vs ++ rest) = ap (λ z. z ++ rest) h.2 ∙ append_assoc us vs rest in
      let long : length (us ++ (vs ++ rest)) < suc n = subst (λ z. length z < suc n) where_ l in
      let begin : starts L ks us ≡ true = b us x h.3 in
      let between : starts L m (vs ++ rest) ≡ false = elim (begins_each L P ks b vs xs h.4) [
        | inl g ↦ apart-at L laws m ks e (vs ++ rest) (starts-append L ks vs rest g)
        | inr g ↦ rw g.1 (stops_narrower L m (ks ++ m) rest (wider_right L ks m) stop)
      ] in
      ap (λ z. loop L (suc n) ks p z) where_ ∙
      cond_is_true (starts L ks (us ++ (vs ++ rest))) _ _ _ (starts-append L ks us (vs ++ rest) begin)
      (and_then_is (p (us ++ (vs ++ rest))) _ x (vs ++ rest) _ (c us x (vs ++ rest) h.3 between)
      (and_then_is (loop L n ks p (vs ++ rest)) _ xs rest _ (complete_each P ks m p e b c n xs vs rest h.4 (starts_long ks us vs rest n begin long) stop) refl))

  module _ (fs ms : L.Name → List L.Kind) (env : (n : L.Name) → Reader L.Token (L.Tree n)) (refs : (n : L.Name) → List L.Token → L.Tree n → Type 0)
      (named : (n : L.Name) (ts : List L.Token) (x : L.Tree n) → refs n ts x → starts L (fs n) ts ≡ true)
      (done : (n : L.Name) (us : List L.Token) (x : L.Tree n) (rest : List L.Token) → refs n us x → starts L (ms n) rest ≡ false → env n (us ++ rest) ≡ Ok (x, rest)) where
    pub complete : {A : Type 0} (r : Rule L A) → is_sure fs ms r ≡ true → (ts : List L.Token) (x : A) (rest : List L.Token) → Spelt refs r ts x
        → starts L (more fs ms r) rest ≡ false → reading fs env r (ts ++ rest) ≡ Ok (x, rest)
    complete (token k) s ts x rest h stop = rw h.0 (cond_is_true (has L (k ∷ []) (L.kind x)) _ _ _ (rw h.1 (or_left (L.same k k) false (laws.same_refl k))) refl)
    complete (empty a) s ts x rest h stop = rw (h.0, h.1) refl
    complete (both p q) s ts x rest h stop =
        let a = and_parts (is_sure fs ms p && is_sure fs ms q) (apart L (more fs ms p) (first fs q)) s in
        let b = and_parts (is_sure fs ms p) (is_sure fs ms q) a.0 in
        let us = h.0 in
        let vs = h.1 in
        let where_ : ts ++ rest ≡ us ++ (vs ++ rest) = ap (λ z. z ++ rest) h.2 ∙ append_assoc us vs rest in
        let between : starts L (more fs ms p) (vs ++ rest) ≡ false =
        stops_between (more fs ms p) (first fs q) (more fs ms q) (nullable q) vs rest a.1 (begins L laws fs ms refs named q b.1 vs x.1 h.4) stop in
        let after : starts L (more fs ms q) rest ≡ false =
        stops_narrower L (more fs ms q) (more fs ms (both p q)) rest (join_left L (nullable q) (more fs ms q) (more fs ms p)) stop in
        ap (λ z. reading fs env (both p q) z) where_ ∙
        and_then_is (reading fs env p (us ++ (vs ++ rest))) _ x.0 (vs ++ rest) _ (complete p b.0 us x.0 (vs ++ rest) h.3 between)
        (and_then_is (reading fs env q (vs ++ rest)) _ x.1 rest _ (complete q b.1 vs x.1 rest h.4 after) refl)
    complete (either p q) s ts x rest (inl h) stop =
        let a = and_parts (is_sure fs ms p && is_sure fs ms q && apart L (first fs p) (first fs q)) (not (nullable p)) s in
        let b = and_parts (is_sure fs ms p && is_sure fs ms q) (apart L (first fs p) (first fs q)) a.0 in
        let c = and_parts (is_sure fs ms p) (is_sure fs ms q) b.0 in
        let begin : starts L (first fs p) ts ≡ true = starts_at L (first fs p) (nullable p) ts a.1 (begins L laws fs ms refs named p c.0 ts x h) in
        let after : starts L (more fs ms p) rest ≡ false =
        stops_narrower L (more fs ms p) (more fs ms (either p q)) rest (wider_left L (more fs ms p) (join (nullable q) (more fs ms q) (first fs p))) stop in
        cond_is_true (starts L (first fs p) (ts ++ rest)) _ _ _ (starts-append L (first fs p) ts rest begin) (complete p c.0 ts x rest h after)
    complete (either p q) s ts x rest (inr h) stop =
        let a = and_parts (is_sure fs ms p && is_sure fs ms q && apart L (first fs p) (first fs q)) (not (nullable p)) s in
        let b = and_parts (is_sure fs ms p && is_sure fs ms q) (apart L (first fs p) (first fs q)) a.0 in
        let c = and_parts (is_sure fs ms p) (is_sure fs ms q) b.0 in
        let later : starts L (join (nullable q) (more fs ms q) (first fs p)) rest ≡ false =
        stops_narrower L (join (nullable q) (more fs ms q) (first fs p)) (more fs ms (either p q)) rest
        (wider_right L (more fs ms p) (join (nullable q) (more fs ms q) (first fs p))) stop in
        let after : starts L (more fs ms q) rest ≡ false =
        stops_narrower L (more fs ms q) (join (nullable q) (more fs ms q) (first fs p)) rest (join_left L (nullable q) (more fs ms q) (first fs p)) later in
        let other : starts L (first fs p) (ts ++ rest) ≡ false =
        stops_between (first fs p) (first fs q) (more fs ms q) (nullable q) ts rest b.1 (begins L laws fs ms refs named q c.1 ts x h) later in
        cond_is_false (starts L (first fs p) (ts ++ rest)) _ _ _ other (complete q c.1 ts x rest h after)
    complete (many p) s ts x rest h stop =
        let a = and_parts (is_sure fs ms p && apart L (more fs ms p) (first fs p)) (not (nullable p)) s in
        let b = and_parts (is_sure fs ms p) (apart L (more fs ms p) (first fs p)) a.0 in
        complete_each (Spelt refs p) (first fs p) (more fs ms p) (reading fs env p) b.1
        (λ us y g. starts_at L (first fs p) (nullable p) us a.1 (begins L laws fs ms refs named p b.0 us y g))
        (complete p b.0) (suc (length (ts ++ rest))) x ts rest h (omega arith) stop
    complete (made f p) s ts x rest h stop =
        and_then_is (reading fs env p (ts ++ rest)) _ h.0 rest _ (complete p s ts h.0 rest h.1 stop) (rw h.2 refl)
    complete (placed p) s ts x rest h stop =
        let a = and_parts (is_sure fs ms p) (not (nullable p)) s in
        let begin : starts L (first fs p) ts ≡ true = starts_at L (first fs p) (nullable p) ts a.1 (begins L laws fs ms refs named p a.0 ts x.1 h.1) in
        and_then_is (reading fs env p (ts ++ rest)) _ x.1 rest _ (complete p a.0 ts x.1 rest h.1 stop) (rw (place-append L (first fs p) ts rest begin, sym h.0) refl)
    complete (ref n) s ts x rest h stop = done n ts x rest h stop
