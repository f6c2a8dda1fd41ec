-- What a rule spells begins with one of the rule's first kinds, or is empty where the rule is nullable.
use Rattle.std.proofs.Common.{◌≡◌, Bool, true, false, not, ◌&&◌, ◌||◌, List, [], ◌∷◌, ◌++◌, refl, ◌∙◌, inl, inr, ◌⊎◌}
use Rattle.std.specs.List.{list_all}
use Rattle.std.proofs.lemmas.Bool.{and_from, or_left, or_right, or_cases, and_parts, not-true, both_ways, false≢true, false_from_ne_true}
use Rattle.std.proofs.lemmas.List.Folds.{list_any-append}
use Rattle.qs_syntax_grammar.specs.Rule.{Language, Rule, token, empty, both, either, many, made, placed, ref, Each, Spelt}
use Rattle.qs_syntax_grammar.specs.inner.Reading.{has, starts, first, nullable, join, apart, within, more, is_sure}
use Rattle.qs_syntax_grammar.proofs.Laws.{Lawful}

module _ (L : Language) where
  -- each kind of the first is among the second
  abbrev pub Wider : List L.Kind → List L.Kind → Type 0
  Wider a b = (j : L.Kind) → has L a j ≡ true → has L b j ≡ true

  pub wider_left : (a b : List L.Kind) → Wider a (a ++ b)
  wider_left a b j h = list_any-append (L.same j) a b ∙ or_left (has L a j) (has L b j) h

  pub wider_right : (a b : List L.Kind) → Wider b (a ++ b)
  wider_right a b j h = list_any-append (L.same j) a b ∙ or_right (has L a j) (has L b j) h

  pub join_left : (n : Bool) (a b : List L.Kind) → Wider a (join n a b)
  join_left true a b j h = wider_left a b j h
  join_left false a b j h = h

  pub join_right : (n : Bool) (a b : List L.Kind) → n ≡ true → Wider b (join n a b)
  join_right true a b e j h = wider_right a b j h
  join_right false a b e j h = absurd (false≢true e)

  pub starts-append : (ks : List L.Kind) (ts rest : List L.Token) → starts L ks ts ≡ true → starts L ks (ts ++ rest) ≡ true
  starts-append ks [] rest h = absurd (false≢true h)
  starts-append ks (t ∷ ts) rest h = h

  pub starts-wider : (a b : List L.Kind) (ts : List L.Token) → Wider a b → starts L a ts ≡ true → starts L b ts ≡ true
  starts-wider a b [] w h = h
  starts-wider a b (t ∷ ts) w h = w (L.kind t) h

  pub stops_narrower : (a b : List L.Kind) (ts : List L.Token) → Wider a b → starts L b ts ≡ false → starts L a ts ≡ false
  stops_narrower a b ts w e = false_from_ne_true (starts L a ts) (λ h. both_ways (starts L b ts) e (starts-wider a b ts w h))

  -- ts begins with one of the kinds, or is empty, which n allows
  abbrev pub Begins : List L.Kind → Bool → List L.Token → Type 0
  Begins ks n ts = (starts L ks ts ≡ true) ⊎ ((n ≡ true) × (ts ≡ []))

  begins_joined : (a b : List L.Kind) (m n : Bool) (ts us vs : List L.Token) → ts ≡ us ++ vs → Begins a m us → Begins b n vs → Begins (join m a b) (m && n) ts
  begins_joined a b m n ts us vs e (inl h) g = inl (rw e (starts-wider a (join m a b) (us ++ vs) (join_left m a b) (starts-append a us vs h)))
  begins_joined a b m n ts us vs e (inr h) (inl g) = inl (rw (e, h.1) (starts-wider b (join m a b) vs (join_right m a b h.0) g))
  begins_joined a b m n ts us vs e (inr h) (inr g) = inr (and_from m n h.0 g.0, rw (e, h.1, g.1) refl)

  pub begins_each : {A : Type 0} (P : List L.Token → A → Type 0) (ks : List L.Kind) → ((us : List L.Token) (x : A) → P us x → starts L ks us ≡ true)
      → (ts : List L.Token) (xs : List A) → Each P ts xs → Begins ks true ts
  begins_each P ks h ts [] e = inr (refl, e)
  begins_each P ks h ts (x ∷ xs) e = inl (rw e.2 (starts-append ks e.0 e.1 (h e.0 x e.3)))

  -- what begins, and is not empty
  pub starts_at : (ks : List L.Kind) (n : Bool) (ts : List L.Token) → not n ≡ true → Begins ks n ts → starts L ks ts ≡ true
  starts_at ks n ts e (inl h) = h
  starts_at ks n ts e (inr h) = absurd (both_ways n (not-true n e) h.0)

  begins_left : (a b : List L.Kind) (m n : Bool) (ts : List L.Token) → Begins a m ts → Begins (a ++ b) (m || n) ts
  begins_left a b m n ts (inl h) = inl (starts-wider a (a ++ b) ts (wider_left a b) h)
  begins_left a b m n ts (inr h) = inr (or_left m n h.0, h.1)

  begins_right : (a b : List L.Kind) (m n : Bool) (ts : List L.Token) → Begins b n ts → Begins (a ++ b) (m || n) ts
  begins_right a b m n ts (inl h) = inl (starts-wider b (a ++ b) ts (wider_right a b) h)
  begins_right a b m n ts (inr h) = inr (or_right m n h.0, h.1)

  module _ (laws : Lawful L) where
    all_at : (P : L.Kind → Bool) (ks : List L.Kind) → list_all P ks ≡ true → (j : L.Kind) → has L ks j ≡ true → P j ≡ true
    all_at P [] e j h = absurd (false≢true h)
    all_at P (k ∷ ks) e j h =
        let both = and_parts (P k) (list_all P ks) e in
        elim (or_cases (L.same j k) (has L ks j) h) [ inl s ↦ (rw (laws.same_true j k s) both.0) | inr s ↦ all_at P ks both.1 j s ]

    pub within-at : (a b : List L.Kind) → within L a b ≡ true → Wider a b
    within-at a b e j h = all_at (has L b) a e j h

    pub apart-at : (a b : List L.Kind) → apart L a b ≡ true → (ts : List L.Token) → starts L b ts ≡ true → starts L a ts ≡ false
    apart-at a b e [] h = refl
    apart-at a b e (t ∷ ts) h = false_from_ne_true (has L a (L.kind t)) (λ x. both_ways (has L b (L.kind t)) (not-true _ (all_at (λ k. not (has L b k)) a e (L.kind t) x)) h)

    pub stops_within : (a b : List L.Kind) → within L a b ≡ true → (ts : List L.Token) → starts L b ts ≡ false → starts L a ts ≡ false
    stops_within a b e ts stop = stops_narrower a b ts (within-at a b e) stop

    module _ (fs ms : L.Name → List L.Kind) (refs : (n : L.Name) → List L.Token → L.Tree n → Type 0)
        (named : (n : L.Name) (ts : List L.Token) (x : L.Tree n) → refs n ts x → starts L (fs n) ts ≡ true) where
      pub begins : {A : Type 0} (r : Rule L A) → is_sure fs ms r ≡ true → (ts : List L.Token) (x : A) → Spelt refs r ts x → Begins (first fs r) (nullable r) ts
      begins (token k) s ts x h = inl (rw (h.0, h.1) (or_left (L.same k k) false (laws.same_refl k)))
      begins (empty a) s ts x h = inr (refl, h.0)
      begins (both p q) s ts x h =
          let a = and_parts (is_sure fs ms p && is_sure fs ms q) (apart L (more fs ms p) (first fs q)) s in
          let b = and_parts (is_sure fs ms p) (is_sure fs ms q) a.0 in
          begins_joined (first fs p) (first fs q) (nullable p) (nullable q) ts h.0 h.1 h.2 (begins p b.0 h.0 x.0 h.3) (begins q b.1 h.1 x.1 h.4)
      begins (either p q) s ts x (inl h) =
          let a = and_parts (is_sure fs ms p && is_sure fs ms q && apart L (first fs p) (first fs q)) (not (nullable p)) s in
          let b = and_parts (is_sure fs ms p && is_sure fs ms q) (apart L (first fs p) (first fs q)) a.0 in
          let c = and_parts (is_sure fs ms p) (is_sure fs ms q) b.0 in
          begins_left (first fs p) (first fs q) (nullable p) (nullable q) ts (begins p c.0 ts x h)
      begins (either p q) s ts x (inr h) =
          let a = and_parts (is_sure fs ms p && is_sure fs ms q && apart L (first fs p) (first fs q)) (not (nullable p)) s in
          let b = and_parts (is_sure fs ms p && is_sure fs ms q) (apart L (first fs p) (first fs q)) a.0 in
          let c = and_parts (is_sure fs ms p) (is_sure fs ms q) b.0 in
          begins_right (first fs p) (first fs q) (nullable p) (nullable q) ts (begins q c.1 ts x h)
      begins (many p) s ts x h =
          let a = and_parts (is_sure fs ms p && apart L (more fs ms p) (first fs p)) (not (nullable p)) s in
          let b = and_parts (is_sure fs ms p) (apart L (more fs ms p) (first fs p)) a.0 in
          begins_each (Spelt refs p) (first fs p) (λ us y g. starts_at (first fs p) (nullable p) us a.1 (begins p b.0 us y g)) ts x h
      begins (made f p) s ts x h = begins p s ts h.0 h.1
      begins (placed p) s ts x h = let a = and_parts (is_sure fs ms p) (not (nullable p)) s in begins p a.0 ts x.1 h.1
      begins (ref n) s ts x h = inl (named n ts x h)
