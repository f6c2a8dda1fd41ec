-- What is read is spelt so.
use Rattle.std.proofs.Common.{◌≡◌, ℕ, zero, suc, true, false, not, ◌&&◌, List, [], ◌∷◌, ◌++◌, length, refl, sym, ◌∙◌, ap, append_assoc, inl, inr}
use Rattle.std.proofs.lemmas.Bool.{and_parts, or_cases, false≢true}
use Rattle.qs_syntax_grammar.specs.Rule.{Language, Rule, token, empty, both, either, many, made, placed, ref, place_of, Each, Spelt}
use Rattle.qs_syntax_grammar.specs.inner.Reading.{Reader, has, starts, take_kind, loop, first, more, nullable, apart, is_sure, reading}
use Rattle.qs_syntax_grammar.proofs.Outcomes.{IfRead, IfRead-and_then, IfRead-cond, IfRead-weaker}
use Rattle.qs_syntax_grammar.proofs.Laws.{Lawful}
use Rattle.qs_syntax_grammar.proofs.Begins.{begins, starts_at}

-- the first tokens spell the tree, and these are the others
pub record Takes {T A : Type 0} (P : List T → A → Type 0) (ts : List T) (x : A) (rest : List T) : Type 0 where
  pub part : List T
  pub is : ts ≡ part ++ rest
  pub spelt : P part x

joined : {T : Type 0} (ts us s vs rest : List T) → ts ≡ us ++ s → s ≡ vs ++ rest → ts ≡ (us ++ vs) ++ rest
joined ts us s vs rest e f = e ∙ ap (λ z. us ++ z) f ∙ sym (append_assoc us vs rest)

module _ (L : Language) where
  -- more tokens after leave the place of the first alone
  pub place-append : (ks : List L.Kind) (us rest : List L.Token) → starts L ks us ≡ true → place_of L (us ++ rest) ≡ place_of L us
  place-append ks [] rest h = absurd (false≢true h)
  place-append ks (t ∷ us) rest h = refl

  takes_each : {A : Type 0} (P : List L.Token → A → Type 0) (ks : List L.Kind) (p : Reader L.Token A) → ((ts : List L.Token) → IfRead (p ts) (λ x rest. Takes P ts x rest))
      → (n : ℕ) (ts : List L.Token) → IfRead (loop L n ks p ts) (λ xs rest. Takes (Each P) ts xs rest)
  takes_each P ks p h zero ts = tt
  takes_each P ks p h (suc n) ts = IfRead-cond (starts L ks ts) _ _ (λ xs rest. Takes (Each P) ts xs rest)
      (λ _. IfRead-and_then (p ts) _ (λ x s. Takes P ts x s) _ (h ts)
      (λ x s a. IfRead-and_then (loop L n ks p s) _ (λ xs rest. Takes (Each P) s xs rest) _ (takes_each P ks p h n s)
      (λ xs rest b. record { part = a.part ++ b.part; is = joined ts a.part s b.part rest a.is b.is; spelt = (a.part, b.part, refl, a.spelt, b.spelt) })))
      (λ _. record { part = []; is = refl; spelt = refl })

  module _ (laws : Lawful L) where
    pub is_kind : (k j : L.Kind) → has L (k ∷ []) j ≡ true → j ≡ k
    is_kind k j e = elim (or_cases (L.same j k) false e) [ inl h ↦ laws.same_true j k h | inr h ↦ absurd (false≢true h) ]

    takes_kind : (k : L.Kind) (ts : List L.Token) → IfRead (take_kind L k ts) (λ x rest. Takes (λ us t. (us ≡ t ∷ []) × (L.kind t ≡ k)) ts x rest)
    takes_kind k [] = tt
    takes_kind k (t ∷ ts) = IfRead-cond (has L (k ∷ []) (L.kind t)) _ _ (λ x rest. Takes (λ us t. (us ≡ t ∷ []) × (L.kind t ≡ k)) (t ∷ ts) x rest)
        (λ e. record { part = t ∷ []; is = refl; spelt = (refl, is_kind k (L.kind t) e) }) (λ _. tt)

    module _ (fs ms : L.Name → List L.Kind) (env : (n : L.Name) → Reader L.Token (L.Tree n)) (refs : (n : L.Name) → List L.Token → L.Tree n → Type 0)
        (named : (n : L.Name) (ts : List L.Token) (x : L.Tree n) → refs n ts x → starts L (fs n) ts ≡ true)
        (found : (n : L.Name) (ts : List L.Token) → IfRead (env n ts) (λ x rest. Takes (refs n) ts x rest)) where
      pub sound : {A : Type 0} (r : Rule L A) → is_sure fs ms r ≡ true → (ts : List L.Token) → IfRead (reading fs env r ts) (λ x rest. Takes (Spelt refs r) ts x rest)
      sound (token k) s ts = takes_kind k ts
      sound (empty a) s ts = record { part = []; is = refl; spelt = (refl, refl) }
      sound (both p q) s ts =
          let a = and_parts (is_sure fs ms p && is_sure fs ms q) (apart L (more fs ms p) (first fs q)) s in
          let d = and_parts (is_sure fs ms p) (is_sure fs ms q) a.0 in
          IfRead-and_then (reading fs env p ts) _ (λ x i. Takes (Spelt refs p) ts x i) _ (sound p d.0 ts)
          (λ x i b. IfRead-and_then (reading fs env q i) _ (λ y rest. Takes (Spelt refs q) i y rest) _ (sound q d.1 i)
          (λ y rest c. record { part = b.part ++ c.part; is = joined ts b.part i c.part rest b.is c.is; spelt = (b.part, c.part, refl, b.spelt, c.spelt) }))
      sound (either p q) s ts =
          let a = and_parts (is_sure fs ms p && is_sure fs ms q && apart L (first fs p) (first fs q)) (not (nullable p)) s in
          let d = and_parts (is_sure fs ms p && is_sure fs ms q) (apart L (first fs p) (first fs q)) a.0 in
          let e = and_parts (is_sure fs ms p) (is_sure fs ms q) d.0 in
          IfRead-cond (starts L (first fs p) ts) _ _ (λ x rest. Takes (Spelt refs (either p q)) ts x rest)
          (λ _. IfRead-weaker (reading fs env p ts) (λ x i. Takes (Spelt refs p) ts x i) (λ x i. Takes (Spelt refs (either p q)) ts x i) (sound p e.0 ts)
          (λ x i b. record { part = b.part; is = b.is; spelt = inl b.spelt }))
          (λ _. IfRead-weaker (reading fs env q ts) (λ x i. Takes (Spelt refs q) ts x i) (λ x i. Takes (Spelt refs (either p q)) ts x i) (sound q e.1 ts)
          (λ x i b. record { part = b.part; is = b.is; spelt = inr b.spelt }))
      sound (many p) s ts =
          let a = and_parts (is_sure fs ms p && apart L (more fs ms p) (first fs p)) (not (nullable p)) s in
          let d = and_parts (is_sure fs ms p) (apart L (more fs ms p) (first fs p)) a.0 in
          takes_each (Spelt refs p) (first fs p) (reading fs env p) (sound p d.0) (suc (length ts)) ts
      sound (made f p) s ts =
          IfRead-and_then (reading fs env p ts) _ (λ x i. Takes (Spelt refs p) ts x i) _ (sound p s ts)
          (λ x i b. record { part = b.part; is = b.is; spelt = (x, b.spelt, refl) })
      sound (placed p) s ts =
          let a = and_parts (is_sure fs ms p) (not (nullable p)) s in
          IfRead-and_then (reading fs env p ts) _ (λ x i. Takes (Spelt refs p) ts x i) _ (sound p a.0 ts)
          (λ x i b. record {
            part = b.part;
            is = b.is;
            spelt = (
              ap (place_of L) b.is ∙ place-append (first fs p) b.part i (starts_at L (first fs p) (nullable p) b.part a.1 (begins L laws fs ms refs named p a.0 b.part x b.spelt)),
              b.spelt,
            );
          })
      sound (ref n) s ts = found n ts
