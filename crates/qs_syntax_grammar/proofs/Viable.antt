-- What was read before a fault begins something that is spelt.
use Rattle.std.proofs.Common.{not, ◌&&◌, ◌≡◌, ℕ, zero, suc, Bool, true, false, cond, List, [], ◌∷◌, ◌++◌, length, Option, Some, None, is_some, Ok, Err, refl, sym, ◌∙◌, ap, append-nil, append_assoc, inl, inr}
use Rattle.qs_syntax_grammar.specs.declared.fault.Fault.TheVariants.{Memory, Deep, Syntax}
use Rattle.qs_syntax_grammar.specs.Rule.{Language, place_of, Rule, token, empty, both, either, many, made, placed, ref, Each, Spelt}
use Rattle.qs_syntax_grammar.specs.inner.Reading.{Reader, Outcome, and_then, has, starts, take_kind, loop, first, more, nullable, apart, is_sure, reading}
use Rattle.qs_syntax_grammar.proofs.Outcomes.{IfRead}
use Rattle.qs_syntax_grammar.proofs.Sound.{Takes, sound}
use Rattle.std.proofs.lemmas.Bool.{and_parts, false≢true}
use Rattle.qs_syntax_grammar.proofs.Laws.{Lawful}

-- a fact of how many tokens are left at the fault
abbrev pub IfFault : {T A : Type 0} → Outcome T A → (ℕ → Type 0) → Type 0
IfFault (Ok p) P = Unit {0}
IfFault (Err (Syntax n)) P = P n
IfFault (Err Deep) P = Unit {0}
IfFault (Err Memory) P = Unit {0}

IfFault-and_then : {T A B : Type 0} (o : Outcome T A) (f : A → List T → Outcome T B) (P Q : ℕ → Type 0) (R : A → List T → Type 0)
    → IfFault o P → ((n : ℕ) → P n → Q n) → IfRead o R → ((x : A) (s : List T) → R x s → IfFault (f x s) Q) → IfFault (and_then o f) Q
IfFault-and_then (Ok p) f P Q R h w r k = k p.0 p.1 r
IfFault-and_then (Err (Syntax n)) f P Q R h w r k = w n h
IfFault-and_then (Err Deep) f P Q R h w r k = tt
IfFault-and_then (Err Memory) f P Q R h w r k = tt

IfFault-cond : {T A : Type 0} (b : Bool) (o o' : Outcome T A) (P : ℕ → Type 0) → IfFault o P → IfFault o' P → IfFault (cond b o o') P
IfFault-cond true o o' P h k = h
IfFault-cond false o o' P h k = k

IfFault-weaker : {T A : Type 0} (o : Outcome T A) (P Q : ℕ → Type 0) → IfFault o P → ((n : ℕ) → P n → Q n) → IfFault o Q
IfFault-weaker (Ok p) P Q h k = tt
IfFault-weaker (Err (Syntax n)) P Q h k = k n h
IfFault-weaker (Err Deep) P Q h k = tt
IfFault-weaker (Err Memory) P Q h k = tt

-- all but the last n tokens begin what is spelt
pub record Leads {T A : Type 0} (P : List T → A → Type 0) (ts : List T) (n : ℕ) : Type 0 where
  pub part : List T
  pub rest : List T
  pub is : ts ≡ part ++ rest
  pub size : length rest ≡ n
  pub others : List T
  pub tree : A
  pub spelt : P (part ++ others) tree

abbrev pub Example : {T A : Type 0} → (List T → A → Type 0) → Type 0
Example {T} {A} P = (ts : List T) × (x : A) × P ts x

pub the : {X : Type 0} (o : Option X) → is_some o ≡ true → X
the (Some x) e = x
the None e = absurd (false≢true e)

module _ (L : Language) (laws : Lawful L) where
  leads_token : (k : L.Kind) (ts : List L.Token) → IfFault (take_kind L k ts) (λ n. Leads (λ us t. (us ≡ t ∷ []) × (L.kind t ≡ k)) ts n)
  leads_token k [] = record { part = []; rest = []; is = refl; size = refl; others = laws.sample k ∷ []; tree = laws.sample k; spelt = (refl, laws.sample_kind k) }
  leads_token k (t ∷ ts) = IfFault-cond (has L (k ∷ []) (L.kind t)) _ _ (λ n. Leads (λ us t. (us ≡ t ∷ []) × (L.kind t ≡ k)) (t ∷ ts) n) tt
      (record { part = []; rest = t ∷ ts; is = refl; size = refl; others = laws.sample k ∷ []; tree = laws.sample k; spelt = (refl, laws.sample_kind k) })

  leads_each : {A : Type 0} (P : List L.Token → A → Type 0) (ks : List L.Kind) (p : Reader L.Token A)
      → ((ts : List L.Token) → IfRead (p ts) (λ x rest. Takes P ts x rest)) → ((ts : List L.Token) → IfFault (p ts) (λ n. Leads P ts n))
      → (n : ℕ) (ts : List L.Token) → IfFault (loop L n ks p ts) (λ m. Leads (Each P) ts m)
  leads_each P ks p r h zero ts = tt
  leads_each P ks p r h (suc n) ts = IfFault-cond (starts L ks ts) _ _ (λ m. Leads (Each P) ts m)
      (IfFault-and_then (p ts) _ (λ m. Leads P ts m) (λ m. Leads (Each P) ts m) (λ x s. Takes P ts x s) (h ts)
      (λ m a. record { part = a.part; rest = a.rest; is = a.is; size = a.size; others = a.others; tree = a.tree ∷ []; spelt = (a.part ++ a.others, [], sym (append-nil (a.part ++ a.others)), a.spelt, refl) })
      (r ts)
      (λ x s a. IfFault-and_then (loop L n ks p s) _ (λ m. Leads (Each P) s m) (λ m. Leads (Each P) ts m) (λ xs i. Unit {0}) (leads_each P ks p r h n s)
      (λ m b. record {
        part = a.part ++ b.part;
        rest = b.rest;
        is = a.is ∙ ap (λ z. a.part ++ z) b.is ∙ sym (append_assoc a.part b.part b.rest);
        size = b.size;
        others = b.others;
        tree = x ∷ b.tree;
        spelt = (a.part, b.part ++ b.others, append_assoc a.part b.part b.others, a.spelt, b.spelt);
      })
      (always (loop L n ks p s)) (λ xs i _. tt)))
      tt
    where
      always : {B : Type 0} (o : Outcome L.Token B) → IfRead o (λ xs i. Unit {0})
      always (Ok p) = tt
      always (Err e) = tt

  module _ (fs ms : L.Name → List L.Kind) (env : (n : L.Name) → Reader L.Token (L.Tree n)) (refs : (n : L.Name) → List L.Token → L.Tree n → Type 0)
      (examples : (n : L.Name) → Example (refs n)) where
    pub example : {A : Type 0} (r : Rule L A) → Example (Spelt refs r)
    example (token k) = (laws.sample k ∷ [], laws.sample k, (refl, laws.sample_kind k))
    example (empty a) = ([], a, (refl, refl))
    example (both p q) = let a = example p in let b = example q in (a.0 ++ b.0, (a.1, b.1), (a.0, b.0, refl, a.2, b.2))
    example (either p q) = let a = example p in (a.0, a.1, inl a.2)
    example (many p) = ([], [], refl)
    example (made f p) = let a = example p in (a.0, f a.1, (a.1, a.2, refl))
    example (placed p) = let a = example p in (a.0, (place_of L a.0, a.1), (refl, a.2))
    example (ref n) = examples n

    module _ (named : (n : L.Name) (ts : List L.Token) (x : L.Tree n) → refs n ts x → starts L (fs n) ts ≡ true)
        (found : (n : L.Name) (ts : List L.Token) → IfRead (env n ts) (λ x rest. Takes (refs n) ts x rest))
        (leading : (n : L.Name) (ts : List L.Token) → IfFault (env n ts) (λ m. Leads (refs n) ts m)) where
      pub leads : {A : Type 0} (r : Rule L A) → is_sure fs ms r ≡ true → (ts : List L.Token) → IfFault (reading fs env r ts) (λ m. Leads (Spelt refs r) ts m)
      leads (token k) sure ts = leads_token k ts
      leads (empty a) sure ts = tt
      leads (both p q) sure ts =
          let sure_both = and_parts (is_sure fs ms p && is_sure fs ms q) (apart L (more fs ms p) (first fs q)) sure in
          let sures = and_parts (is_sure fs ms p) (is_sure fs ms q) sure_both.0 in
          let sure_p = sures.0 in
          let sure_q = sures.1 in
          let c = example q in
          IfFault-and_then (reading fs env p ts) _ (λ m. Leads (Spelt refs p) ts m) (λ m. Leads (Spelt refs (both p q)) ts m) (λ x s. Takes (Spelt refs p) ts x s) (leads p sure_p ts)
          (λ m a. record {
            part = a.part;
            rest = a.rest;
            is = a.is;
            size = a.size;
            others = a.others ++ c.0;
            tree = (a.tree, c.1);
            spelt = (a.part ++ a.others, c.0, sym (append_assoc a.part a.others c.0), a.spelt, c.2);
          })
          (sound L laws fs ms env refs named found p sure_p ts)
          (λ x s a. IfFault-and_then (reading fs env q s) _ (λ m. Leads (Spelt refs q) s m) (λ m. Leads (Spelt refs (both p q)) ts m) (λ y i. Takes (Spelt refs q) s y i) (leads q sure_q s)
          (λ m b. record {
            part = a.part ++ b.part;
            rest = b.rest;
            is = a.is ∙ ap (λ z. a.part ++ z) b.is ∙ sym (append_assoc a.part b.part b.rest);
            size = b.size;
            others = b.others;
            tree = (x, b.tree);
            spelt = (a.part, b.part ++ b.others, append_assoc a.part b.part b.others, a.spelt, b.spelt);
          })
          (sound L laws fs ms env refs named found q sure_q s) (λ y i _. tt))
      leads (either p q) sure ts =
          let sure_all = and_parts (is_sure fs ms p && is_sure fs ms q && apart L (first fs p) (first fs q)) (not (nullable p)) sure in
          let sure_both = and_parts (is_sure fs ms p && is_sure fs ms q) (apart L (first fs p) (first fs q)) sure_all.0 in
          let sures = and_parts (is_sure fs ms p) (is_sure fs ms q) sure_both.0 in
          let sure_p = sures.0 in
          let sure_q = sures.1 in
          IfFault-cond (starts L (first fs p) ts) _ _ (λ m. Leads (Spelt refs (either p q)) ts m)
          (IfFault-weaker (reading fs env p ts) (λ m. Leads (Spelt refs p) ts m) (λ m. Leads (Spelt refs (either p q)) ts m) (leads p sure_p ts)
          (λ m a. record { part = a.part; rest = a.rest; is = a.is; size = a.size; others = a.others; tree = a.tree; spelt = inl a.spelt }))
          (IfFault-weaker (reading fs env q ts) (λ m. Leads (Spelt refs q) ts m) (λ m. Leads (Spelt refs (either p q)) ts m) (leads q sure_q ts)
          (λ m a. record { part = a.part; rest = a.rest; is = a.is; size = a.size; others = a.others; tree = a.tree; spelt = inr a.spelt }))
      leads (many p) sure ts =
          let sure_all = and_parts (is_sure fs ms p && apart L (more fs ms p) (first fs p)) (not (nullable p)) sure in
          let sure_both = and_parts (is_sure fs ms p) (apart L (more fs ms p) (first fs p)) sure_all.0 in
          let sure_p = sure_both.0 in
          leads_each (Spelt refs p) (first fs p) (reading fs env p) (sound L laws fs ms env refs named found p sure_p) (leads p sure_p) (suc (length ts)) ts
      leads (made f p) sure ts =
          let sure_p = sure in
          IfFault-and_then (reading fs env p ts) _ (λ m. Leads (Spelt refs p) ts m) (λ m. Leads (Spelt refs (made f p)) ts m) (λ x s. Takes (Spelt refs p) ts x s) (leads p sure_p ts)
          (λ m a. record { part = a.part; rest = a.rest; is = a.is; size = a.size; others = a.others; tree = f a.tree; spelt = (a.tree, a.spelt, refl) })
          (sound L laws fs ms env refs named found p sure_p ts) (λ x s _. tt)
      leads (placed p) sure ts =
          let sures = and_parts (is_sure fs ms p) (not (nullable p)) sure in
          IfFault-and_then (reading fs env p ts) _ (λ m. Leads (Spelt refs p) ts m) (λ m. Leads (Spelt refs (placed p)) ts m) (λ x s. Takes (Spelt refs p) ts x s) (leads p sures.0 ts)
          (λ m a. record { part = a.part; rest = a.rest; is = a.is; size = a.size; others = a.others; tree = (place_of L (a.part ++ a.others), a.tree); spelt = (refl, a.spelt) })
          (sound L laws fs ms env refs named found p sures.0 ts) (λ x s _. tt)
      leads (ref n) sure ts = leading n ts

  -- an example, if the named rules that it takes have one
  module _ (refs : (n : L.Name) → List L.Token → L.Tree n → Type 0) where
    abbrev pub both_found : {A B : Type 0} (p : Rule L A) (q : Rule L B) → Option (Example (Spelt refs p)) → Option (Example (Spelt refs q)) → Option (Example (Spelt refs (both p q)))
    both_found p q (Some a) (Some b) = Some (a.0 ++ b.0, (a.1, b.1), (a.0, b.0, refl, a.2, b.2))
    both_found p q (Some a) None = None
    both_found p q None b = None

    abbrev pub either_found : {A : Type 0} (p q : Rule L A) → Option (Example (Spelt refs p)) → Option (Example (Spelt refs q)) → Option (Example (Spelt refs (either p q)))
    either_found p q (Some a) b = Some (a.0, a.1, inl a.2)
    either_found p q None (Some b) = Some (b.0, b.1, inr b.2)
    either_found p q None None = None

    abbrev pub made_found : {A B : Type 0} (f : A → B) (p : Rule L A) → Option (Example (Spelt refs p)) → Option (Example (Spelt refs (made f p)))
    made_found f p (Some a) = Some (a.0, f a.1, (a.1, a.2, refl))
    made_found f p None = None

    abbrev pub placed_found : {A : Type 0} (p : Rule L A) → Option (Example (Spelt refs p)) → Option (Example (Spelt refs (placed p)))
    placed_found p (Some a) = Some (a.0, (place_of L a.0, a.1), (refl, a.2))
    placed_found p None = None

    abbrev pub find : ((n : L.Name) → Option (Example (refs n))) → {A : Type 0} (r : Rule L A) → Option (Example (Spelt refs r))
    find es (token k) = Some (laws.sample k ∷ [], laws.sample k, (refl, laws.sample_kind k))
    find es (empty a) = Some ([], a, (refl, refl))
    find es (both p q) = both_found p q (find es p) (find es q)
    find es (either p q) = either_found p q (find es p) (find es q)
    find es (many p) = Some ([], [], refl)
    find es (made f p) = made_found f p (find es p)
    find es (placed p) = placed_found p (find es p)
    find es (ref n) = es n
