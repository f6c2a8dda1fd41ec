-- The laws of whole texts.
use Rattle.std.proofs.Common.{◌≡◌, ◌<◌, ◌≤◌, ◌+◌, ◌-◌, ℕ, zero, suc, true, false, List, [], ◌∷◌, ◌++◌, length, take, Ok, Err, Result, refl, sym, ◌∙◌, ap, subst, inl, inr, ◌⊎◌, arith, append-nil, add-one}
use Rattle.std.proofs.lemmas.Bool.{both_ways}
use Rattle.qs_syntax_grammar.specs.declared.fault.Fault.{Fault}
use Rattle.qs_syntax_grammar.specs.declared.fault.Fault.TheVariants.{Memory, Deep, Syntax}
use Rattle.qs_syntax_grammar.specs.Rule.{Language, Rule, Spelt}
use Rattle.qs_syntax_grammar.specs.inner.Reading.{Outcome, is_sure, opens}
use Rattle.qs_syntax_grammar.specs.Grammar.{spelt_at, Spells, IsDue}
use Rattle.qs_syntax_grammar.specs.inner.Grammar.{Guided, read_at, read, whole, passes, is_start}
use Rattle.qs_syntax_grammar.proofs.Laws.{Lawful}
use Rattle.qs_syntax_grammar.proofs.First.{is_viable}
use Rattle.qs_syntax_grammar.proofs.Viable.{Example}
use Rattle.qs_syntax_grammar.proofs.Outcomes.{IfRead, Extends, IsShallow, LeavesAtMost}
use Rattle.qs_syntax_grammar.proofs.Sound.{Takes, sound}
use Rattle.qs_syntax_grammar.proofs.Complete.{complete}
use Rattle.qs_syntax_grammar.proofs.Deeper.{extends, leaves, shallow}
use Rattle.qs_syntax_grammar.proofs.Local.{Twin, here, there, Alike, alike}
use Rattle.qs_syntax_grammar.proofs.Knot.{start_sure, start_closed, starts_named, done_named, found_named, extends_named, leaves_named, shallow_named, alike_named}

pub ok_same : {A : Type 0} (o : Result A Fault) (x y : A) → o ≡ Ok x → o ≡ Ok y → x ≡ y
ok_same o x y e g = cc

module _ (L : Language) (laws : Lawful L) (G : Guided L) (pass : (n : L.Name) → passes G n ≡ true)
    (height : ℕ) (examples : (n : L.Name) → Example (spelt_at G.rule height n)) (A : Type 0) (start : Rule L A) (begin : is_start G start ≡ true) where
  sure : is_sure G.firsts G.mores start ≡ true
  sure = start_sure G start begin

  closed : opens start ≡ false
  closed = start_closed G start begin

  extends_read : (d e : ℕ) → d ≤ e → (ts : List L.Token) → Extends (read G d start ts) (read G e start ts)
  extends_read d e l ts = extends L laws G.firsts (read_at G d) (read_at G e) (extends_named L laws G pass d e l) start ts

  -- two depths that are both enough
  same_at : (o o' : Outcome L.Token A) → IsShallow o → IsShallow o' → Extends o o' ⊎ Extends o' o → o ≡ o'
  same_at o o' h k (inl (inl e)) = absurd (subst IsShallow e h)
  same_at o o' h k (inl (inr e)) = sym e
  same_at o o' h k (inr (inl e)) = absurd (subst IsShallow e k)
  same_at o o' h k (inr (inr e)) = e

  ordered : (d e : ℕ) → (d ≤ e) ⊎ (e ≤ d)
  ordered d e = grind arith

  either_way : (d e : ℕ) (ts : List L.Token) → Extends (read G d start ts) (read G e start ts) ⊎ Extends (read G e start ts) (read G d start ts)
  either_way d e ts = elim (ordered d e) [ inl l ↦ inl (extends_read d e l ts) | inr l ↦ inr (extends_read e d l ts) ]

  is_shallow : (d : ℕ) (ts : List L.Token) → length ts ≤ d → IsShallow (read G d start ts)
  is_shallow d ts l = shallow L laws G.firsts G.mores (read_at G d) (spelt_at G.rule d) (starts_named L laws G pass d) (found_named L laws G pass d) d (shallow_named L laws G pass d) start sure ts l (λ o. absurd (both_ways (opens start) closed o))

  read_all : (e : ℕ) (ts : List L.Token) (x : A) → Spelt (spelt_at G.rule e) start ts x → read G e start ts ≡ Ok (x, [])
  read_all e ts x h = subst (λ z. read G e start z ≡ Ok (x, [])) (append-nil ts) (complete L laws G.firsts G.mores (read_at G e) (spelt_at G.rule e) (starts_named L laws G pass e) (done_named L laws G pass e) start sure ts x [] h refl)

  shallow_if : (o : Outcome L.Token A) (x : A) (s : List L.Token) → o ≡ Ok (x, s) → IsShallow o
  shallow_if o x s e = rw e tt

  -- what is read at a depth that is enough is what is spelt
  at_depth : (d : ℕ) (ts : List L.Token) (x : A) → IsShallow (read G d start ts) → Spells G.rule start ts x → read G d start ts ≡ Ok (x, [])
  at_depth d ts x h k =
      let e = read_all k.0 ts x k.1 in
      same_at (read G d start ts) (read G k.0 start ts) h (shallow_if (read G k.0 start ts) x [] e) (either_way d k.0 ts) ∙ e

  pub only_spelt : (d : ℕ) (ts : List L.Token) (x : A) → length ts ≤ d → Spells G.rule start ts x → whole (read G d start ts) ≡ Ok x
  only_spelt d ts x l h = rw (at_depth d ts x (is_shallow d ts l) h) refl

  whole_ok : (o : Outcome L.Token A) (x : A) → whole o ≡ Ok x → o ≡ Ok (x, [])
  whole_ok (Ok (y, [])) x e = cc
  whole_ok (Ok (y, t ∷ ts)) x e = cc
  whole_ok (Err i) x e = cc

  spelt_if : (d : ℕ) (ts : List L.Token) (x : A) (o : Outcome L.Token A) → o ≡ Ok (x, []) → IfRead o (λ y rest. Takes (Spelt (spelt_at G.rule d) start) ts y rest) → Takes (Spelt (spelt_at G.rule d) start) ts x []
  spelt_if d ts x o e h = let P : Outcome L.Token A → Type 0 = λ v. IfRead v (λ y rest. Takes (Spelt (spelt_at G.rule d) start) ts y rest) in subst P e h

  pub found_spelt : (d : ℕ) (ts : List L.Token) (x : A) → whole (read G d start ts) ≡ Ok x → Spells G.rule start ts x
  found_spelt d ts x e =
      let a = spelt_if d ts x (read G d start ts) (whole_ok (read G d start ts) x e) (sound L laws G.firsts G.mores (read_at G d) (spelt_at G.rule d) (starts_named L laws G pass d) (found_named L laws G pass d) start sure ts) in
      (d, rw (a.is, append-nil a.part) a.spelt)

  pub not_deep : (d : ℕ) (ts : List L.Token) → length ts ≤ d → whole (read G d start ts) ≡ Err Deep → ⊥
  not_deep d ts l e = go (read G d start ts) (is_shallow d ts l) e
    where
      go : (o : Outcome L.Token A) → IsShallow o → whole o ≡ Err Deep → ⊥
      go (Ok (x, [])) h e = cc
      go (Ok (x, t ∷ ts)) h e = cc
      go (Err (Syntax n)) h e = cc
      go (Err Deep) h e = h
      go (Err Memory) h e = cc

  -- ---- places

  split_at : (place : ℕ) (ts : List L.Token) → place < length ts → (t : L.Token) × (w : List L.Token) × (length w + suc place ≡ length ts) × ((others : List L.Token) → Twin t w others ts (take (suc place) ts ++ others))
  split_at place [] l = absurd (omega arith)
  split_at zero (t ∷ ts) l = (t, ts, omega arith, λ others. here)
  split_at (suc place) (t ∷ ts) l =
      let h = split_at place ts (omega arith) in
      (h.0, h.1, omega (arith, h.2), λ others. there (h.3 others))

  not_empty : (t : L.Token) (w v xs : List L.Token) → Twin t w v xs [] → ⊥
  not_empty t w v xs h = gone xs [] refl h
    where
      gone : (xs ys : List L.Token) → ys ≡ [] → Twin t w v xs ys → ⊥
      gone xs ys e here = cc
      gone xs ys e (there h) = cc

  abbrev rest_of : Outcome L.Token A → List L.Token
  rest_of (Ok p) = p.1
  rest_of (Err e) = []

  -- a fault at the token t, or tokens left over from it on, is a fault with whatever follows it
  stays : (t : L.Token) (w v : List L.Token) (o o' : Outcome L.Token A) (n : ℕ) → whole o ≡ Err (Syntax n) → length w < n → Alike t w v o o' → (x : A) → (IsShallow o' → o' ≡ Ok (x, [])) → ⊥
  stays t w v (Ok (y, [])) o' n e l h x k = cc
  stays t w v (Ok (y, i ∷ ts)) o' n e l (inl h) x k = let m : length (i ∷ ts) ≡ n = cc in omega arith
  stays t w v (Ok (y, i ∷ ts)) o' n e l (inr h) x k =
      let a : o' ≡ Ok (x, []) = k (rw h.2 tt) in
      let b : h.0 ≡ [] = ap rest_of (sym h.2 ∙ a) in
      not_empty t w v (i ∷ ts) (rw b at h.1)
  stays t w v (Err (Syntax m)) o' n e l (inl h) x k = let i : m ≡ n = cc in omega arith
  stays t w v (Err (Syntax m)) o' n e l (inr h) x k = let a : o' ≡ Ok (x, []) = k (rw h.1 tt) in cc
  stays t w v (Err Deep) o' n e l h x k = cc
  stays t w v (Err Memory) o' n e l h x k = cc

  left_at_most : (o : Outcome L.Token A) (m n : ℕ) → LeavesAtMost m o → whole o ≡ Err (Syntax n) → n ≤ m
  left_at_most (Ok (x, [])) m n h e = cc
  left_at_most (Ok (x, t ∷ ts)) m n h e = let i : length (t ∷ ts) ≡ n = cc in omega arith
  left_at_most (Err (Syntax i)) m n h e = let a : i ≡ n = cc in omega arith
  left_at_most (Err Deep) m n h e = cc
  left_at_most (Err Memory) m n h e = cc

  pub is_due : (d : ℕ) (ts : List L.Token) (left place : ℕ) → whole (read G d start ts) ≡ Err (Syntax left) → place ≡ length ts - left → IsDue G.rule start ts place
  is_due d ts left place e p =
      let b : left ≤ length ts = left_at_most (read G d start ts) (length ts) left (leaves L laws G.firsts (read_at G d) (leaves_named L laws G pass d) start ts) e in (
        omega arith,
        is_viable L laws G pass height examples start begin d ts left place e p,
        λ l v.
            let others = v.0 in
            let tree = v.1 in
            let s = split_at place ts l in
            let ts' = take (suc place) ts ++ others in
            let h' : Spells G.rule start ts' tree = rw add-one at v.2 in
            stays s.0 s.1 others (read G d start ts) (read G d start ts') left e (omega (arith, s.2))
            (alike L laws s.0 s.1 others G.firsts G.mores (read_at G d) (spelt_at G.rule d) (starts_named L laws G pass d) (found_named L laws G pass d) (leaves_named L laws G pass d) (alike_named L laws G pass s.0 s.1 others d) start sure ts ts' (s.3 others))
            tree (λ k. at_depth d ts' tree k h'),
      )

  pub at_most : (d : ℕ) (ts : List L.Token) (left : ℕ) → whole (read G d start ts) ≡ Err (Syntax left) → left ≤ length ts
  at_most d ts left e = left_at_most (read G d start ts) (length ts) left (leaves L laws G.firsts (read_at G d) (leaves_named L laws G pass d) start ts) e

  pub none_spelt : (d : ℕ) (ts : List L.Token) (e : Fault) → length ts ≤ d → whole (read G d start ts) ≡ Err e → (x : A) → Spells G.rule start ts x → ⊥
  none_spelt d ts e l h x s = let g : whole (read G d start ts) ≡ Ok x = only_spelt d ts x l s in cc

  pub one_tree : (d : ℕ) (ts : List L.Token) (x y : A) → length ts ≤ d → whole (read G d start ts) ≡ Ok x → Spells G.rule start ts y → x ≡ y
  one_tree d ts x y l h s = ok_same (whole (read G d start ts)) x y h (only_spelt d ts y l s)
