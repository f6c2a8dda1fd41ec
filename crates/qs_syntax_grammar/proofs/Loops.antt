-- A loop of the code, turn by turn, beside the loop of a rule that stands any number of times.
use Rattle.std.proofs.Common.{◌≡◌, ◌<◌, ◌≤◌, ◌+◌, ◌-◌, ℕ, suc, true, false, List, [], ◌∷◌, ◌++◌, fold, length, Option, Some, None, Ok, Err, refl, sym, ◌∙◌, ap, arith, append-nil, append_assoc}
use Rattle.qs_syntax_grammar.specs.declared.fault.Fault.{Fault}
use Rattle.qs_syntax_grammar.specs.declared.fault.Fault.TheVariants.{Deep}
use Rattle.qs_syntax_grammar.specs.Rule.{Language, Rule, token}
use Rattle.qs_syntax_grammar.specs.inner.Reading.{Reader, Outcome, and_then, starts, loop, first, take_kind}
use Rattle.qs_syntax_grammar.specs.inner.Grammar.{Guided, read}
use Rattle.qs_syntax_grammar.specs.inner.Repeated.{into, push, keep}
use Rattle.qs_syntax_grammar.specs.Notation.{cons, opt, ◌>>◌}
use Rattle.qs_syntax_grammar.specs.inner.Repeated.{kept, joined}

fold-push : {A : Type 0} (found xs : List A) → fold push found xs ≡ found ++ xs
fold-push found [] = sym (append-nil found)
fold-push found (x ∷ xs) = fold-push (found ++ x ∷ []) xs ∙ append_assoc found (x ∷ []) xs

fold-keep : {A : Type 0} (found : List A) (xs : List (Option A)) → fold keep found xs ≡ found ++ kept xs
fold-keep found [] = sym (append-nil found)
fold-keep found (None ∷ xs) = fold-keep found xs
fold-keep found (Some x ∷ xs) = fold-keep (found ++ x ∷ []) xs ∙ append_assoc found (x ∷ []) (kept xs)

steps : {T A B C : Type 0} (o : Outcome T (List B)) (x : A) (f : A × List B → C) (g : C → B → C) (start : C) → ((xs : List B) → f (x, xs) ≡ fold g start xs)
    → and_then (and_then o (λ y s. Ok ((x, y), s))) (λ z s. Ok (f z, s)) ≡ into g start o
steps (Ok p) x f g start h = ap (λ z. Ok (z, p.1)) (h p.0)
steps (Err e) x f g start h = refl

-- the first was read, and the others are taken up into it
pub first_read : (L : Language) {A B C : Type 0} (o : Outcome L.Token A) (x : A) (s : List L.Token) (ks : List L.Kind) (p : Reader L.Token B) (f : A × List B → C) (g : C → B → C) (start : C) (n : ℕ)
    → o ≡ Ok (x, s) → n ≡ suc (length s) → ((xs : List B) → f (x, xs) ≡ fold g start xs)
    → and_then (and_then o (λ a i. and_then (loop L (suc (length i)) ks p i) (λ y j. Ok ((a, y), j)))) (λ z i. Ok (f z, i)) ≡ into g start (loop L n ks p s)
first_read L o x s ks p f g start n e l h = rw (e, l) (steps (loop L (suc (length s)) ks p s) x f g start h)

pub cons-push : {A : Type 0} (x : A) (found : List A) → found ≡ [] ++ x ∷ [] → (xs : List A) → cons (x, xs) ≡ fold push found xs
cons-push x found e xs = rw e (sym (fold-push (x ∷ []) xs))

pub cons-keep : {A : Type 0} (x : A) (found : List A) → found ≡ [] ++ x ∷ [] → (xs : List (Option A)) → x ∷ kept xs ≡ fold keep found xs
cons-keep x found e xs = rw e (sym (fold-keep (x ∷ []) xs))

again : {T A B : Type 0} (f : B → A → B) (o : Outcome T (List A)) (made : B) (x : A) → into f made (and_then o (λ xs s. Ok (x ∷ xs, s))) ≡ into f (f made x) o
again f (Ok p) made x = refl
again f (Err e) made x = refl

module _ (L : Language) {A B : Type 0} (f : B → A → B) (ks : List L.Kind) (p : Reader L.Token A) (whole : Outcome L.Token B) (n i : ℕ) (made : B) (ts : List L.Token) where
  turn : i < n → into f made (loop L (n - i) ks p ts) ≡ into f made (loop L (suc (n - (i + 1))) ks p ts)
  turn l = let e : n - i ≡ suc (n - (i + 1)) = omega arith in ap (λ m. into f made (loop L m ks p ts)) e

  pub goes_on : i < n → whole ≡ into f made (loop L (n - i) ks p ts) → starts L ks ts ≡ true → (x : A) (s : List L.Token) (now : B) → p ts ≡ Ok (x, s)
      → now ≡ f made x → whole ≡ into f now (loop L (n - (i + 1)) ks p s)
  goes_on l h b x s now e g = h ∙ turn l ∙ rw (b, e, g) (again f (loop L (n - (i + 1)) ks p s) made x)

  pub stops : i < n → whole ≡ into f made (loop L (n - i) ks p ts) → starts L ks ts ≡ false → whole ≡ Ok (made, ts)
  stops l h b = h ∙ turn l ∙ rw b refl

  pub fails : i < n → whole ≡ into f made (loop L (n - i) ks p ts) → starts L ks ts ≡ true → (e : Fault) → p ts ≡ Err e → whole ≡ Err e
  fails l h b e g = h ∙ turn l ∙ rw (b, g) refl

  pub too_many : n ≤ i → whole ≡ into f made (loop L (n - i) ks p ts) → whole ≡ Err Deep
  too_many l h = let e : n - i ≡ 0 = omega arith in h ∙ ap (λ m. into f made (loop L m ks p ts)) e

-- at a depth above 0
pub deeper : {X : Type 0} (f : ℕ → X) (n : ℕ) → 0 < n → f n ≡ f (suc (n - 1))
deeper f n some = let e : n ≡ suc (n - 1) = omega arith in ap f e

-- what stands at most once, after a token
module _ {L : Language} (G : Guided L) (k : L.Kind) {A : Type 0} (p : Rule L A) (d : ℕ) (ts : List L.Token) (t : L.Token) (s : List L.Token) (taken : take_kind L k ts ≡ Ok (t, s)) where
  pub after_none : starts L (first G.firsts p) s ≡ false → read G d (token k >> opt p) ts ≡ Ok (None, s)
  after_none b = rw (taken, b) refl

  pub after_some : starts L (first G.firsts p) s ≡ true → (x : A) (i : List L.Token) → read G d p s ≡ Ok (x, i) → read G d (token k >> opt p) ts ≡ Ok (Some x, i)
  after_some b x i e = rw (taken, b, e) refl

  pub after_fault : starts L (first G.firsts p) s ≡ true → (e : Fault) → read G d p s ≡ Err e → read G d (token k >> opt p) ts ≡ Err e
  after_fault b e g = rw (taken, b, g) refl

fold-append : {A : Type 0} (found : List A) (xs : List (List A)) → fold ◌++◌ found xs ≡ found ++ joined xs
fold-append found [] = sym (append-nil found)
fold-append found (x ∷ xs) = fold-append (found ++ x) xs ∙ append_assoc found x (joined xs)

pub append-joined : {A : Type 0} (x : List A) (xs : List (List A)) → x ++ joined xs ≡ fold ◌++◌ x xs
append-joined x xs = sym (fold-append x xs)

from_nothing : {T A : Type 0} (o : Outcome T (List A)) → o ≡ into push [] o
from_nothing (Ok p) = ap (λ xs. Ok (xs, p.1)) (sym (fold-push [] p.0))
from_nothing (Err e) = refl

-- nothing was read before
pub all_read : (L : Language) {A : Type 0} (ks : List L.Kind) (p : Reader L.Token A) (found : List A) (n : ℕ) (ts : List L.Token) → n ≡ suc (length ts) → found ≡ []
    → loop L (suc (length ts)) ks p ts ≡ into push found (loop L n ks p ts)
all_read L ks p found n ts e g = rw (e, g) (from_nothing (loop L (suc (length ts)) ks p ts))

kept_from_nothing : {T A : Type 0} (o : Outcome T (List (Option A))) → and_then o (λ xs s. Ok (kept xs, s)) ≡ into keep [] o
kept_from_nothing (Ok p) = ap (λ xs. Ok (xs, p.1)) (sym (fold-keep [] p.0))
kept_from_nothing (Err e) = refl

-- the same, of which those that are there are kept
pub all_kept : (L : Language) {A : Type 0} (ks : List L.Kind) (p : Reader L.Token (Option A)) (found : List A) (n : ℕ) (ts : List L.Token) → n ≡ suc (length ts) → found ≡ []
    → and_then (loop L (suc (length ts)) ks p ts) (λ xs s. Ok (kept xs, s)) ≡ into keep found (loop L n ks p ts)
all_kept L ks p found n ts e g = rw (e, g) (kept_from_nothing (loop L (suc (length ts)) ks p ts))

joined_from_nothing : {T A : Type 0} (o : Outcome T (List (List A))) → and_then o (λ xs s. Ok (joined xs, s)) ≡ into ◌++◌ [] o
joined_from_nothing (Ok p) = ap (λ xs. Ok (xs, p.1)) (sym (fold-append [] p.0))
joined_from_nothing (Err e) = refl

-- the same, which are lists and are joined
pub all_joined : (L : Language) {A : Type 0} (ks : List L.Kind) (p : Reader L.Token (List A)) (found : List A) (n : ℕ) (ts : List L.Token) → n ≡ suc (length ts) → found ≡ []
    → and_then (loop L (suc (length ts)) ks p ts) (λ xs s. Ok (joined xs, s)) ≡ into ◌++◌ found (loop L n ks p ts)
all_joined L ks p found n ts e g = rw (e, g) (joined_from_nothing (loop L (suc (length ts)) ks p ts))
