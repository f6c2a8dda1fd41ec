-- The elements of a list, each once: what one more element changes.
use Rattle.std.proofs.Common.{◌≡◌, Bool, true, false, cond, not, ◌||◌, List, [], ◌∷◌, ◌++◌, refl, sym, ◌∙◌, ap}
use Rattle.std.specs.Bool.{Decides}
use Rattle.std.specs.List.{list_any, filter}
use Rattle.std.proofs.lemmas.List.{append-nil}
use Rattle.qs_terms.specs.Bag.{Distinct, once, with_new}

pub or_left_false : (a b : Bool) → (a || b) ≡ false → a ≡ false
or_left_false true b h = h
or_left_false false b h = refl

pub or_right_false : (a b : Bool) → (a || b) ≡ false → b ≡ false
or_right_false true b h = let f : true ≡ false = h in cc
or_right_false false b h = h

pub or_second : (a b : Bool) → b ≡ true → (a || b) ≡ true
or_second true b h = refl
or_second false b h = h

kept_at : {X : Type 0} (b : Bool) (x : X) (a c d : List X) → d ≡ a ++ c → cond b (x ∷ d) d ≡ cond b (x ∷ a) a ++ c
kept_at true x a c d h = ap (λ l. x ∷ l) h
kept_at false x a c d h = h

pub filter-append : {X : Type 0} (p : X → Bool) (xs ys : List X) → filter p (xs ++ ys) ≡ filter p xs ++ filter p ys
filter-append p [] ys = refl
filter-append p (x ∷ xs) ys = kept_at (p x) x _ _ _ (filter-append p xs ys)

one_kept : {X : Type 0} (p : X → Bool) (t : X) → p t ≡ true → filter p (t ∷ []) ≡ t ∷ []
one_kept p t h = rw h refl

one_left : {X : Type 0} (p : X → Bool) (t : X) → p t ≡ false → filter p (t ∷ []) ≡ []
one_left p t h = rw h refl

module _ {X : Type 0} (same : X → X → Bool) (exact : (a b : X) → Decides (same a b) (a ≡ b)) where
  any_kept_at : (x t : X) (p : X → Bool) (rest : List X) (b e : Bool) → same x t ≡ e → (p t ≡ b) → p x ≡ true → (e || list_any (same x) rest) ≡ true → (list_any (same x) rest ≡ true → list_any (same x) (filter p rest) ≡ true) → list_any (same x) (cond b (t ∷ filter p rest) (filter p rest)) ≡ true
  any_kept_at x t p rest true true q h k w f = rw q refl
  any_kept_at x t p rest true false q h k w f = or_second (same x t) _ (f w)
  any_kept_at x t p rest false true q h k w f =
      let e : x ≡ t = (exact x t).0 q in let g : p x ≡ p t = ap p e in cc
  any_kept_at x t p rest false false q h k w f = f w

  -- an element that the filter keeps is still there
  pub any_kept : (x : X) (p : X → Bool) (ts : List X) → p x ≡ true → list_any (same x) ts ≡ true → list_any (same x) (filter p ts) ≡ true
  any_kept x p [] k w = w
  any_kept x p (t ∷ ts) k w = any_kept_at x t p ts (p t) (same x t) refl refl k w (any_kept x p ts k)

  none_kept_at : (x t : X) (b : Bool) (fs : List X) → same x t ≡ false → list_any (same x) fs ≡ false → list_any (same x) (cond b (t ∷ fs) fs) ≡ false
  none_kept_at x t true fs e h = rw (e, h) refl
  none_kept_at x t false fs e h = h

  -- a filter brings no element in
  pub none_kept : (x : X) (p : X → Bool) (ts : List X) → list_any (same x) ts ≡ false → list_any (same x) (filter p ts) ≡ false
  none_kept x p [] h = refl
  none_kept x p (t ∷ ts) h =
      none_kept_at x t (p t) (filter p ts) (or_left_false (same x t) (list_any (same x) ts) h) (none_kept x p ts (or_right_false (same x t) (list_any (same x) ts) h))

  distinct_kept_at : (t : X) (b : Bool) (fs : List X) → list_any (same t) fs ≡ false → Distinct same fs → Distinct same (cond b (t ∷ fs) fs)
  distinct_kept_at t true fs h d = (h, d)
  distinct_kept_at t false fs h d = d

  -- a part of distinct elements is distinct
  pub distinct_kept : (p : X → Bool) (ts : List X) → Distinct same ts → Distinct same (filter p ts)
  distinct_kept p [] d = tt
  distinct_kept p (t ∷ ts) d = distinct_kept_at t (p t) (filter p ts) (none_kept t p ts d.0) (distinct_kept p ts d.1)

  none_left_at : (t u : X) (b : Bool) (fs : List X) → same t u ≡ b → list_any (same t) fs ≡ false → list_any (same t) (cond (not b) (u ∷ fs) fs) ≡ false
  none_left_at t u true fs e h = h
  none_left_at t u false fs e h = rw (e, h) refl

  none_left : (t : X) (ts : List X) → list_any (same t) (filter (λ u. not (same t u)) ts) ≡ false
  none_left t [] = refl
  none_left t (u ∷ ts) = none_left_at t u (same t u) _ refl (none_left t ts)

  -- each element stands once
  pub once_distinct : (ts : List X) → Distinct same (once same ts)
  once_distinct [] = tt
  once_distinct (t ∷ ts) = (none_left t (once same ts), distinct_kept (λ u. not (same t u)) (once same ts) (once_distinct ts))

  other : (t x : X) (b : Bool) → same x t ≡ b → same t x ≡ false → not b ≡ true
  other t x true q h = let e : x ≡ t = (exact x t).0 q in let f : same t x ≡ true = (exact t x).1 (sym e) in cc
  other t x false q h = refl

  same_back : (t x : X) → same t x ≡ true → same x t ≡ true
  same_back t x h = (exact x t).1 (sym ((exact t x).0 h))

  abbrev others : X → X → Bool
  others x u = not (same x u)

  was_new : (t x : X) (xs : List X) (c : Bool) → list_any (same t) (once same xs) ≡ c → others x t ≡ true → list_any (same t) (filter (others x) (once same xs)) ≡ false → list_any (same t) (once same xs) ≡ false
  was_new t x xs true e k b = let f : list_any (same t) (filter (others x) (once same xs)) ≡ true = any_kept t (others x) (once same xs) k e in cc
  was_new t x xs false e k b = e

  -- a new element comes last
  pub once_new : (t : X) (xs : List X) → list_any (same t) (once same xs) ≡ false → once same (xs ++ t ∷ []) ≡ once same xs ++ t ∷ []
  once_new t [] h = refl
  once_new t (x ∷ xs) h =
      let a : same t x ≡ false = or_left_false (same t x) (list_any (same t) (filter (others x) (once same xs))) h in
      let b : list_any (same t) (filter (others x) (once same xs)) ≡ false = or_right_false (same t x) (list_any (same t) (filter (others x) (once same xs))) h in
      let k : others x t ≡ true = other t x (same x t) refl a in
      ap (λ l. x ∷ l)
      (ap (filter (others x)) (once_new t xs (was_new t x xs (list_any (same t) (once same xs)) refl k b))
      ∙ (filter-append (others x) (once same xs) (t ∷ []) ∙ ap (λ l. filter (others x) (once same xs) ++ l) (one_kept (others x) t k)))

  head_known : (t x : X) (xs : List X) (c : Bool) → same t x ≡ c → list_any (same t) (x ∷ filter (others x) (once same xs)) ≡ true → list_any (same t) (once same xs) ≡ false → others x t ≡ false
  head_known t x xs true q h e = rw (same_back t x q) refl
  head_known t x xs false q h e =
      let n : list_any (same t) (filter (others x) (once same xs)) ≡ false = none_kept t (others x) (once same xs) e in
      let f : (same t x || list_any (same t) (filter (others x) (once same xs))) ≡ false = rw (q, n) refl in
      cc

  known_at : (t x : X) (xs : List X) (c : Bool) → list_any (same t) (x ∷ filter (others x) (once same xs)) ≡ true → list_any (same t) (once same xs) ≡ c → (list_any (same t) (once same xs) ≡ true → once same (xs ++ t ∷ []) ≡ once same xs) → (x ∷ filter (others x) (once same (xs ++ t ∷ []))) ≡ x ∷ filter (others x) (once same xs)
  known_at t x xs true h e f = ap (λ l. x ∷ filter (others x) l) (f e)
  known_at t x xs false h e f =
      ap (λ l. x ∷ l)
      (ap (filter (others x)) (once_new t xs e)
      ∙ (filter-append (others x) (once same xs) (t ∷ []) ∙ (ap (λ l. filter (others x) (once same xs) ++ l) (one_left (others x) t (head_known t x xs (same t x) refl h e)) ∙ append-nil (filter (others x) (once same xs)))))

  -- an element that is there already changes nothing
  pub once_known : (t : X) (xs : List X) → list_any (same t) (once same xs) ≡ true → once same (xs ++ t ∷ []) ≡ once same xs
  once_known t [] h = let f : false ≡ true = h in cc
  once_known t (x ∷ xs) h = known_at t x xs (list_any (same t) (once same xs)) h refl (λ e. once_known t xs e)

  with_at : (xs : List X) (t : X) (b : Bool) → list_any (same t) (once same xs) ≡ b → once same (xs ++ t ∷ []) ≡ cond b (once same xs) (once same xs ++ t ∷ [])
  with_at xs t true e = once_known t xs e
  with_at xs t false e = once_new t xs e

  -- one element more
  pub once_with : (xs : List X) (t : X) → once same (xs ++ t ∷ []) ≡ with_new same (once same xs) t
  once_with xs t = with_at xs t (list_any (same t) (once same xs)) refl
