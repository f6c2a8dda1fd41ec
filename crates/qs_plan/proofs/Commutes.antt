-- Functions that commute with a merge: to merge m into n before is to merge it into all that comes of n.
use Rattle.std.proofs.Common.{◌≡◌, ◌⊎◌, inl, inr, ℕ, zero, suc, Bool, true, false, ◌&&◌, if◌then◌else◌, List, [], ◌∷◌, ◌++◌, length, Option, Some, None, slice_set, option_to_list, refl, sym, ◌∙◌, ap, subst, arith, append_assoc, append-nil}
use Rattle.std.specs.List.{AllByRecursion, flat_map}
use Rattle.std.proofs.lemmas.Grind.{flat_map-append}
use Rattle.std.proofs.lemmas.List.{length-set}
use Rattle.qs_terms.specs.declared.term.Term.{Term}
use Rattle.qs_terms.specs.Term.{same_term}
use Rattle.qs_terms.proofs.SameTerm.{same_term-Decides}
use Rattle.qs_terms.specs.Dataset.{Triple}
use Rattle.qs_paths_meaning.specs.Pair.{Pair}
use Rattle.qs_algebra_patterns.specs.declared.pattern.Slot.{Slot}
use Rattle.qs_algebra_patterns.specs.declared.pattern.Slot.TheVariants as slot
use Rattle.qs_algebra_patterns.specs.declared.pattern.TriplePattern.{TriplePattern}
use Rattle.qs_algebra_patterns.specs.declared.pattern.PathPattern.{PathPattern}
use Rattle.qs_algebra_patterns.specs.Basic.{Graph}
use Rattle.qs_algebra_solutions.specs.Solution.{Solution, term_at, compatible_terms, compatible, merge}
use Rattle.qs_algebra_solutions.specs.inner.Solution.{first_bound}
use Rattle.qs_algebra_solutions.specs.Operators.{merges}
use Rattle.qs_plan_meaning.specs.inner.Stages.{Made, along}
use Rattle.qs_plan_meaning.specs.inner.Scans.{bound_at, bound_slot, then_bound, bound_triple, extensions, bound_end, bound_ends, path_pairs, path_extensions}

same_self : (x : Term) → same_term x x ≡ true
same_self x = (same_term-Decides x x).1 refl

-- ---- one cell

abbrev pub consed : Option Term → Option Solution → Option Solution
consed x None = None
consed x (Some m) = Some (x ∷ m)

abbrev pub put : ℕ → Term → Solution → Option Solution
put zero t [] = Some []
put (suc v) t [] = Some []
put zero t (None ∷ m) = Some (Some t ∷ m)
put zero t (Some y ∷ m) = if same_term y t then Some (Some y ∷ m) else None
put (suc v) t (x ∷ m) = consed x (put v t m)

consed_at : (x c : Option Term) (v : ℕ) (t : Term) (m : Solution) → bound_at c (suc v) t (x ∷ m) ≡ consed x (bound_at c v t m)
consed_at x None v t m = refl
consed_at x (Some y) v t m = at (same_term y t) refl
  where
    at : (b : Bool) → same_term y t ≡ b → bound_at (Some y) (suc v) t (x ∷ m) ≡ consed x (bound_at (Some y) v t m)
    at true e = rw e refl
    at false e = rw e refl

pub put_is : (v : ℕ) (t : Term) (m : Solution) → bound_at (term_at m v) v t m ≡ put v t m
put_is zero t [] = refl
put_is (suc v) t [] = refl
put_is zero t (None ∷ m) = refl
put_is zero t (Some y ∷ m) = refl
put_is (suc v) t (x ∷ m) = consed_at x (term_at m v) v t m ∙ ap (consed x) (put_is v t m)

-- m merged with what there is, where they are compatible
abbrev pub joined : Solution → Option Solution → Option Solution
joined m None = None
joined m (Some n) = if compatible m n then Some (merge m n) else None

joined_cons : (x y : Option Term) (m : Solution) (o : Option Solution) → compatible_terms x y ≡ true → joined (x ∷ m) (consed y o) ≡ consed (first_bound x y) (joined m o)
joined_cons x y m None e = refl
joined_cons x y m (Some n) e = at (compatible m n) refl
  where
    at : (b : Bool) → compatible m n ≡ b → joined (x ∷ m) (consed y (Some n)) ≡ consed (first_bound x y) (joined m (Some n))
    at true f = rw (e, f) refl
    at false f = rw (e, f) refl

joined_apart : (x y : Option Term) (m : Solution) (o : Option Solution) → compatible_terms x y ≡ false → joined (x ∷ m) (consed y o) ≡ None
joined_apart x y m None e = refl
joined_apart x y m (Some n) e = rw e refl

-- to put a term into the merge is to merge it with what it was put into
abbrev Law : ℕ → Term → Solution → Solution → Type 0
Law v t m n = then_bound (joined m (Some n)) (put v t) ≡ joined m (put v t n)

put_joined : (v : ℕ) (t : Term) (m n : Solution) → length m ≡ length n → Law v t m n
put_joined zero t [] [] e = refl
put_joined (suc v) t [] [] e = refl
put_joined v t [] (y ∷ n) e = absurd (omega arith)
put_joined v t (x ∷ m) [] e = absurd (omega arith)
put_joined zero t (None ∷ m) (None ∷ n) e = at (compatible m n) refl
  where
    at : (b : Bool) → compatible m n ≡ b → Law zero t (None ∷ m) (None ∷ n)
    at true f = simp f
    at false f = simp f
put_joined zero t (None ∷ m) (Some y ∷ n) e = at (compatible m n) (same_term y t) refl refl
  where
    at : (b c : Bool) → compatible m n ≡ b → same_term y t ≡ c → Law zero t (None ∷ m) (Some y ∷ n)
    at true true f g = simp (f, g)
    at true false f g = simp (f, g)
    at false true f g = simp (f, g)
    at false false f g = simp (f, g)
put_joined zero t (Some x ∷ m) (None ∷ n) e = at (compatible m n) (same_term x t) refl refl
  where
    at : (b c : Bool) → compatible m n ≡ b → same_term x t ≡ c → Law zero t (Some x ∷ m) (None ∷ n)
    at true true f g = simp (f, g)
    at true false f g = simp (f, g)
    at false true f g = simp (f, g)
    at false false f g = simp (f, g)
put_joined zero t (Some x ∷ m) (Some y ∷ n) e = at (compatible m n) (same_term x y) (same_term y t) refl refl refl
  where
    same : (c : Bool) → compatible m n ≡ true → same_term y t ≡ c → Law zero t (Some y ∷ m) (Some y ∷ n)
    same true f g = simp (f, g, same_self y)
    same false f g = simp (f, g, same_self y)

    at : (b d c : Bool) → compatible m n ≡ b → same_term x y ≡ d → same_term y t ≡ c → Law zero t (Some x ∷ m) (Some y ∷ n)
    at true true c f h g = let k : x ≡ y = (same_term-Decides x y).0 h in subst (λ (z : Term). Law zero t (Some z ∷ m) (Some y ∷ n)) (sym k) (same c f g)
    at true false true f h g = simp (f, h, g)
    at true false false f h g = simp (f, h, g)
    at false true true f h g = simp (f, h, g)
    at false true false f h g = simp (f, h, g)
    at false false true f h g = simp (f, h, g)
    at false false false f h g = simp (f, h, g)
put_joined (suc v) t (x ∷ m) (y ∷ n) e = at (compatible_terms x y) (compatible m n) refl refl (put_joined v t m n (omega arith))
  where
    at : (d b : Bool) → compatible_terms x y ≡ d → compatible m n ≡ b → Law v t m n → Law (suc v) t (x ∷ m) (y ∷ n)
    at true true h f i = simp (h, f) (simp f at (ap (consed (first_bound x y)) i) ∙ sym (joined_cons x y m (put v t n) h))
    at true false h f i = simp (h, f) (simp f at (ap (consed (first_bound x y)) i) ∙ sym (joined_cons x y m (put v t n) h))
    at false b h f i = simp h (sym (joined_apart x y m (put v t n) h))

-- ---- slots, triples and ends of paths

-- the same of any function that gives one solution at most
abbrev pub OptionLaw : (Solution → Option Solution) → Solution → Solution → Type 0
OptionLaw g m n = then_bound (joined m (Some n)) g ≡ joined m (g n)

variable_joined : (v : ℕ) (t : Term) (m n : Solution) → length m ≡ length n → OptionLaw (λ x. bound_at (term_at x v) v t x) m n
variable_joined v t m n e = at (compatible m n) refl (put_joined v t m n e)
  where
    at : (b : Bool) → compatible m n ≡ b → Law v t m n → OptionLaw (λ x. bound_at (term_at x v) v t x) m n
    at true f i = simp f (put_is v t (merge m n) ∙ (simp f at i ∙ ap (joined m) (sym (put_is v t n))))
    at false f i = simp f (simp f at i ∙ ap (joined m) (sym (put_is v t n)))

slot_joined : (s : Slot) (t : Term) (m n : Solution) → length m ≡ length n → OptionLaw (bound_slot s t) m n
slot_joined (slot.Term c) t m n e = at (compatible m n) (same_term c t) refl refl
  where
    at : (b d : Bool) → compatible m n ≡ b → same_term c t ≡ d → OptionLaw (bound_slot (slot.Term c) t) m n
    at true true f g = simp (f, g)
    at true false f g = simp (f, g)
    at false true f g = simp (f, g)
    at false false f g = simp (f, g)
slot_joined (slot.Variable v) t m n e = variable_joined v t m n e

end_joined : (s : Slot) (t : Term) (m n : Solution) → length m ≡ length n → OptionLaw (bound_end s t) m n
end_joined (slot.Term c) t m n e = at (compatible m n) refl
  where
    at : (b : Bool) → compatible m n ≡ b → OptionLaw (bound_end (slot.Term c) t) m n
    at true f = simp f
    at false f = simp f
end_joined (slot.Variable v) t m n e = variable_joined v t m n e

then_assoc : (o : Option Solution) (g h : Solution → Option Solution) → then_bound o (λ x. then_bound (g x) h) ≡ then_bound (then_bound o g) h
then_assoc None g h = refl
then_assoc (Some x) g h = refl

chained : (g h : Solution → Option Solution) (m n : Solution) → OptionLaw g m n → ((r : Solution) → g n ≡ Some r → OptionLaw h m r) → OptionLaw (λ x. then_bound (g x) h) m n
chained g h m n a b = then_assoc (joined m (Some n)) g h ∙ (ap (λ o. then_bound o h) a ∙ at (g n) refl)
  where
    at : (o : Option Solution) → g n ≡ o → then_bound (joined m (g n)) h ≡ joined m (then_bound (g n) h)
    at None e = rw e refl
    at (Some r) e = rw e (b r e)

-- what a slot makes of n is n, or n with a variable set
pub record IsSet (v : ℕ) (t : Term) (n r : Solution) : Type 0 where
  pub is : r ≡ slice_set n v (Some t)

variable_sets : (v : ℕ) (t : Term) (n r : Solution) (c : Option Term) → bound_at c v t n ≡ Some r → (r ≡ n) ⊎ IsSet v t n r
variable_sets v t n r None h = let e : r ≡ slice_set n v (Some t) = cc in inr (record { is = e })
variable_sets v t n r (Some x) h = at (same_term x t) refl h
  where
    at : (b : Bool) → same_term x t ≡ b → (if b then Some n else None) ≡ Some r → (r ≡ n) ⊎ IsSet v t n r
    at true e k = let f : r ≡ n = cc in inl f
    at false e k = let f : None ≡ Some r = k in cc

abbrev pub SetBy : Slot → Term → Solution → Solution → Type 0
SetBy (slot.Term c) t n r = r ≡ n
SetBy (slot.Variable v) t n r = (r ≡ n) ⊎ IsSet v t n r

pub slot_sets : (s : Slot) (t : Term) (n r : Solution) → bound_slot s t n ≡ Some r → SetBy s t n r
slot_sets (slot.Term c) t n r h = at (same_term c t) refl h
  where
    at : (b : Bool) → same_term c t ≡ b → (if b then Some n else None) ≡ Some r → r ≡ n
    at true e k = cc
    at false e k = let f : None ≡ Some r = k in cc
slot_sets (slot.Variable v) t n r h = variable_sets v t n r (term_at n v) h

pub end_sets : (s : Slot) (t : Term) (n r : Solution) → bound_end s t n ≡ Some r → SetBy s t n r
end_sets (slot.Term c) t n r h = cc
end_sets (slot.Variable v) t n r h = variable_sets v t n r (term_at n v) h

set_width : (s : Slot) (t : Term) (n r : Solution) → SetBy s t n r → length r ≡ length n
set_width (slot.Term c) t n r e = ap length e
set_width (slot.Variable v) t n r (inl e) = ap length e
set_width (slot.Variable v) t n r (inr h) = ap length h.is ∙ length-set n v (Some t)

pub slot_width : (s : Slot) (t : Term) (n r : Solution) → bound_slot s t n ≡ Some r → length r ≡ length n
slot_width s t n r h = set_width s t n r (slot_sets s t n r h)

pub end_width : (s : Slot) (t : Term) (n r : Solution) → bound_end s t n ≡ Some r → length r ≡ length n
end_width s t n r h = set_width s t n r (end_sets s t n r h)

triple_joined : (p : TriplePattern) (t : Triple) (m n : Solution) → length m ≡ length n → OptionLaw (bound_triple p t) m n
triple_joined p t m n e =
    chained (bound_slot p.subject t.subject) (λ a. then_bound (bound_slot p.predicate t.predicate a) (λ b. bound_slot p.object t.object b)) m n
    (slot_joined p.subject t.subject m n e)
    (λ r g. (let k : length m ≡ length r = e ∙ sym (slot_width p.subject t.subject n r g) in
    chained (bound_slot p.predicate t.predicate) (bound_slot p.object t.object) m r (slot_joined p.predicate t.predicate m r k)
    (λ q h. slot_joined p.object t.object m q (k ∙ sym (slot_width p.predicate t.predicate r q h)))))

ends_joined : (p : PathPattern) (e : Pair) (m n : Solution) → length m ≡ length n → OptionLaw (bound_ends p e) m n
ends_joined p e m n l =
    chained (bound_end p.subject e.left) (bound_end p.object e.right) m n (end_joined p.subject e.left m n l)
    (λ r g. end_joined p.object e.right m r (l ∙ sym (end_width p.subject e.left n r g)))

-- ---- merges

pub merges_cons : (m r : Solution) (rs : List Solution) → merges (r ∷ rs) m ≡ merges (r ∷ []) m ++ merges rs m
merges_cons m r rs = at (compatible m r) refl
  where
    at : (b : Bool) → compatible m r ≡ b → merges (r ∷ rs) m ≡ merges (r ∷ []) m ++ merges rs m
    at true e = simp e
    at false e = simp e

pub merges_append : (m : Solution) (xs ys : List Solution) → merges (xs ++ ys) m ≡ merges xs m ++ merges ys m
merges_append m [] ys = refl
merges_append m (x ∷ xs) ys =
    merges_cons m x (xs ++ ys)
    ∙ (ap (λ l. merges (x ∷ []) m ++ l) (merges_append m xs ys)
    ∙ (sym (append_assoc (merges (x ∷ []) m) (merges xs m) (merges ys m)) ∙ ap (λ l. l ++ merges ys m) (sym (merges_cons m x xs))))

-- to merge m into n before is to merge it into all that comes of n
abbrev pub Commutes : Made → Solution → Solution → Type 0
Commutes f m n = flat_map f (merges (n ∷ []) m) ≡ merges (f n) m

-- what commutes at each row commutes at all
pub each : (g : Made) (m : Solution) (rs : List Solution) → AllByRecursion (Commutes g m) rs → flat_map g (merges rs m) ≡ merges (flat_map g rs) m
each g m [] h = refl
each g m (r ∷ rs) h =
    ap (flat_map g) (merges_cons m r rs)
    ∙ (flat_map-append g (merges (r ∷ []) m) (merges rs m)
    ∙ (ap (λ l. l ++ flat_map g (merges rs m)) h.0
    ∙ (ap (λ l. merges (g r) m ++ l) (each g m rs h.1) ∙ sym (merges_append m (g r) (flat_map g rs)))))

pub flat_flat : {X Y Z : Type 0} (f : X → List Y) (g : Y → List Z) (xs : List X) → flat_map (λ x. flat_map g (f x)) xs ≡ flat_map g (flat_map f xs)
flat_flat f g [] = refl
flat_flat f g (x ∷ xs) = ap (λ l. flat_map g (f x) ++ l) (flat_flat f g xs) ∙ sym (flat_map-append g (f x) (flat_map f xs))

one_after : (f g : Made) (m n : Solution) → Commutes f m n → AllByRecursion (Commutes g m) (f n) → Commutes (λ x. flat_map g (f x)) m n
one_after f g m n a b = flat_flat f g (merges (n ∷ []) m) ∙ (ap (flat_map g) a ∙ each g m (f n) b)

-- at compatible solutions, and at others
from_compatible : (f : Made) (m n : Solution) → compatible m n ≡ true → f (merge m n) ≡ merges (f n) m → Commutes f m n
from_compatible f m n e h = simp e (append-nil (f (merge m n)) ∙ h)

pub to_compatible : (f : Made) (m n : Solution) → compatible m n ≡ true → Commutes f m n → f (merge m n) ≡ merges (f n) m
to_compatible f m n e h = sym (append-nil (f (merge m n))) ∙ simp e at h

from_apart : (f : Made) (m n : Solution) → compatible m n ≡ false → merges (f n) m ≡ [] → Commutes f m n
from_apart f m n e h = simp e (sym h)

-- rows that come one by one
option_rows : (m : Solution) (o : Option Solution) → option_to_list (joined m o) ≡ merges (option_to_list o) m
option_rows m None = refl
option_rows m (Some n) = at (compatible m n) refl
  where
    at : (b : Bool) → compatible m n ≡ b → option_to_list (joined m (Some n)) ≡ merges (option_to_list (Some n)) m
    at true e = simp e
    at false e = simp e

module _ {T : Type 0} where
  scanned : (m : Solution) (b c : T → Option Solution) → ((t : T) → c t ≡ joined m (b t)) → (ts : List T) → flat_map (λ t. option_to_list (c t)) ts ≡ merges (flat_map (λ t. option_to_list (b t)) ts) m
  scanned m b c h [] = refl
  scanned m b c h (t ∷ ts) =
      ap (λ o. option_to_list o ++ flat_map (λ t. option_to_list (c t)) ts) (h t)
      ∙ (ap (λ l. l ++ flat_map (λ t. option_to_list (c t)) ts) (option_rows m (b t))
      ∙ (ap (λ l. merges (option_to_list (b t)) m ++ l) (scanned m b c h ts)
      ∙ sym (merges_append m (option_to_list (b t)) (flat_map (λ t. option_to_list (b t)) ts))))

  none_scanned : (ts : List T) → flat_map (λ t. let o : Option Solution = None in option_to_list o) ts ≡ []
  none_scanned [] = refl
  none_scanned (t ∷ ts) = none_scanned ts

  scan_commutes : (b : Solution → T → Option Solution) (m n : Solution) (ts : List T) → ((t : T) → OptionLaw (λ x. b x t) m n) → Commutes (λ x. flat_map (λ t. option_to_list (b x t)) ts) m n
  scan_commutes b m n ts h = at (compatible m n) refl
    where
      at : (c : Bool) → compatible m n ≡ c → Commutes (λ x. flat_map (λ t. option_to_list (b x t)) ts) m n
      at true e = from_compatible (λ x. flat_map (λ t. option_to_list (b x t)) ts) m n e (scanned m (b n) (b (merge m n)) (λ t. simp e at (h t)) ts)
      at false e = from_apart (λ x. flat_map (λ t. option_to_list (b x t)) ts) m n e (sym (sym (none_scanned ts) ∙ scanned m (b n) (λ t. None) (λ t. simp e at (h t)) ts))

  -- of each of them
  pub scanned_each : (P : Solution → Type 0) (b : T → Option Solution) → ((t : T) (r : Solution) → b t ≡ Some r → P r) → (ts : List T) → AllByRecursion P (flat_map (λ t. option_to_list (b t)) ts)
  scanned_each P b f [] = tt
  scanned_each P b f (t ∷ ts) = at (b t) refl (scanned_each P b f ts)
    where
      at : (o : Option Solution) → b t ≡ o → AllByRecursion P (flat_map (λ t. option_to_list (b t)) ts) → AllByRecursion P (option_to_list o ++ flat_map (λ t. option_to_list (b t)) ts)
      at None e i = i
      at (Some r) e i = (f t r e, i)

-- ---- what keeps the width and commutes, where both have one width

pub record IsEven (f : Made) : Type 0 where
  pub commutes : (m n : Solution) → length m ≡ length n → Commutes f m n
  pub wide : (n : Solution) → AllByRecursion (λ r. length r ≡ length n) (f n)

all_append : (P : Solution → Type 0) (xs ys : List Solution) → AllByRecursion P xs → AllByRecursion P ys → AllByRecursion P (xs ++ ys)
all_append P [] ys h k = k
all_append P (x ∷ xs) ys h k = (h.0, all_append P xs ys h.1 k)

pub all_map : {X : Type 0} (P Q : X → Type 0) → ((r : X) → P r → Q r) → (xs : List X) → AllByRecursion P xs → AllByRecursion Q xs
all_map P Q f [] h = tt
all_map P Q f (x ∷ xs) h = (f x h.0, all_map P Q f xs h.1)

pub all_flat : (P Q : Solution → Type 0) (f : Made) → ((r : Solution) → P r → AllByRecursion Q (f r)) → (xs : List Solution) → AllByRecursion P xs → AllByRecursion Q (flat_map f xs)
all_flat P Q f g [] h = tt
all_flat P Q f g (x ∷ xs) h = all_append Q (f x) (flat_map f xs) (g x h.0) (all_flat P Q f g xs h.1)

triple_width : (p : TriplePattern) (t : Triple) (n r : Solution) → bound_triple p t n ≡ Some r → length r ≡ length n
triple_width p t n r h = at (bound_slot p.subject t.subject n) refl h
  where
    last : (a : Solution) → length a ≡ length n → (o : Option Solution) → bound_slot p.predicate t.predicate a ≡ o → then_bound o (λ b. bound_slot p.object t.object b) ≡ Some r → length r ≡ length n
    last a l None e k = let f : None ≡ Some r = k in cc
    last a l (Some b) e k = slot_width p.object t.object b r k ∙ (slot_width p.predicate t.predicate a b e ∙ l)

    at : (o : Option Solution) → bound_slot p.subject t.subject n ≡ o → then_bound o (λ a. then_bound (bound_slot p.predicate t.predicate a) (λ b. bound_slot p.object t.object b)) ≡ Some r → length r ≡ length n
    at None e k = let f : None ≡ Some r = k in cc
    at (Some a) e k = last a (slot_width p.subject t.subject n a e) (bound_slot p.predicate t.predicate a) refl k

ends_width : (p : PathPattern) (e : Pair) (n r : Solution) → bound_ends p e n ≡ Some r → length r ≡ length n
ends_width p e n r h = at (bound_end p.subject e.left n) refl h
  where
    at : (o : Option Solution) → bound_end p.subject e.left n ≡ o → then_bound o (λ a. bound_end p.object e.right a) ≡ Some r → length r ≡ length n
    at None f k = let g : None ≡ Some r = k in cc
    at (Some a) f k = end_width p.object e.right a r k ∙ end_width p.subject e.left n a f

pub triple_even : (p : TriplePattern) (graph : Graph) → IsEven (extensions p graph)
triple_even p graph = record {
  commutes = λ m n l. scan_commutes (λ x t. bound_triple p t x) m n graph (λ t. triple_joined p t m n l);
  wide = λ n. scanned_each (λ r. length r ≡ length n) (λ t. bound_triple p t n) (λ t r e. triple_width p t n r e) graph;
}

pub path_even : (p : PathPattern) (graph : Graph) → IsEven (path_extensions p graph)
path_even p graph = record {
  commutes = λ m n l. scan_commutes (λ x e. bound_ends p e x) m n (path_pairs p graph) (λ e. ends_joined p e m n l);
  wide = λ n. scanned_each (λ r. length r ≡ length n) (λ e. bound_ends p e n) (λ e r k. ends_width p e n r k) (path_pairs p graph);
}

one_each : (xs : List Solution) → flat_map (along []) xs ≡ xs
one_each [] = refl
one_each (x ∷ xs) = ap (λ l. x ∷ l) (one_each xs)

pub along_even : (fs : List Made) → AllByRecursion IsEven fs → IsEven (along fs)
along_even [] h = record { commutes = λ m n l. one_each (merges (n ∷ []) m); wide = λ n. (refl, tt) }
along_even (f ∷ fs) h =
    let g : IsEven (along fs) = along_even fs h.1 in
    record {
      commutes = λ m n l. one_after f (along fs) m n (h.0.commutes m n l) (all_map (λ r. length r ≡ length n) (Commutes (along fs) m) (λ r e. g.commutes m r (l ∙ sym e)) (f n) (h.0.wide n));
      wide = λ n. all_flat (λ r. length r ≡ length n) (λ r. length r ≡ length n) (along fs) (λ r e. all_map (λ q. length q ≡ length r) (λ q. length q ≡ length n) (λ q k. k ∙ e) (along fs r) (g.wide r)) (f n) (h.0.wide n);
    }

-- ---- merges, one after another

terms_assoc : (x y z : Option Term) → (compatible_terms x y && compatible_terms (first_bound x y) z) ≡ (compatible_terms y z && compatible_terms x (first_bound y z))
terms_assoc None None z = at (compatible_terms None z) refl
  where
    at : (b : Bool) → compatible_terms None z ≡ b → (true && compatible_terms None z) ≡ (compatible_terms None z && true)
    at true e = rw e refl
    at false e = rw e refl
terms_assoc None (Some y) None = refl
terms_assoc None (Some y) (Some z) = at (same_term y z) refl
  where
    at : (b : Bool) → same_term y z ≡ b → (true && same_term y z) ≡ (same_term y z && true)
    at true e = rw e refl
    at false e = rw e refl
terms_assoc (Some x) None None = refl
terms_assoc (Some x) None (Some z) = refl
terms_assoc (Some x) (Some y) None = at (same_term x y) refl
  where
    at : (b : Bool) → same_term x y ≡ b → (same_term x y && true) ≡ (true && same_term x y)
    at true e = rw e refl
    at false e = rw e refl
terms_assoc (Some x) (Some y) (Some z) = at (same_term x y) refl
  where
    at : (b : Bool) → same_term x y ≡ b → (same_term x y && same_term x z) ≡ (same_term y z && same_term x y)
    at true e = let k : x ≡ y = (same_term-Decides x y).0 e in subst (λ (w : Term). (same_term w y && same_term w z) ≡ (same_term y z && same_term w y)) (sym k) (rw (same_self y) (same (same_term y z)))
      where
        same : (c : Bool) → c ≡ (c && true)
        same true = refl
        same false = refl
    at false e = rw e (same (same_term y z))
      where
        same : (c : Bool) → false ≡ (c && false)
        same true = refl
        same false = refl

first_assoc : (x y z : Option Term) → first_bound (first_bound x y) z ≡ first_bound x (first_bound y z)
first_assoc None y z = refl
first_assoc (Some x) y z = refl

pub merge_assoc : (a b c : Solution) → merge (merge a b) c ≡ merge a (merge b c)
merge_assoc [] b c = refl
merge_assoc (x ∷ a) [] c = refl
merge_assoc (x ∷ a) (y ∷ b) [] = refl
merge_assoc (x ∷ a) (y ∷ b) (z ∷ c) = ap (λ u. u ∷ merge (merge a b) c) (first_assoc x y z) ∙ ap (λ l. first_bound x (first_bound y z) ∷ l) (merge_assoc a b c)

four : (p q r s p' q' r' s' : Bool) → (p && q) ≡ (p' && q') → (r && s) ≡ (r' && s') → ((p && r) && (q && s)) ≡ ((p' && r') && (q' && s'))
four p q r s p' q' r' s' e f = swapped p r q s ∙ (ap (λ x. x && (r && s)) e ∙ (ap (λ x. (p' && q') && x) f ∙ sym (swapped p' r' q' s')))
  where
    swapped : (a b c d : Bool) → ((a && b) && (c && d)) ≡ ((a && c) && (b && d))
    swapped false b c d = refl
    swapped true false false d = refl
    swapped true false true d = refl
    swapped true true false d = refl
    swapped true true true d = refl

and_true : (b : Bool) → b ≡ (b && true)
and_true true = refl
and_true false = refl

nil_right : (a : Solution) → compatible a [] ≡ true
nil_right [] = refl
nil_right (x ∷ a) = refl

pub compatible_assoc : (a b c : Solution) → (compatible a b && compatible (merge a b) c) ≡ (compatible b c && compatible a (merge b c))
compatible_assoc [] b c = and_true (compatible b c)
compatible_assoc (x ∷ a) [] c = refl
compatible_assoc (x ∷ a) (y ∷ b) [] = sym (and_true (compatible (x ∷ a) (y ∷ b)))
compatible_assoc (x ∷ a) (y ∷ b) (z ∷ c) =
    four (compatible_terms x y) (compatible_terms (first_bound x y) z) (compatible a b) (compatible (merge a b) c)
    (compatible_terms y z) (compatible_terms x (first_bound y z)) (compatible b c) (compatible a (merge b c))
    (terms_assoc x y z) (compatible_assoc a b c)

merges_none : (m n : Solution) (xs : List Solution) → compatible m n ≡ false → merges (merges xs n) m ≡ []
merges_none m n [] e = refl
merges_none m n (x ∷ xs) e = at (compatible n x) refl (merges_none m n xs e)
  where
    is_false : (b c d : Bool) → (false && b) ≡ (c && d) → c ≡ true → d ≡ false
    is_false b true true h f = let g : false ≡ true = h in cc
    is_false b true false h f = refl
    is_false b false d h f = let g : false ≡ true = f in cc

    at : (b : Bool) → compatible n x ≡ b → merges (merges xs n) m ≡ [] → merges (merges (x ∷ xs) n) m ≡ []
    at true f i =
        let k : compatible m (merge n x) ≡ false = is_false (compatible (merge m n) x) (compatible n x) (compatible m (merge n x)) (ap (λ b. b && compatible (merge m n) x) (sym e) ∙ compatible_assoc m n x) f in
        simp (f, k) i
    at false f i = simp f i

merges_merged : (m n : Solution) (xs : List Solution) → compatible m n ≡ true → merges xs (merge m n) ≡ merges (merges xs n) m
merges_merged m n [] e = refl
merges_merged m n (x ∷ xs) e = at (compatible (merge m n) x) (compatible n x) refl refl (merges_merged m n xs e)
  where
    law : compatible (merge m n) x ≡ (compatible n x && compatible m (merge n x))
    law = ap (λ b. b && compatible (merge m n) x) (sym e) ∙ compatible_assoc m n x

    right : (b c d : Bool) → b ≡ (c && d) → b ≡ true → (c ≡ true) × (d ≡ true)
    right b true d h f = (refl, sym h ∙ f)
    right b false d h f = let g : false ≡ true = sym h ∙ f in cc

    other : (b c d : Bool) → b ≡ (c && d) → b ≡ false → c ≡ true → d ≡ false
    other b true d h f g = sym h ∙ f
    other b false d h f g = let k : false ≡ true = g in cc

    at : (b c : Bool) → compatible (merge m n) x ≡ b → compatible n x ≡ c → merges xs (merge m n) ≡ merges (merges xs n) m → merges (x ∷ xs) (merge m n) ≡ merges (merges (x ∷ xs) n) m
    at true c f g i =
        let k = right (compatible (merge m n) x) (compatible n x) (compatible m (merge n x)) law f in
        let k0 : compatible n x ≡ true = k.0 in
        let k1 : compatible m (merge n x) ≡ true = k.1 in
        simp (f, k0, k1) (ap (λ y. y ∷ merges xs (merge m n)) (merge_assoc m n x) ∙ ap (λ l. merge m (merge n x) ∷ l) i)
    at false true f g i =
        let k : compatible m (merge n x) ≡ false = other (compatible (merge m n) x) (compatible n x) (compatible m (merge n x)) law f g in
        simp (f, g, k) i
    at false false f g i = simp (f, g) i

-- merges commute with merges
pub merges_commute : (xs : List Solution) (m n : Solution) → Commutes (merges xs) m n
merges_commute xs m n = at (compatible m n) refl
  where
    at : (b : Bool) → compatible m n ≡ b → Commutes (merges xs) m n
    at true e = from_compatible (merges xs) m n e (merges_merged m n xs e)
    at false e = from_apart (merges xs) m n e (merges_none m n xs e)

each_commutes : (xs : List Solution) (m : Solution) (rs : List Solution) → AllByRecursion (Commutes (merges xs) m) rs
each_commutes xs m [] = tt
each_commutes xs m (r ∷ rs) = (merges_commute xs m r, each_commutes xs m rs)

-- to merge with a join is to merge with its left, and then with its right
pub merges_joined : (left right : List Solution) (m : Solution) → flat_map (merges right) (merges left m) ≡ merges (flat_map (merges right) left) m
merges_joined left right m = each (merges right) m left (each_commutes right m left)
