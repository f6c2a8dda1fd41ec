-- What the pairs of a path make of a row, by the path's form.
use Rattle.std.proofs.Common.{◌≡◌, ◌≢◌, ◌⊎◌, inl, inr, ℕ, zero, suc, ◌+◌, ◌≤◌, ◌<◌, ◌==◌, Bool, true, false, not, ◌&&◌, ◌||◌, cond, if◌then◌else◌, List, [], ◌∷◌, ◌++◌, length, map, take, Option, Some, None, slice_set, option_to_list, refl, sym, ◌∙◌, ap, subst, arith, append-nil}
use Rattle.std.specs.List.{filter, flat_map}
use Rattle.std.specs.Option.{option_map}
use Rattle.std.proofs.Math.Seq.{take-set-lt}
use Rattle.std.proofs.lemmas.Bool.Decides.{eqb_tells}
use Rattle.std.proofs.lemmas.Grind.{flat_map-append}
use Rattle.std.proofs.lemmas.List.Folds.{flat_map-map}
use Rattle.std.proofs.lemmas.List.{map-append, get_or-take, get_or-set_same, get_or-set_other, length-set, take-set}
use Rattle.qs_terms.specs.Dataset.{Triple}
use Rattle.qs_terms.specs.Term.{same_term}
use Rattle.qs_terms.specs.declared.term.Term.{Term}
use Rattle.qs_terms.specs.declared.term.Term.TheVariants as term
use Rattle.qs_terms.proofs.SameTerm.{same_term-Decides}
use Rattle.qs_syntax_ast.specs.declared.path.Path.{Path}
use Rattle.qs_syntax_ast.specs.declared.path.Path.TheVariants as path
use Rattle.qs_paths_meaning.specs.Pair.{Pair, pair, swapped}
use Rattle.qs_paths_meaning.specs.Pairs.{AtEnds, in_sequence, pairs}
use Rattle.qs_paths_meaning.specs.Steps.{Graph, agrees, along, composed, is_between}
use Rattle.qs_paths_meaning.specs.inner.Steps.{from_pair, pair_of}
use Rattle.qs_paths_meaning.proofs.Meaning.{pairs_alternative, pairs_inverse, pairs_iri, pairs_sequence}
use Rattle.qs_algebra_patterns.specs.declared.pattern.Slot.{Slot}
use Rattle.qs_algebra_patterns.specs.declared.pattern.Slot.TheVariants as slot
use Rattle.qs_algebra_patterns.specs.Basic.{is_variable, is_repeated, end_of, fits}
use Rattle.qs_algebra_solutions.specs.Solution.{Solution, term_at}
use Rattle.qs_plan_meaning.specs.inner.Scans.{bound_at, bound_slot, bound_end, then_bound, bound_triple, extensions, path_extensions}
use Rattle.qs_plan.specs.inner.Joins.{Lower, between, by_iri}
use Rattle.qs_plan.proofs.Commutes.{consed, put, put_is, flat_flat}

-- ---- two ends in either order

then_none : (o : Option Solution) → then_bound o (λ a. let n : Option Solution = None in n) ≡ None
then_none None = refl
then_none (Some a) = refl

then_some : (o : Option Solution) → then_bound o (λ a. Some a) ≡ o
then_some None = refl
then_some (Some a) = refl

then_ap : (o : Option Solution) (f g : Solution → Option Solution) → ((a : Solution) → f a ≡ g a) → then_bound o f ≡ then_bound o g
then_ap None f g h = refl
then_ap (Some a) f g h = h a

consed_then : (x : Option Term) (w : ℕ) (u : Term) (o : Option Solution) → then_bound (consed x o) (put (suc w) u) ≡ consed x (then_bound o (put w u))
consed_then x w u None = refl
consed_then x w u (Some m) = refl

-- a term put into a cell that is one
first_then : (t : Term) (o : Option Solution) → consed (Some t) o ≡ then_bound (consed None o) (put zero t)
first_then t None = refl
first_then t (Some m) = refl

given_then : (y t : Term) (o : Option Solution) → same_term y t ≡ true → consed (Some y) o ≡ then_bound (consed (Some y) o) (put zero t)
given_then y t None e = refl
given_then y t (Some m) e = simp e

given_none : (y t : Term) (o : Option Solution) → same_term y t ≡ false → None ≡ then_bound (consed (Some y) o) (put zero t)
given_none y t None e = refl
given_none y t (Some m) e = simp e

abbrev Swap : ℕ → ℕ → Term → Term → Solution → Type 0
Swap v w t u m = then_bound (put v t m) (put w u) ≡ then_bound (put w u m) (put v t)

first_swap : (w : ℕ) (t u : Term) (x : Option Term) (m : Solution) → Swap zero (suc w) t u (x ∷ m)
first_swap w t u None m = first_then t (put w u m)
first_swap w t u (Some y) m = at (same_term y t) refl
  where
    at : (b : Bool) → same_term y t ≡ b → Swap zero (suc w) t u (Some y ∷ m)
    at true e = simp e (given_then y t (put w u m) e)
    at false e = simp e (given_none y t (put w u m) e)

put_swap : (v w : ℕ) (t u : Term) (m : Solution) → Swap v w t u m
put_swap zero zero t u [] = refl
put_swap zero (suc w) t u [] = refl
put_swap (suc v) zero t u [] = refl
put_swap (suc v) (suc w) t u [] = refl
put_swap zero zero t u (None ∷ m) = at (same_term t u) refl
  where
    at : (b : Bool) → same_term t u ≡ b → Swap zero zero t u (None ∷ m)
    at true e = let k : t ≡ u = (same_term-Decides t u).0 e in subst (λ (z : Term). Swap zero zero t z (None ∷ m)) k refl
    at false e = rw e (other (same_term u t) refl)
      where
        other : (c : Bool) → same_term u t ≡ c → None ≡ (if same_term u t then Some (Some u ∷ m) else None)
        other true f = let k : same_term t u ≡ true = (same_term-Decides t u).1 (sym ((same_term-Decides u t).0 f)) in let n : true ≡ false = sym k ∙ e in cc
        other false f = rw f refl
put_swap zero zero t u (Some y ∷ m) = at (same_term y t) (same_term y u) refl refl
  where
    at : (b c : Bool) → same_term y t ≡ b → same_term y u ≡ c → Swap zero zero t u (Some y ∷ m)
    at true true e f = simp (e, f)
    at true false e f = simp (e, f)
    at false true e f = simp (e, f)
    at false false e f = simp (e, f)
put_swap zero (suc w) t u (x ∷ m) = first_swap w t u x m
put_swap (suc v) zero t u (x ∷ m) = sym (first_swap v u t x m)
put_swap (suc v) (suc w) t u (x ∷ m) = consed_then x w u (put v t m) ∙ (ap (consed x) (put_swap v w t u m) ∙ sym (consed_then x v t (put w u m)))

end_put : (v : ℕ) (t : Term) (m : Solution) → bound_end (slot.Variable v) t m ≡ put v t m
end_put v t m = put_is v t m

ends_swap : (s o : Slot) (t u : Term) (m : Solution) → then_bound (bound_end s t m) (bound_end o u) ≡ then_bound (bound_end o u m) (bound_end s t)
ends_swap (slot.Term c) o t u m = sym (then_some (bound_end o u m))
ends_swap (slot.Variable v) (slot.Term d) t u m = then_some (bound_end (slot.Variable v) t m)
ends_swap (slot.Variable v) (slot.Variable w) t u m =
    ap (λ x. then_bound x (bound_end (slot.Variable w) u)) (end_put v t m)
    ∙ (then_ap (put v t m) (bound_end (slot.Variable w) u) (put w u) (end_put w u)
    ∙ (put_swap v w t u m
    ∙ (sym (then_ap (put w u m) (bound_end (slot.Variable v) t) (put v t) (end_put v t))
    ∙ ap (λ x. then_bound x (bound_end (slot.Variable v) t)) (sym (end_put w u m)))))

-- ---- what pairs make of a row

abbrev pub end_pair : Slot → Slot → Solution → Pair → Option Solution
end_pair s o m e = then_bound (bound_end s e.left m) (λ a. bound_end o e.right a)

abbrev pub led : Slot → Slot → Solution → List Pair → List Solution
led s o m es = flat_map (λ e. option_to_list (end_pair s o m e)) es

-- a slot whose variable is one of the row's
abbrev pub Inside : Slot → Solution → Type 0
Inside s m = Lower (length m) s

repeated_none : (v : ℕ) (m : Solution) (x y : Term) → v < length m → same_term x y ≡ false → then_bound (bound_at (term_at m v) v x m) (λ a. bound_at (term_at a v) v y a) ≡ None
repeated_none v m x y lt e = at (term_at m v) refl
  where
    at : (c : Option Term) → term_at m v ≡ c → then_bound (bound_at c v x m) (λ a. bound_at (term_at a v) v y a) ≡ None
    at None f = let g : term_at (slice_set m v (Some x)) v ≡ Some x = get_or-set_same m v (Some x) None lt in rw (g, e) refl
    at (Some z) f = by (same_term z x) refl
      where
        by : (b : Bool) → same_term z x ≡ b → then_bound (if b then Some m else None) (λ a. bound_at (term_at a v) v y a) ≡ None
        by true h =
            let k : same_term z y ≡ false = ap (λ q. same_term q y) ((same_term-Decides z x).0 h) ∙ e in
            rw (f, k) refl
        by false h = refl

fit_none : (s o : Slot) (m : Solution) (e : Pair) → Inside s m → (not (is_repeated s o) || same_term e.left e.right) ≡ false → end_pair s o m e ≡ None
fit_none (slot.Term c) o m e i h = let n : true ≡ false = h in cc
fit_none (slot.Variable v) (slot.Term c) m e i h = let n : true ≡ false = h in cc
fit_none (slot.Variable v) (slot.Variable w) m e i h = at (eqb_tells w v)
  where
    at : (((w == v) ≡ true) × (w ≡ v)) ⊎ (((w == v) ≡ false) × (w ≢ v)) → end_pair (slot.Variable v) (slot.Variable w) m e ≡ None
    at (inl f) =
        let k : same_term e.left e.right ≡ false = rw (f.0) at h in
        subst (λ (x : ℕ). end_pair (slot.Variable v) (slot.Variable x) m e ≡ None) (sym f.1) (repeated_none v m e.left e.right i k)
    at (inr f) = let n : true ≡ false = rw (f.0) at h in cc

-- pairs that don't fit make nothing
fits_all : (s o : Slot) (p : Path) (m : Solution) (es : List Pair) → Inside s m → led s o m (filter (fits (between s p o)) es) ≡ led s o m es
fits_all s o p m [] i = refl
fits_all s o p m (e ∷ es) i = at (fits (between s p o) e) refl (fits_all s o p m es i)
  where
    at : (b : Bool) → fits (between s p o) e ≡ b → led s o m (filter (fits (between s p o)) es) ≡ led s o m es → led s o m (filter (fits (between s p o)) (e ∷ es)) ≡ led s o m (e ∷ es)
    at true f h = simp f (ap (λ l. option_to_list (end_pair s o m e) ++ l) h)
    at false f h = simp f (h ∙ ap (λ x. option_to_list x ++ led s o m es) (sym (fit_none s o m e i f)))

pub path_led : (s o : Slot) (p : Path) (graph : Graph) (m : Solution) → Inside s m → path_extensions (between s p o) graph m ≡ led s o m (pairs graph p (end_of s) (end_of o))
path_led s o p graph m i = fits_all s o p m (pairs graph p (end_of s) (end_of o)) i

-- ---- an inverse

led_swapped : (s o : Slot) (m : Solution) (es : List Pair) → led s o m (map swapped es) ≡ led o s m es
led_swapped s o m [] = refl
led_swapped s o m (e ∷ es) =
    ap (λ x. option_to_list x ++ led s o m (map swapped es)) (ends_swap s o e.right e.left m)
    ∙ ap (λ l. option_to_list (end_pair o s m e) ++ l) (led_swapped s o m es)

pub inverse_led : (s o : Slot) (p : Path) (graph : Graph) (m : Solution) → Inside s m → Inside o m
    → path_extensions (between o p s) graph m ≡ path_extensions (between s (path.Inverse p) o) graph m
inverse_led s o p graph m i j =
    path_led o s p graph m j
    ∙ (sym (led_swapped s o m (pairs graph p (end_of o) (end_of s)))
    ∙ (ap (λ (f : AtEnds). led s o m (f (end_of s) (end_of o))) (sym (pairs_inverse graph p))
    ∙ sym (path_led s o (path.Inverse p) graph m i)))

-- ---- one IRI

slot_end : (s : Slot) (t : Term) (m : Solution) → bound_slot s t m ≡ (if agrees (end_of s) t then bound_end s t m else None)
slot_end (slot.Term c) t m = refl
slot_end (slot.Variable v) t m = refl

slots_pair : (s o : Slot) (t : Triple) (m : Solution) → then_bound (bound_slot s t.subject m) (λ a. bound_slot o t.object a) ≡ (if is_between (end_of s) (end_of o) (pair_of t) then end_pair s o m (pair_of t) else None)
slots_pair s o t m =
    ap (λ x. then_bound x (λ a. bound_slot o t.object a)) (slot_end s t.subject m)
    ∙ (then_ap (if agrees (end_of s) t.subject then bound_end s t.subject m else None) (λ a. bound_slot o t.object a) (λ a. if agrees (end_of o) t.object then bound_end o t.object a else None) (slot_end o t.object)
    ∙ at (agrees (end_of s) t.subject) (agrees (end_of o) t.object))
  where
    at : (b c : Bool) → then_bound (if b then bound_end s t.subject m else None) (λ a. if c then bound_end o t.object a else None) ≡ (if b && c then end_pair s o m (pair_of t) else None)
    at true true = refl
    at true false = then_none (bound_end s t.subject m)
    at false c = refl

iri_scan : (s o : Slot) (i : List ℕ) (m : Solution) (graph : Graph) → extensions (by_iri s i o) graph m ≡ led s o m (along (same_term (term.Iri i)) graph (end_of s) (end_of o))
iri_scan s o i m [] = refl
iri_scan s o i m (t ∷ graph) = at (same_term (term.Iri i) t.predicate) (is_between (end_of s) (end_of o) (pair_of t)) refl refl (iri_scan s o i m graph)
  where
    rest : List Solution
    rest = led s o m (along (same_term (term.Iri i)) graph (end_of s) (end_of o))

    made : (b : Bool) → same_term (term.Iri i) t.predicate ≡ b → bound_triple (by_iri s i o) t m ≡ then_bound (bound_slot s t.subject m) (λ a. then_bound (if b then Some a else None) (λ x. bound_slot o t.object x))
    made b e = ap (λ c. then_bound (bound_slot s t.subject m) (λ a. then_bound (if c then Some a else None) (λ x. bound_slot o t.object x))) e

    at : (b c : Bool) → same_term (term.Iri i) t.predicate ≡ b → is_between (end_of s) (end_of o) (pair_of t) ≡ c → extensions (by_iri s i o) graph m ≡ rest
        → extensions (by_iri s i o) (t ∷ graph) m ≡ led s o m (along (same_term (term.Iri i)) (t ∷ graph) (end_of s) (end_of o))
    at true true e f h =
        ap (λ x. option_to_list x ++ extensions (by_iri s i o) graph m) (made true e ∙ (slots_pair s o t m ∙ ap (λ c. if c then end_pair s o m (pair_of t) else None) f))
        ∙ (ap (λ l. option_to_list (end_pair s o m (pair_of t)) ++ l) h ∙ simp (e, f))
    at true false e f h =
        ap (λ x. option_to_list x ++ extensions (by_iri s i o) graph m) (made true e ∙ (slots_pair s o t m ∙ ap (λ c. if c then end_pair s o m (pair_of t) else None) f))
        ∙ (h ∙ simp (e, f))
    at false c e f h =
        ap (λ x. option_to_list x ++ extensions (by_iri s i o) graph m) (made false e ∙ then_none (bound_slot s t.subject m))
        ∙ (h ∙ simp e)

pub iri_led : (s o : Slot) (i : List ℕ) (graph : Graph) (m : Solution) → Inside s m → extensions (by_iri s i o) graph m ≡ path_extensions (between s (path.Iri i) o) graph m
iri_led s o i graph m k =
    iri_scan s o i m graph
    ∙ (ap (λ (f : AtEnds). led s o m (f (end_of s) (end_of o))) (sym (pairs_iri graph i)) ∙ sym (path_led s o (path.Iri i) graph m k))

-- ---- the first cells of rows

-- to take the first cells after an end is bound, or before
end_take : (n : ℕ) (s : Slot) (t : Term) (m : Solution) → Lower n s → option_map (take n) (bound_end s t m) ≡ bound_end s t (take n m)
end_take n (slot.Term c) t m lt = refl
end_take n (slot.Variable v) t m lt =
    at (term_at m v) refl ∙ ap (λ c. bound_at c v t (take n m)) (sym (get_or-take n m v None lt))
  where
    at : (c : Option Term) → term_at m v ≡ c → option_map (take n) (bound_at c v t m) ≡ bound_at c v t (take n m)
    at None e = ap Some (take-set-lt n m v (Some t) lt)
    at (Some x) e = by (same_term x t)
      where
        by : (b : Bool) → option_map (take n) (if b then Some m else None) ≡ (if b then Some (take n m) else None)
        by true = refl
        by false = refl

map_then : (f : Solution → Solution) (o : Option Solution) (g h : Solution → Option Solution) → ((a : Solution) → option_map f (g a) ≡ h (f a)) → option_map f (then_bound o g) ≡ then_bound (option_map f o) h
map_then f None g h e = refl
map_then f (Some a) g h e = e a

pair_take : (n : ℕ) (s o : Slot) (m : Solution) (e : Pair) → Lower n s → Lower n o → option_map (take n) (end_pair s o m e) ≡ end_pair s o (take n m) e
pair_take n s o m e a b =
    map_then (take n) (bound_end s e.left m) (λ x. bound_end o e.right x) (λ x. bound_end o e.right x) (λ x. end_take n o e.right x b)
    ∙ ap (λ x. then_bound x (λ y. bound_end o e.right y)) (end_take n s e.left m a)

option_rows : (f : Solution → Solution) (o : Option Solution) → map f (option_to_list o) ≡ option_to_list (option_map f o)
option_rows f None = refl
option_rows f (Some a) = refl

pub led_take : (n : ℕ) (s o : Slot) (m : Solution) (es : List Pair) → Lower n s → Lower n o → map (take n) (led s o m es) ≡ led s o (take n m) es
led_take n s o m [] a b = refl
led_take n s o m (e ∷ es) a b =
    map-append (take n) (option_to_list (end_pair s o m e)) (led s o m es)
    ∙ (ap (λ l. l ++ map (take n) (led s o m es)) (option_rows (take n) (end_pair s o m e) ∙ ap option_to_list (pair_take n s o m e a b))
    ∙ ap (λ l. option_to_list (end_pair s o (take n m) e) ++ l) (led_take n s o m es a b))

-- ---- a sequence

-- rows that agree in the cells before a hidden variable
after_take : (h : ℕ) (o : Slot) (t : Term) (a b : Solution) → Lower h o → take h a ≡ take h b → map (take h) (option_to_list (bound_end o t a)) ≡ map (take h) (option_to_list (bound_end o t b))
after_take h o t a b lt e =
    option_rows (take h) (bound_end o t a)
    ∙ (ap option_to_list (end_take h o t a lt ∙ (ap (bound_end o t) e ∙ sym (end_take h o t b lt))) ∙ sym (option_rows (take h) (bound_end o t b)))

-- from a row whose hidden variable holds the end of a pair
from_middle : (h : ℕ) (o : Slot) (e : Pair) (s : Slot) (m a : Solution) (qs : List Pair) → Lower h o → h < length a → bound_end s e.left m ≡ Some a
    → map (take h) (led (slot.Variable h) o (slice_set a h (Some e.right)) qs) ≡ map (take h) (led s o m (from_pair qs e))
from_middle h o e s m a [] lt w k = refl
from_middle h o e s m a (f ∷ qs) lt w k = at (same_term e.right f.left) refl (from_middle h o e s m a qs lt w k)
  where
    row : Solution
    row = slice_set a h (Some e.right)

    held : term_at row h ≡ Some e.right
    held = get_or-set_same a h (Some e.right) None w

    at : (b : Bool) → same_term e.right f.left ≡ b → map (take h) (led (slot.Variable h) o row qs) ≡ map (take h) (led s o m (from_pair qs e))
        → map (take h) (led (slot.Variable h) o row (f ∷ qs)) ≡ map (take h) (led s o m (from_pair (f ∷ qs) e))
    at true g i =
        let first : end_pair (slot.Variable h) o row f ≡ bound_end o f.right row = rw (held, g) refl in
        let second : end_pair s o m (pair e.left f.right) ≡ bound_end o f.right a = rw k refl in
        map-append (take h) (option_to_list (end_pair (slot.Variable h) o row f)) (led (slot.Variable h) o row qs)
        ∙ (ap (λ x. map (take h) (option_to_list x) ++ map (take h) (led (slot.Variable h) o row qs)) first
        ∙ (ap (λ l. l ++ map (take h) (led (slot.Variable h) o row qs)) (after_take h o f.right row a lt (take-set a h (Some e.right)))
        ∙ (ap (λ l. map (take h) (option_to_list (bound_end o f.right a)) ++ l) i
        ∙ (ap (λ x. map (take h) (option_to_list x) ++ map (take h) (led s o m (from_pair qs e))) (sym second)
        ∙ (sym (map-append (take h) (option_to_list (end_pair s o m (pair e.left f.right))) (led s o m (from_pair qs e))) ∙ simp g)))))
    at false g i =
        let first : end_pair (slot.Variable h) o row f ≡ None = rw (held, g) refl in
        ap (λ x. map (take h) (option_to_list x ++ led (slot.Variable h) o row qs)) first ∙ (i ∙ simp g)

no_pair : (s o : Slot) (x : Term) (m : Solution) (gs : List Pair) → bound_end s x m ≡ None → led s o m (map (λ f. pair x f.right) gs) ≡ []
no_pair s o x m [] e = refl
no_pair s o x m (g ∷ gs) e = ap (λ q. option_to_list (then_bound q (λ a. bound_end o g.right a)) ++ led s o m (map (λ f. pair x f.right) gs)) e ∙ no_pair s o x m gs e

-- of an end that is bound before
end_free : (h : ℕ) (s : Slot) (t : Term) (m a : Solution) → Lower h s → bound_end s t m ≡ Some a → term_at m h ≡ None → (term_at a h ≡ None) × (length a ≡ length m)
end_free h (slot.Term c) t m a lt e f = let k : m ≡ a = cc in (ap (λ l. term_at l h) (sym k) ∙ f, ap length (sym k))
end_free h (slot.Variable v) t m a lt e f = at (term_at m v) refl e
  where
    at : (c : Option Term) → term_at m v ≡ c → bound_at c v t m ≡ Some a → (term_at a h ≡ None) × (length a ≡ length m)
    at None g k =
        let q : slice_set m v (Some t) ≡ a = cc in
        (ap (λ l. term_at l h) (sym q) ∙ (get_or-set_other m v h (Some t) None (λ u. absurd (omega (arith, u, lt))) ∙ f), ap length (sym q) ∙ length-set m v (Some t))
    at (Some x) g k = by (same_term x t) refl k
      where
        by : (b : Bool) → same_term x t ≡ b → (if b then Some m else None) ≡ Some a → (term_at a h ≡ None) × (length a ≡ length m)
        by true q l = let u : m ≡ a = cc in (ap (λ l. term_at l h) (sym u) ∙ f, ap length (sym u))
        by false q l = let n : None ≡ Some a = l in cc

one_pair : (h : ℕ) (s o : Slot) (m : Solution) (e : Pair) (qs : List Pair) → Lower h s → Lower h o → h < length m → term_at m h ≡ None
    → map (take h) (flat_map (λ r. led (slot.Variable h) o r qs) (option_to_list (end_pair s (slot.Variable h) m e))) ≡ map (take h) (led s o m (from_pair qs e))
one_pair h s o m e qs ls lo w free = at (bound_end s e.left m) refl
  where
    at : (x : Option Solution) → bound_end s e.left m ≡ x
        → map (take h) (flat_map (λ r. led (slot.Variable h) o r qs) (option_to_list (then_bound x (λ a. bound_end (slot.Variable h) e.right a)))) ≡ map (take h) (led s o m (from_pair qs e))
    at None k = ap (map (take h)) (sym (no_pair s o e.left m (filter (λ f. same_term e.right f.left) qs) k))
    at (Some a) k =
        let n = end_free h s e.left m a ls k free in
        let c : term_at a h ≡ None = n.0 in
        let wide : length a ≡ length m = n.1 in
        rw c
        (ap (map (take h)) (append-nil (led (slot.Variable h) o (slice_set a h (Some e.right)) qs)) ∙ from_middle h o e s m a qs lo (omega (arith, w, wide)) k)

led_append : (s o : Slot) (m : Solution) (es fs : List Pair) → led s o m (es ++ fs) ≡ led s o m es ++ led s o m fs
led_append s o m es fs = flat_map-append (λ e. option_to_list (end_pair s o m e)) es fs

pub sequence_led : (h : ℕ) (s o : Slot) (m : Solution) (ps qs : List Pair) → Lower h s → Lower h o → h < length m → term_at m h ≡ None
    → map (take h) (flat_map (λ r. led (slot.Variable h) o r qs) (led s (slot.Variable h) m ps)) ≡ map (take h) (led s o m (composed ps qs))
sequence_led h s o m [] qs ls lo w free = refl
sequence_led h s o m (e ∷ ps) qs ls lo w free =
    let f : Solution → List Solution = λ r. led (slot.Variable h) o r qs in
    let one = option_to_list (end_pair s (slot.Variable h) m e) in
    let rest = led s (slot.Variable h) m ps in
    ap (map (take h)) (flat_map-append f one rest)
    ∙ (map-append (take h) (flat_map f one) (flat_map f rest)
    ∙ (ap (λ l. l ++ map (take h) (flat_map f rest)) (one_pair h s o m e qs ls lo w free)
    ∙ (ap (λ l. map (take h) (led s o m (from_pair qs e)) ++ l) (sequence_led h s o m ps qs ls lo w free)
    ∙ (sym (map-append (take h) (led s o m (from_pair qs e)) (led s o m (composed ps qs))) ∙ ap (map (take h)) (sym (led_append s o m (from_pair qs e) (composed ps qs)))))))

-- ---- alternatives

pub either_led : (s o : Slot) (m : Solution) (graph : Graph) (p : Path) (parts : List Path)
    → led s o m (pairs graph (path.Alternative (p ∷ parts)) (end_of s) (end_of o)) ≡ led s o m (pairs graph p (end_of s) (end_of o)) ++ led s o m (pairs graph (path.Alternative parts) (end_of s) (end_of o))
either_led s o m graph p parts =
    ap (λ (f : AtEnds). led s o m (f (end_of s) (end_of o))) (pairs_alternative graph (p ∷ parts))
    ∙ (led_append s o m (pairs graph p (end_of s) (end_of o)) (flat_map (λ (f : AtEnds). f (end_of s) (end_of o)) (map (pairs graph) parts))
    ∙ ap (λ (f : AtEnds). led s o m (pairs graph p (end_of s) (end_of o)) ++ led s o m (f (end_of s) (end_of o))) (sym (pairs_alternative graph parts)))

pub neither_led : (s o : Slot) (m : Solution) (graph : Graph) → led s o m (pairs graph (path.Alternative []) (end_of s) (end_of o)) ≡ []
neither_led s o m graph = ap (λ (f : AtEnds). led s o m (f (end_of s) (end_of o))) (pairs_alternative graph [])

-- ---- sequences of one part, and of more

pub single_pairs : (graph : Graph) (p : Path) (left right : Option Term) → pairs graph (path.Sequence (p ∷ [])) left right ≡ pairs graph p left right
single_pairs graph p left right = ap (λ (f : AtEnds). f left right) (pairs_sequence graph (p ∷ []))

pub no_pairs : (graph : Graph) (left right : Option Term) → pairs graph (path.Sequence []) left right ≡ []
no_pairs graph left right = ap (λ (f : AtEnds). f left right) (pairs_sequence graph [])

pub more_pairs : (graph : Graph) (p q : Path) (parts : List Path) (left right : Option Term)
    → pairs graph (path.Sequence (p ∷ q ∷ parts)) left right ≡ composed (pairs graph p left None) (pairs graph (path.Sequence (q ∷ parts)) None right)
more_pairs graph p q parts left right =
    ap (λ (f : AtEnds). f left right) (pairs_sequence graph (p ∷ q ∷ parts))
    ∙ ap (λ (f : AtEnds). composed (pairs graph p left None) (f None right)) (sym (pairs_sequence graph (q ∷ parts)))
