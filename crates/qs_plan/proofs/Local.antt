-- The cells of a row that a basic graph pattern sees, as a solution of its own variables.
use Rattle.std.proofs.Common.{◌≡◌, ◌≢◌, ◌⊎◌, inl, inr, ℕ, zero, suc, ◌+◌, ◌-◌, ◌≤◌, ◌<◌, ◌==◌, Bool, true, false, not, ◌||◌, nat_lt, cond, if◌then◌else◌, List, [], ◌∷◌, ◌++◌, map, take, length, Option, Some, None, option_to_list, refl, sym, ◌∙◌, ap, subst, arith}
use Rattle.std.specs.List.{filter, flat_map}
use Rattle.std.specs.Option.{option_map}
use Rattle.std.proofs.Math.ListN.{set}
use Rattle.std.proofs.lemmas.Bool.{cases_lt, lt-ltb, le-ltb}
use Rattle.std.proofs.lemmas.Bool.Decides.{eqb_tells}
use Rattle.std.proofs.lemmas.List.{length-set, get_or-set_same, get_or-set_other, get_or_past, length-take-le, get_or-take}
use Rattle.qs_terms.specs.declared.term.Term.{Term}
use Rattle.qs_terms.specs.Term.{same_term}
use Rattle.qs_terms.specs.Dataset.{Triple}
use Rattle.qs_paths_meaning.specs.Pair.{Pair}
use Rattle.qs_paths_meaning.specs.Pairs.{pairs}
use Rattle.qs_algebra_patterns.specs.declared.pattern.Slot.{Slot}
use Rattle.qs_algebra_patterns.specs.declared.pattern.Slot.TheVariants as slot
use Rattle.qs_algebra_patterns.specs.declared.pattern.TriplePattern.{TriplePattern}
use Rattle.qs_algebra_patterns.specs.declared.pattern.PathPattern.{PathPattern}
use Rattle.qs_algebra_patterns.specs.Basic.{Graph, is_repeated, end_of, fits}
use Rattle.qs_algebra_solutions.specs.Solution.{Solution, term_at}
use Rattle.qs_algebra_solutions.proofs.Same.{same_everywhere}
use Rattle.qs_plan_meaning.specs.inner.Scans.{bound_at, bound_slot, then_bound, bound_triple, extensions, bound_end, bound_ends, path_pairs, path_extensions}
use Rattle.qs_plan.proofs.Commutes.{slot_width, end_width}
use Rattle.qs_plan.specs.inner.Numbers.{past, number, slot_of, triple_of, other_end, path_of}

pair_filter : (p q : Pair → Bool) → ((e : Pair) → p e ≡ q e) → (es : List Pair) → filter p es ≡ filter q es
pair_filter p q h [] = refl
pair_filter p q h (e ∷ es) = rw (h e) (ap (λ fs. cond (q e) (e ∷ fs) fs) (pair_filter p q h es))

-- ---- the cells of numbers from v on

abbrev pub cells_from : (ℕ → Option Term) → ℕ → ℕ → Solution
cells_from f v zero = []
cells_from f v (suc n) = f v ∷ cells_from f (v + 1) n

length_cells : (f : ℕ → Option Term) (v n : ℕ) → length (cells_from f v n) ≡ n
length_cells f v zero = refl
length_cells f v (suc n) = ap suc (length_cells f (v + 1) n)

cells_at : (f : ℕ → Option Term) (v n k : ℕ) → k < n → term_at (cells_from f v n) k ≡ f (v + k)
cells_at f v zero k lt = absurd (omega arith)
cells_at f v (suc n) zero lt = ap f (let e : v ≡ v + 0 = omega arith in e)
cells_at f v (suc n) (suc k) lt = cells_at f (v + 1) n k (omega arith) ∙ ap f (let e : v + 1 + k ≡ v + suc k = omega arith in e)

module _ (width hidden from : ℕ) where
  -- ---- numbers

  number_named : (none v : ℕ) → v < width → number width hidden from none v ≡ v
  number_named none v lt = let e : nat_lt v width ≡ true = lt-ltb v width lt in rw e refl

  number_hidden : (none v : ℕ) → width ≤ v → v < width + hidden → number width hidden from none v ≡ from + (v - width)
  number_hidden none v le lt =
      let e : nat_lt v width ≡ false = le-ltb v width le in
      let f : nat_lt v (width + hidden) ≡ true = lt-ltb v (width + hidden) lt in
      rw (e, f) refl

  number_past : (none v : ℕ) → width + hidden ≤ v → number width hidden from none v ≡ none
  number_past none v le =
      let e : nat_lt v width ≡ false = le-ltb v width (omega arith) in
      let f : nat_lt v (width + hidden) ≡ false = le-ltb v (width + hidden) le in
      rw (e, f) refl

  -- where a variable stands
  pub data Where (none v : ℕ) : Type 0 where
    Named : v < width → number width hidden from none v ≡ v → Where none v
    Hidden : width ≤ v → v < width + hidden → number width hidden from none v ≡ from + (v - width) → Where none v
    Past : width + hidden ≤ v → number width hidden from none v ≡ none → Where none v

  pub stands : (none v : ℕ) → Where none v
  stands none v = at (cases_lt v width) (cases_lt v (width + hidden))
    where
      at : (v < width) ⊎ (width ≤ v) → (v < width + hidden) ⊎ (width + hidden ≤ v) → Where none v
      at (inl lt) h = Named lt (number_named none v lt)
      at (inr le) (inl lt) = Hidden le lt (number_hidden none v le lt)
      at (inr le) (inr more) = Past more (number_past none v more)

  -- within a row no two have one number
  apart : (none other v w : ℕ) → width ≤ from → from + hidden < none → v ≢ w → w < width + hidden → Where none v → Where other w → number width hidden from none v ≢ number width hidden from other w
  apart none other v w n far ne lt (Named a e) (Named b f) k = ne (sym e ∙ (k ∙ f))
  apart none other v w n far ne lt (Named a e) (Hidden b c f) k = absurd (omega (arith, e, f, k))
  apart none other v w n far ne lt (Named a e) (Past b f) k = absurd (omega arith)
  apart none other v w n far ne lt (Hidden a c e) (Named b f) k = absurd (omega (arith, e, f, k))
  apart none other v w n far ne lt (Hidden a c e) (Hidden b d f) k = ne (omega (arith, e, f, k))
  apart none other v w n far ne lt (Hidden a c e) (Past b f) k = absurd (omega arith)
  apart none other v w n far ne lt (Past a e) (Named b f) k = absurd (omega (arith, e, f, k))
  apart none other v w n far ne lt (Past a e) (Hidden b d f) k = absurd (omega (arith, e, f, k))
  apart none other v w n far ne lt (Past a e) (Past b f) k = absurd (omega arith)

  -- ---- the solution

  abbrev pub local : Solution → Solution
  local m = cells_from (λ v. term_at m (number width hidden from past v)) 0 (width + hidden)

  pub length_local : (m : Solution) → length (local m) ≡ width + hidden
  length_local m = length_cells (λ v. term_at m (number width hidden from past v)) 0 (width + hidden)

  -- a row that the pattern fits in
  pub record Fits (m : Solution) : Type 0 where
    pub named : width ≤ from
    pub wide : from + hidden ≤ length m
    pub short : length m < past

  within_at : (m : Solution) (v : ℕ) → v < width + hidden → term_at (local m) v ≡ term_at m (number width hidden from past v)
  within_at m v lt = cells_at (λ v. term_at m (number width hidden from past v)) 0 (width + hidden) v lt ∙ ap (λ x. term_at m (number width hidden from past x)) (let e : 0 + v ≡ v = omega arith in e)

  -- another number past all rows makes no difference
  other_none : (none v : ℕ) → v < width + hidden → number width hidden from past v ≡ number width hidden from none v
  other_none none v lt = at (stands past v) (stands none v)
    where
      at : Where past v → Where none v → number width hidden from past v ≡ number width hidden from none v
      at (Named a e) (Named b f) = e ∙ sym f
      at (Named a e) (Hidden b c f) = absurd (omega arith)
      at (Named a e) (Past b f) = absurd (omega arith)
      at (Hidden a c e) (Named b f) = absurd (omega arith)
      at (Hidden a c e) (Hidden b d f) = e ∙ sym f
      at (Hidden a c e) (Past b f) = absurd (omega arith)
      at (Past a e) w = absurd (omega arith)

  local_at : (m : Solution) (none v : ℕ) → Fits m → past ≤ none → term_at m (number width hidden from none v) ≡ term_at (local m) v
  local_at m none v f le = at (cases_lt v (width + hidden))
    where
      at : (v < width + hidden) ⊎ (width + hidden ≤ v) → term_at m (number width hidden from none v) ≡ term_at (local m) v
      at (inl lt) = ap (term_at m) (sym (other_none none v lt)) ∙ sym (within_at m v lt)
      at (inr more) =
          ap (term_at m) (number_past none v more)
          ∙ (get_or_past m none None (omega (arith, f.short)) ∙ sym (get_or_past (local m) v None (omega (arith, length_local m))))

  within : (m : Solution) (none v : ℕ) → Fits m → v < width + hidden → number width hidden from none v < length m
  within m none v f lt = at (stands none v)
    where
      at : Where none v → number width hidden from none v < length m
      at (Named a e) = omega (arith, e, f.named, f.wide)
      at (Hidden a c e) = omega (arith, e, f.wide)
      at (Past a e) = absurd (omega arith)

  local_set : (m : Solution) (none v : ℕ) (t : Option Term) → Fits m → past ≤ none → local (set m (number width hidden from none v) t) ≡ set (local m) v t
  local_set m none v t f le =
      same_everywhere (local (set m (number width hidden from none v) t)) (set (local m) v t)
      (length_local (set m (number width hidden from none v) t) ∙ sym (length-set (local m) v t ∙ length_local m))
      (λ w. at w (cases_lt w (width + hidden)) (eqb_tells w v))
    where
      -- at the variable itself, and at another one
      here : v < width + hidden → term_at (local (set m (number width hidden from none v) t)) v ≡ term_at (set (local m) v t) v
      here lt =
          within_at (set m (number width hidden from none v) t) v lt
          ∙ (ap (term_at (set m (number width hidden from none v) t)) (other_none none v lt)
          ∙ (get_or-set_same m (number width hidden from none v) t None (within m none v f lt)
          ∙ sym (get_or-set_same (local m) v t None (omega (arith, length_local m)))))

      there : (w : ℕ) → w < width + hidden → w ≢ v → term_at (local (set m (number width hidden from none v) t)) w ≡ term_at (set (local m) v t) w
      there w lt ne =
          within_at (set m (number width hidden from none v) t) w lt
          ∙ (get_or-set_other m (number width hidden from none v) (number width hidden from past w) t None (λ e. apart none past v w f.named (omega (arith, f.wide, f.short)) (λ k. ne (sym k)) lt (stands none v) (stands past w) (sym e))
          ∙ (sym (within_at m w lt) ∙ sym (get_or-set_other (local m) v w t None ne)))

      at : (w : ℕ) → (w < width + hidden) ⊎ (width + hidden ≤ w) → (((w == v) ≡ true) × (w ≡ v)) ⊎ (((w == v) ≡ false) × (w ≢ v)) → term_at (local (set m (number width hidden from none v) t)) w ≡ term_at (set (local m) v t) w
      at w (inl lt) (inl e) = subst (λ (x : ℕ). term_at (local (set m (number width hidden from none v) t)) x ≡ term_at (set (local m) v t) x) (sym e.1) (here (omega (arith, e.1)))
      at w (inl lt) (inr ne) = there w lt ne.1
      at w (inr more) h =
          get_or_past (local (set m (number width hidden from none v) t)) w None (omega (arith, length_local (set m (number width hidden from none v) t)))
          ∙ sym (get_or_past (set (local m) v t) w None (omega (arith, length-set (local m) v t, length_local m)))

  -- the named variables
  pub take_local : (m : Solution) → Fits m → take width (local m) ≡ take width m
  take_local m f =
      same_everywhere (take width (local m)) (take width m)
      (length-take-le width (local m) (omega (arith, length_local m)) ∙ sym (length-take-le width m (omega (arith, f.named, f.wide))))
      (λ v. at v (cases_lt v width))
    where
      at : (v : ℕ) → (v < width) ⊎ (width ≤ v) → term_at (take width (local m)) v ≡ term_at (take width m) v
      at v (inl lt) =
          get_or-take width (local m) v None lt
          ∙ (within_at m v (omega arith) ∙ (ap (term_at m) (number_named past v lt) ∙ sym (get_or-take width m v None lt)))
      at v (inr le) =
          get_or_past (take width (local m)) v None (omega (arith, length-take-le width (local m) (omega (arith, length_local m))))
          ∙ sym (get_or_past (take width m) v None (omega (arith, length-take-le width m (omega (arith, f.named, f.wide)))))

  -- the others are bound where their cells are
  pub local_free : (m : Solution) → Fits m → ((v : ℕ) → from ≤ v → term_at m v ≡ None) → (v : ℕ) → width ≤ v → term_at (local m) v ≡ None
  local_free m f free v le = at (stands past v) (cases_lt v (width + hidden))
    where
      at : Where past v → (v < width + hidden) ⊎ (width + hidden ≤ v) → term_at (local m) v ≡ None
      at (Named a e) h = absurd (omega arith)
      at (Hidden a c e) h = within_at m v c ∙ (ap (term_at m) e ∙ free (from + (v - width)) (omega arith))
      at (Past a e) h = get_or_past (local m) v None (omega (arith, length_local m))

  -- ---- slots

  bound_local : (m : Solution) (none v : ℕ) (t : Term) (c : Option Term) → Fits m → past ≤ none → option_map local (bound_at c (number width hidden from none v) t m) ≡ bound_at c v t (local m)
  bound_local m none v t None f le = ap Some (local_set m none v (Some t) f le)
  bound_local m none v t (Some x) f le = at (same_term x t)
    where
      at : (b : Bool) → option_map local (if b then Some m else None) ≡ (if b then Some (local m) else None)
      at true = refl
      at false = refl

  variable_local : (m : Solution) (none v : ℕ) (t : Term) → Fits m → past ≤ none
      → option_map local (bound_at (term_at m (number width hidden from none v)) (number width hidden from none v) t m) ≡ bound_at (term_at (local m) v) v t (local m)
  variable_local m none v t f le =
      bound_local m none v t (term_at m (number width hidden from none v)) f le ∙ ap (λ c. bound_at c v t (local m)) (local_at m none v f le)

  slot_local : (m : Solution) (s : Slot) (t : Term) → Fits m → option_map local (bound_slot (slot_of width hidden from past s) t m) ≡ bound_slot s t (local m)
  slot_local m (slot.Term c) t f = at (same_term c t)
    where
      at : (b : Bool) → option_map local (if b then Some m else None) ≡ (if b then Some (local m) else None)
      at true = refl
      at false = refl
  slot_local m (slot.Variable v) t f = variable_local m past v t f (omega arith)

  end_local : (m : Solution) (none : ℕ) (s : Slot) (t : Term) → Fits m → past ≤ none → option_map local (bound_end (slot_of width hidden from none s) t m) ≡ bound_end s t (local m)
  end_local m none (slot.Term c) t f le = refl
  end_local m none (slot.Variable v) t f le = variable_local m none v t f le

  then_local : (o : Option Solution) (f g : Solution → Option Solution) → ((a : Solution) → o ≡ Some a → option_map local (f a) ≡ g (local a)) → option_map local (then_bound o f) ≡ then_bound (option_map local o) g
  then_local None f g h = refl
  then_local (Some a) f g h = h a refl

  fits_still : (m r : Solution) → Fits m → length r ≡ length m → Fits r
  fits_still m r f e = record { named = f.named; wide = omega (arith, f.wide, e); short = omega (arith, f.short, e) }

  -- ---- triples and paths

  slot_fits : (m a : Solution) (s : Slot) (t : Term) → Fits m → bound_slot s t m ≡ Some a → Fits a
  slot_fits m a s t f e = fits_still m a f (slot_width s t m a e)

  end_fits : (m a : Solution) (s : Slot) (t : Term) → Fits m → bound_end s t m ≡ Some a → Fits a
  end_fits m a s t f e = fits_still m a f (end_width s t m a e)

  triple_local : (m : Solution) (p : TriplePattern) (t : Triple) → Fits m → option_map local (bound_triple (triple_of width hidden from p) t m) ≡ bound_triple p t (local m)
  triple_local m p t f =
      then_local (bound_slot (slot_of width hidden from past p.subject) t.subject m) _ (λ a. then_bound (bound_slot p.predicate t.predicate a) (λ b. bound_slot p.object t.object b))
      (λ a e. (let g : Fits a = slot_fits m a (slot_of width hidden from past p.subject) t.subject f e in
      then_local (bound_slot (slot_of width hidden from past p.predicate) t.predicate a) _ (λ b. bound_slot p.object t.object b)
      (λ b k. slot_local b p.object t.object (slot_fits a b (slot_of width hidden from past p.predicate) t.predicate g k))
      ∙ ap (λ o. then_bound o (λ b. bound_slot p.object t.object b)) (slot_local a p.predicate t.predicate g)))
      ∙ ap (λ o. then_bound o (λ a. then_bound (bound_slot p.predicate t.predicate a) (λ b. bound_slot p.object t.object b))) (slot_local m p.subject t.subject f)

  pub far : (s o : Slot) → past ≤ other_end s o
  far s o = at (is_repeated s o)
    where
      at : (b : Bool) → past ≤ (if b then past else past + 1)
      at true = omega arith
      at false = omega arith

  ends_local : (m : Solution) (p : PathPattern) (e : Pair) → Fits m → option_map local (bound_ends (path_of width hidden from p) e m) ≡ bound_ends p e (local m)
  ends_local m p e f =
      then_local (bound_end (slot_of width hidden from past p.subject) e.left m) _ (λ a. bound_end p.object e.right a)
      (λ a k. end_local a (other_end p.subject p.object) p.object e.right (end_fits m a (slot_of width hidden from past p.subject) e.left f k) (far p.subject p.object))
      ∙ ap (λ o. then_bound o (λ a. bound_end p.object e.right a)) (end_local m past p.subject e.left f (omega arith))

  -- the pairs are those of the pattern
  same_end : (none : ℕ) (s : Slot) → end_of (slot_of width hidden from none s) ≡ end_of s
  same_end none (slot.Term t) = refl
  same_end none (slot.Variable v) = refl

  same_repeat : from + hidden < past → width ≤ from → (s o : Slot) → is_repeated (slot_of width hidden from past s) (slot_of width hidden from (other_end s o) o) ≡ is_repeated s o
  same_repeat fit n (slot.Term t) o = refl
  same_repeat fit n (slot.Variable v) (slot.Term t) = refl
  same_repeat fit n (slot.Variable v) (slot.Variable w) = at (eqb_tells w v)
    where
      numbers : ℕ → Bool
      numbers none = number width hidden from none w == number width hidden from past v

      unlike : (a b : ℕ) → a ≢ b → (a == b) ≡ false
      unlike a b ne = elim (eqb_tells a b) as (λ x. (a == b) ≡ false) [ inl p ↦ absurd (ne p.1) | inr p ↦ p.0 ]

      alike : (a b : ℕ) → a ≡ b → (a == b) ≡ true
      alike a b e = elim (eqb_tells a b) as (λ x. (a == b) ≡ true) [ inl p ↦ p.0 | inr p ↦ absurd (p.1 e) ]

      differ : w ≢ v → Where (past + 1) w → Where past v → number width hidden from (past + 1) w ≢ number width hidden from past v
      differ ne (Named a e) (Named b f) k = ne (sym e ∙ (k ∙ f))
      differ ne (Named a e) (Hidden b c f) k = absurd (omega (arith, e, f, k))
      differ ne (Named a e) (Past b f) k = absurd (omega (arith, e, f, k))
      differ ne (Hidden a c e) (Named b f) k = absurd (omega (arith, e, f, k))
      differ ne (Hidden a c e) (Hidden b d f) k = ne (omega (arith, e, f, k))
      differ ne (Hidden a c e) (Past b f) k = absurd (omega (arith, e, f, k))
      differ ne (Past a e) (Named b f) k = absurd (omega (arith, e, f, k))
      differ ne (Past a e) (Hidden b d f) k = absurd (omega (arith, e, f, k))
      differ ne (Past a e) (Past b f) k = absurd (omega (arith, e, f, k))

      at : (((w == v) ≡ true) × (w ≡ v)) ⊎ (((w == v) ≡ false) × (w ≢ v)) → numbers (if w == v then past else past + 1) ≡ (w == v)
      at (inl e) = rw (e.0) (alike _ _ (ap (number width hidden from past) e.1))
      at (inr e) = rw (e.0) (unlike _ _ (differ e.1 (stands (past + 1) w) (stands past v)))

  same_pairs : from + hidden < past → width ≤ from → (p : PathPattern) (graph : Graph) → path_pairs (path_of width hidden from p) graph ≡ path_pairs p graph
  same_pairs fit n p graph =
      let q : PathPattern = path_of width hidden from p in
      pair_filter (fits q) (fits p) (λ e. ap (λ b. not b || same_term e.left e.right) (same_repeat fit n p.subject p.object)) (pairs graph p.path (end_of q.subject) (end_of q.object))
      ∙ (ap (λ s. filter (fits p) (pairs graph p.path s (end_of q.object))) (same_end past p.subject)
      ∙ ap (λ o. filter (fits p) (pairs graph p.path (end_of p.subject) o)) (same_end (other_end p.subject p.object) p.object))

  option_local : (o : Option Solution) (rest : List Solution) → map local (option_to_list o ++ rest) ≡ option_to_list (option_map local o) ++ map local rest
  option_local None rest = refl
  option_local (Some r) rest = refl

  scan_local : {T : Type 0} (b c : T → Option Solution) → ((t : T) → option_map local (b t) ≡ c t) → (ts : List T) → map local (flat_map (λ t. option_to_list (b t)) ts) ≡ flat_map (λ t. option_to_list (c t)) ts
  scan_local b c h [] = refl
  scan_local b c h (t ∷ ts) =
      option_local (b t) (flat_map (λ t. option_to_list (b t)) ts)
      ∙ (ap (λ o. option_to_list o ++ map local (flat_map (λ t. option_to_list (b t)) ts)) (h t) ∙ ap (λ l. option_to_list (c t) ++ l) (scan_local b c h ts))

  pub extensions_local : (p : TriplePattern) (graph : Graph) (m : Solution) → Fits m → map local (extensions (triple_of width hidden from p) graph m) ≡ extensions p graph (local m)
  extensions_local p graph m f = scan_local (λ t. bound_triple (triple_of width hidden from p) t m) (λ t. bound_triple p t (local m)) (λ t. triple_local m p t f) graph

  pub path_local : (p : PathPattern) (graph : Graph) (m : Solution) → Fits m → map local (path_extensions (path_of width hidden from p) graph m) ≡ path_extensions p graph (local m)
  path_local p graph m f =
      scan_local (λ e. bound_ends (path_of width hidden from p) e m) (λ e. bound_ends p e (local m)) (λ e. ends_local m p e f) (path_pairs (path_of width hidden from p) graph)
      ∙ ap (flat_map (λ e. option_to_list (bound_ends p e (local m)))) (same_pairs (omega (arith, f.wide, f.short)) f.named p graph)
