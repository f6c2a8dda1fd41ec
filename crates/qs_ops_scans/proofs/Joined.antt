-- The rows of a scan of all named graphs with a variable that holds the graph's name beside the register: what a pattern makes, in each named
-- graph, of the row that was merged with the name first.
use Rattle.std.proofs.Common.{◌≡◌, ◌≢◌, ℕ, ◌<◌, ◌≤◌, Bool, true, false, ◌&&◌, Option, Some, None, if◌then◌else◌, List, [], ◌∷◌, ◌++◌, length, map, slice_index, slice_set, option_to_list, refl, sym, ◌∙◌, ap, subst, arith}
use Rattle.std.specs.Option.{option_map}
use Rattle.std.specs.List.{AllByRecursion, cons_option, filter_map, flat_map}
use Rattle.std.proofs.lemmas.Bool.{and_parts}
use Rattle.std.proofs.lemmas.List.{append-nil, get_or-set_other, get_or-set_same, length-map, length-set, map-append}
use Rattle.std.proofs.lemmas.List.Sorted.{IsPermutation-map}
use Rattle.qs_terms.specs.Bag.{SameBag}
use Rattle.qs_terms.specs.Dataset.{Triple, names_of}
use Rattle.qs_terms.specs.Statement.{Statement}
use Rattle.qs_terms.specs.Term.{same_term}
use Rattle.qs_terms.specs.declared.term.Term.{Term}
use Rattle.qs_store.specs.inner.ActiveGraph.{IsSeen}
use Rattle.qs_store.specs.Content.{Content}
use Rattle.qs_algebra_solutions.specs.Solution.{Solution, term_at, unbound, compatible_terms}
use Rattle.qs_algebra_solutions.specs.inner.Solution.{first_bound}
use Rattle.qs_algebra_solutions.specs.Operators.{merges}
use Rattle.qs_algebra_patterns.specs.Basic.{Graph}
use Rattle.qs_algebra_patterns.specs.declared.pattern.Slot.{Slot}
use Rattle.qs_algebra_patterns.specs.declared.pattern.Slot.TheVariants as slot
use Rattle.qs_algebra_patterns.specs.declared.pattern.TriplePattern.{TriplePattern}
use Rattle.qs_expr.specs.declared.cell.Cell.{Cell}
use Rattle.qs_expr.specs.declared.cell.Cell.TheVariants.{Known}
use Rattle.qs_expr.specs.inner.Cell.{Cells, cell_at, denoted_if, row_solution, FitsRow}
use Rattle.qs_expr.proofs.RowTerms.{term_at_row}
use Rattle.qs_expr.proofs.Rows.{set_fits, set_terms}
use Rattle.qs_plan_meaning.specs.inner.Scans.{bound_at, bound_slot, bound_triple, extensions, then_bound}
use Rattle.qs_plan_meaning.specs.inner.Stages.{graph_named}
use Rattle.qs_ops_scans.specs.inner.Each.{each_extension, each_joined, misses, place_misses}
use Rattle.qs_ops_scans.specs.inner.Makes.{AreMade, Makes}
use Rattle.qs_ops_scans.specs.inner.Prepared.{place_of, prepared_triple}
use Rattle.qs_ops_scans.specs.declared.opened.Acts.{Acts}
use Rattle.qs_ops_scans.specs.declared.pattern.PreparedTriple.{PreparedTriple}
use Rattle.qs_ops_scans.specs.inner.Opened.{acts_of, bound}
use Rattle.qs_ops_scans.specs.inner.Quads.{AreScanned, quad_bound, quad_made, quad_passes, triple_in}
use Rattle.qs_ops_scans.proofs.Acts.{act_length}
use Rattle.qs_ops_scans.proofs.EachGraph.{if_map, quads_made}
use Rattle.qs_ops_scans.proofs.OneName.{merges_named}
use Rattle.qs_ops_scans.proofs.Register.{apart, triple_held}

-- ---- a pattern that misses a variable leaves it as it was

module _ (r : ℕ) where
  abbrev Keeps : Solution → Option Solution → Type 0
  Keeps m o = (a : Solution) → o ≡ Some a → term_at a r ≡ term_at m r

  if_keeps : (b : Bool) (m : Solution) → Keeps m (if b then Some m else None)
  if_keeps true m a e = let f : m ≡ a = cc in ap (λ (z : Solution). term_at z r) (sym f)
  if_keeps false m a e = absurd (let f : None ≡ Some a = e in cc)

  bound_keeps : (o : Option Term) (v : ℕ) (t : Term) (m : Solution) → v ≢ r → Keeps m (bound_at o v t m)
  bound_keeps None v t m ne a e = let f : slice_set m v (Some t) ≡ a = cc in ap (λ (z : Solution). term_at z r) (sym f) ∙ get_or-set_other m v r (Some t) None (λ k. ne (sym k))
  bound_keeps (Some x) v t m ne a e = if_keeps (same_term x t) m a e

  slot_keeps : (known : List Term) (s : Slot) (t : Term) (m : Solution) → place_misses r (place_of known s) ≡ true → Keeps m (bound_slot s t m)
  slot_keeps known (slot.Term c) t m h = if_keeps (same_term c t) m
  slot_keeps known (slot.Variable v) t m h = bound_keeps (term_at m v) v t m (apart v r h)

  then_keeps : (m : Solution) (o : Option Solution) (f : Solution → Option Solution) → Keeps m o → ((a : Solution) → Keeps a (f a)) → Keeps m (then_bound o f)
  then_keeps m None f h k a e = absurd (let g : None ≡ Some a = e in cc)
  then_keeps m (Some b) f h k a e = k b a e ∙ h b refl

  triple_keeps : (known : List Term) (p : TriplePattern) (t : Triple) (m : Solution) → misses r (prepared_triple known p) ≡ true → Keeps m (bound_triple p t m)
  triple_keeps known p t m h =
      let a = and_parts (place_misses r (place_of known p.subject)) (place_misses r (place_of known p.predicate) && place_misses r (place_of known p.object)) h in
      let b = and_parts (place_misses r (place_of known p.predicate)) (place_misses r (place_of known p.object)) a.1 in
      then_keeps m (bound_slot p.subject t.subject m) (λ c. then_bound (bound_slot p.predicate t.predicate c) (λ d. bound_slot p.object t.object d))
      (slot_keeps known p.subject t.subject m a.0)
      (λ c. then_keeps c (bound_slot p.predicate t.predicate c) (λ d. bound_slot p.object t.object d) (slot_keeps known p.predicate t.predicate c b.0) (λ d. slot_keeps known p.object t.object d b.1))

-- ---- with the variable holding what the register holds

module _ (r v : ℕ) where
  abbrev copied : Solution → Solution
  copied a = slice_set a v (term_at a r)

  abbrev copied_cells : Cells → Cells
  copied_cells a = slice_set a v (cell_at a r)

  -- ---- by cells

  mapped : (f g : List ℕ → Option Cells) (h : Cells → Cells) → ((x : List ℕ) → f x ≡ option_map h (g x)) → (xs : List (List ℕ)) → filter_map f xs ≡ map h (filter_map g xs)
  mapped f g h e [] = refl
  mapped f g h e (x ∷ xs) = ap (λ o. cons_option o (filter_map f xs)) (e x) ∙ at (g x) (mapped f g h e xs)
    where
      at : (o : Option Cells) → filter_map f xs ≡ map h (filter_map g xs) → cons_option (option_map h o) (filter_map f xs) ≡ map h (cons_option o (filter_map g xs))
      at None i = i
      at (Some a) i = ap (λ l. h a ∷ l) i

  bound_length : (acts : Acts) (x : List ℕ) (m : Cells) → length (bound acts x m) ≡ length m
  bound_length acts x m = act_length acts.object _ _ ∙ (act_length acts.predicate _ _ ∙ act_length acts.subject _ m)

  quad_copied : (acts : Acts) (m : Cells) (x : List ℕ) → r < length m → quad_bound acts r (Some v) m x ≡ copied_cells (quad_bound acts r None m x)
  quad_copied acts m x cell =
      let b : Cells = bound acts (triple_in x) m in
      let n : Option Cell = Some (Known (slice_index x 0)) in
      let long : r < length b = subst (λ (k : ℕ). r < k) (sym (bound_length acts (triple_in x) m)) cell in
      ap (λ c. slice_set (slice_set b r n) v c) (sym (get_or-set_same b r n None long))

  rows_copied : (acts : Acts) (m : Cells) (xs : List (List ℕ)) → r < length m → filter_map (quad_made acts r (Some v) m) xs ≡ map copied_cells (filter_map (quad_made acts r None m) xs)
  rows_copied acts m xs cell =
      mapped (quad_made acts r (Some v) m) (quad_made acts r None m) copied_cells
      (λ x. ap (λ c. if quad_passes acts x then Some c else None) (quad_copied acts m x cell) ∙ if_map (quad_passes acts x) copied_cells (quad_bound acts r None m x)) xs

  module _ (known table : List Term) where
    row_copied : (a : Cells) → row_solution known table (copied_cells a) ≡ copied (row_solution known table a)
    row_copied a = set_terms known table a v (cell_at a r) ∙ ap (slice_set (row_solution known table a) v) (sym (term_at_row known table a r))

    solutions_copied : (rows : List Cells) → map (row_solution known table) (map copied_cells rows) ≡ map copied (map (row_solution known table) rows)
    solutions_copied [] = refl
    solutions_copied (a ∷ rows) = rw (row_copied a) (ap (λ l. copied (row_solution known table a) ∷ l) (solutions_copied rows))

    copied_fit : (rows : List Cells) → AllByRecursion (FitsRow known table) rows → AllByRecursion (FitsRow known table) (map copied_cells rows)
    copied_fit [] h = tt
    copied_fit (a ∷ rows) h = (set_fits known table a v (cell_at a r) h.0 (h.0.each r), copied_fit rows h.1)

  -- ---- by terms

  module _ (width : ℕ) (quads : List Statement) (known : List Term) (p : TriplePattern) (m : Solution) (misses_r : misses r (prepared_triple known p) ≡ true) (misses_v : misses v (prepared_triple known p) ≡ true)
      (named : v < width) (wide : width ≤ r) (cell : r < length m) (none : term_at m v ≡ None) where
    other : v ≢ r
    other e = absurd (omega (arith, e, named, wide))

    module _ (n : Solution) where
      abbrev x : Option Term
      x = term_at n r

      one_copied : (o : Option Solution) → Keeps r n o → option_map (λ a. slice_set a v x) o ≡ option_map copied o
      one_copied None h = refl
      one_copied (Some a) h = ap (λ y. Some (slice_set a v y)) (sym (h a refl))

      triple_copied : (t : Triple) → bound_triple p t (slice_set n v x) ≡ option_map copied (bound_triple p t n)
      triple_copied t = triple_held v x known p t n misses_v ∙ one_copied (bound_triple p t n) (triple_keeps r known p t n misses_r)

      listed : (o : Option Solution) → option_to_list (option_map copied o) ≡ map copied (option_to_list o)
      listed None = refl
      listed (Some a) = refl

      extensions_copied : (graph : Graph) → extensions p graph (slice_set n v x) ≡ map copied (extensions p graph n)
      extensions_copied [] = refl
      extensions_copied (t ∷ graph) =
          rw (triple_copied t, listed (bound_triple p t n))
          (ap (λ l. map copied (option_to_list (bound_triple p t n)) ++ l) (extensions_copied graph) ∙ sym (map-append copied (option_to_list (bound_triple p t n)) (extensions p graph n)))

      abbrev looks : Solution → List Solution
      looks k = extensions p (graph_named quads (term_at k r)) k

      joins : term_at n v ≡ None → width ≤ length n → flat_map looks (merges (slice_set (unbound width) v x ∷ []) n) ≡ map copied (looks n)
      joins e long =
          ap (flat_map looks) (merges_named n width v x true named long (ap (λ y. compatible_terms y x) e) ∙ ap (λ y. slice_set n v (first_bound y x) ∷ []) e)
          ∙ (append-nil (looks (slice_set n v x))
          ∙ (ap (λ y. extensions p (graph_named quads y) (slice_set n v x)) (get_or-set_other n v r x None (λ e. other (sym e)))
          ∙ extensions_copied (graph_named quads x)))

    abbrev with_name : Term → Solution
    with_name name = slice_set m r (Some name)

    one_joined : (name : Term) → flat_map (looks (with_name name)) (merges (slice_set (unbound width) v (term_at (with_name name) r) ∷ []) (with_name name)) ≡ map copied (looks (with_name name) (with_name name))
    one_joined name =
        joins (with_name name) (get_or-set_other m r v (Some name) None other ∙ none) (let e : length (with_name name) ≡ length m = length-set m r (Some name) in omega (arith, e, cell, wide))

    all_joined : (names : List Term) → flat_map (λ n. flat_map (looks n) (merges (slice_set (unbound width) v (term_at n r) ∷ []) n)) (map with_name names) ≡ map copied (flat_map (λ n. looks n n) (map with_name names))
    all_joined [] = refl
    all_joined (name ∷ names) =
        rw (one_joined name) (ap (λ l. map copied (looks (with_name name) (with_name name)) ++ l) (all_joined names) ∙ sym (map-append copied (looks (with_name name) (with_name name)) (flat_map (λ n. looks n n) (map with_name names))))

    joined_is : each_joined quads width v r p m ≡ map copied (each_extension quads r p m)
    joined_is = all_joined (names_of quads)

pub joined_made : (c : Content) (width v r : ℕ) (k : PreparedTriple) (m : Cells) (q : TriplePattern) (entries : List (List ℕ)) → IsSeen c → AreScanned c k m entries → misses r k ≡ true → misses v k ≡ true
    → r < length m → v < width → width ≤ r → cell_at m v ≡ None → k ≡ prepared_triple c.known q → Makes c.known (each_joined c.quads width v r q) m (filter_map (quad_made (acts_of k m) r (Some v) m) entries)
joined_made c width v r k m q entries seen scanned misses_r misses_v cell named wide none e table is_table fits =
    let made : AreMade c.known table (each_extension c.quads r q) m (filter_map (quad_made (acts_of k m) r None m) entries) = quads_made c r k m q entries seen scanned misses_r cell e table is_table fits in
    let sol : Solution = row_solution c.known table m in
    let long : r < length sol = subst (λ (n : ℕ). r < n) (sym (length-map m (denoted_if c.known table))) cell in
    let misses_p : (w : ℕ) → misses w k ≡ true → misses w (prepared_triple c.known q) ≡ true = λ w. subst (λ (z : PreparedTriple). misses w z ≡ true) e in
    let is : each_joined c.quads width v r q sol ≡ map (copied r v) (each_extension c.quads r q sol) =
    joined_is r v width c.quads c.known q sol (misses_p r misses_r) (misses_p v misses_v) named wide long (term_at_row c.known table m v ∙ ap (denoted_if c.known table) none) in
    subst (AreMade c.known table (each_joined c.quads width v r q) m) (sym (rows_copied r v (acts_of k m) m entries cell))
    (record {
      same = subst (SameBag (map (row_solution c.known table) (map (copied_cells r v) (filter_map (quad_made (acts_of k m) r None m) entries)))) (sym is)
          (subst (λ (xs : List Solution). SameBag xs (map (copied r v) (each_extension c.quads r q sol))) (sym (solutions_copied r v c.known table (filter_map (quad_made (acts_of k m) r None m) entries)))
          (IsPermutation-map (copied r v) _ _ made.same));
      fit = copied_fit r v c.known table (filter_map (quad_made (acts_of k m) r None m) entries) made.fit;
    })
