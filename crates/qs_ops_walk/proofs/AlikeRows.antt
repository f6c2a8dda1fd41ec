-- Rows to come that have the same terms at some variables as a row that was given.
use Rattle.std.proofs.Common.{◌≡◌, inl, inr, ℕ, zero, suc, ◌+◌, ◌-◌, ◌<◌, ◌≤◌, Bool, true, false, List, [], ◌∷◌, ◌++◌, length, map, take, drop, get_or, Option, Some, None, IsSome, refl, sym, ◌∙◌, ap, subst, append_assoc, length-append, arith}
use Rattle.std.specs.List.{AllByRecursion, flat_map}
use Rattle.std.specs.Option.{is_some}
use Rattle.std.proofs.lemmas.Bool.{cases_lt}
use Rattle.std.proofs.lemmas.List.{map-append}
use Rattle.std.proofs.lemmas.List.Sorted.{IsPermutation-map}
use Rattle.qs_terms.specs.Bag.{SameBag}
use Rattle.qs_terms.specs.declared.term.Term.{Term}
use Rattle.qs_algebra_solutions.specs.Solution.{Solution, projected, term_at}
use Rattle.qs_algebra_patterns.specs.Eval.{all_hold}
use Rattle.qs_expr.specs.declared.cell.Cell.{Cell}
use Rattle.qs_expr.specs.inner.Cell.{Cells, cell_at, denoted_if, row_solution, FitsRow}
use Rattle.qs_ops_program.specs.inner.Flow.{Instruction, IsForward, NamesBefore, flow, is_union}
use Rattle.qs_ops_program.proofs.Flows.{past_end, flow_fork, flow_step}
use Rattle.qs_ops_tables.specs.inner.Tables.{row_solutions}
use Rattle.qs_plan.specs.inner.Certain.{Bound, Alike, Keeps}
use Rattle.qs_plan.proofs.Widths.{all_append, all_filter}
use Rattle.qs_ops_walk.specs.declared.source.Attempt.{Attempt}
use Rattle.qs_ops_walk.specs.declared.source.Level.{Level}
use Rattle.qs_ops_walk.specs.declared.source.Source.{Source}
use Rattle.qs_ops_walk.specs.declared.source.Source.TheVariants as source
use Rattle.qs_ops_walk.specs.declared.work.Place.{Place}
use Rattle.qs_ops_walk.specs.inner.Setting.{Setting, known_of, gives_in, graph_in}
use Rattle.qs_ops_walk.specs.inner.Works.{code_of, expr_of}
use Rattle.qs_ops_walk.specs.inner.Coming.{Going, going, or_else, source_items, level_items, flows, coming, row_if, attempted}
use Rattle.qs_ops_walk.specs.inner.Moves.{IsWalk}
use Rattle.qs_ops_walk.specs.inner.Cursor.{named_coming, rows_left, is_done, IsOp}
use Rattle.qs_ops_walk.specs.inner.Alike.{HasCell, HasCellIf, HasCommon, SharesCell, IsSourceAlike, IsLastAlike, KeepsAll, SharesTerms, ArePassed, SkipsAlike}
use Rattle.qs_ops_walk.specs.inner.Stream.{Stream, PassesAlike}
use Rattle.qs_ops_walk.proofs.Cursors.{op_walk}
use Rattle.qs_ops_walk.proofs.Passes.{cell_term}
use Rattle.qs_ops_walk.proofs.Steps.{over_walk}
use Rattle.qs_ops_walk.proofs.Walks.{coming_at}

-- ---- lists

module _ {X : Type 0} (P Q : X → Type 0) (f : (x : X) → P x → Q x) where
  pub all_weaker : (xs : List X) → AllByRecursion P xs → AllByRecursion Q xs
  all_weaker [] h = tt
  all_weaker (x ∷ xs) h = (f x h.0, all_weaker xs h.1)

module _ {X Y : Type 0} (P : X → Type 0) (Q : Y → Type 0) (f : X → Y) (k : (x : X) → P x → Q (f x)) where
  all_through : (xs : List X) → AllByRecursion P xs → AllByRecursion Q (map f xs)
  all_through [] h = tt
  all_through (x ∷ xs) h = (k x h.0, all_through xs h.1)

module _ {X Y : Type 0} (P : X → Type 0) (Q : Y → Type 0) (f : X → List Y) (k : (x : X) → P x → AllByRecursion Q (f x)) where
  all_each : (xs : List X) → AllByRecursion P xs → AllByRecursion Q (flat_map f xs)
  all_each [] h = tt
  all_each (x ∷ xs) h = all_append Q (f x) (flat_map f xs) (k x h.0) (all_each xs h.1)

-- an element at a place
record At {X : Type 0} (P : X → Type 0) (xs : List X) (k : ℕ) : Type 0 where
  pub element : X
  pub is : element ≡ get_or xs k element
  pub has : P element

at_place : {X : Type 0} (P : X → Type 0) (xs : List X) (k : ℕ) → k < length xs → AllByRecursion P xs → At P xs k
at_place P [] k lt h = absurd (omega arith)
at_place P (x ∷ xs) zero lt h = record { element = x; is = refl; has = h.0 }
at_place P (x ∷ xs) (suc k) lt h = let r = at_place P xs k (omega arith) h.1 in record { element = r.element; is = r.is; has = r.has }

take_own : {X : Type 0} (xs ys : List X) → take (length xs) (xs ++ ys) ≡ xs
take_own [] ys = refl
take_own (x ∷ xs) ys = ap (λ zs. x ∷ zs) (take_own xs ys)

-- the last element is taken away
pub front_left : {X : Type 0} (xs others now : List X) (x : X) (n : ℕ) → xs ≡ others ++ x ∷ [] → n ≡ length xs → now ≡ take (n - 1) xs → now ≡ others
front_left xs others now x n e l k =
    let long : length xs ≡ length others + 1 = ap length e ∙ length-append others (x ∷ []) in
    let j : n - 1 ≡ length others = omega (arith, l, long) in
    k ∙ (ap (take (n - 1)) e ∙ (ap (λ i. take i (others ++ x ∷ [])) j ∙ take_own others (x ∷ [])))

pub front_shorter : {X : Type 0} (xs others now : List X) (x : X) → xs ≡ others ++ x ∷ [] → now ≡ others → length now < length xs
front_shorter xs others now x e k =
    let long : length xs ≡ length others + 1 = ap length e ∙ length-append others (x ∷ []) in
    let same : length now ≡ length others = ap length k in
    omega (arith, long, same)

-- ---- what comes of a row that binds a variable binds it alike

module _ (v : ℕ) (s : Setting) (code : List Instruction) (forward : IsForward code) (keep : AllByRecursion (λ (i : Instruction). is_union i.stage ≡ false → Keeps v i.stage) code) where
  abbrev comes : ℕ → Solution → List Solution
  comes p m = flow (gives_in s) code p m

  abbrev AreAlike : ℕ → Type 0
  AreAlike p = (m : Solution) → Bound v m → AllByRecursion (Alike v m) (comes p m)

  from_alike : (p : ℕ) → AreAlike p → (m x : Solution) → Bound v m → Alike v m x → AllByRecursion (Alike v m) (comes p x)
  from_alike p h m x b a = all_weaker (Alike v x) (Alike v m) (λ n e. e ∙ a) (comes p x) (h x (subst IsSome (sym a) b))

  module _ (n : ℕ) (below : (p : ℕ) → p ≤ n → AreAlike p) (i : Instruction) (names : NamesBefore n i) (k : is_union i.stage ≡ false → Keeps v i.stage) (m : Solution) (b : Bound v m) where
    forks_alike : (starts : List ℕ) → AllByRecursion (λ start. start ≤ n) starts → AllByRecursion (Alike v m) (flat_map (λ start. comes start m) starts)
    forks_alike [] h = tt
    forks_alike (start ∷ starts) h = all_append (Alike v m) (comes start m) _ (below start h.0 m b) (forks_alike starts h.1)

    step_alike : is_union i.stage ≡ false → AllByRecursion (Alike v m) (flat_map (comes i.next) (gives_in s i.stage m))
    step_alike u =
        all_each (Alike v m) (Alike v m) (comes i.next) (λ x a. from_alike i.next (below i.next names.next) m x b a) (gives_in s i.stage m)
        ((k u).alike s.width s.content.quads (graph_in s) m b)

  up_to : (n : ℕ) (p : ℕ) → p ≤ n → AreAlike p
  up_to n zero h m b = (refl, tt)
  up_to zero (suc p) h m b = absurd (omega arith)
  up_to (suc n) (suc p) h m b = elim (cases_lt p (length code)) as (λ w. AllByRecursion (Alike v m) (comes (suc p) m)) [
    | inl lt ↦ inside n p (omega arith) (at_place _ code p lt keep) lt m b (up_to n)
    | inr le ↦ subst (AllByRecursion (Alike v m)) (sym (past_end (gives_in s) code p m le)) tt
  ]
    where
      inside : (n p : ℕ) → p ≤ n → At (λ (i : Instruction). is_union i.stage ≡ false → Keeps v i.stage) code p → p < length code → (m : Solution) → Bound v m → ((q : ℕ) → q ≤ n → AreAlike q) → AllByRecursion (Alike v m) (comes (suc p) m)
      inside n p le i lt m b below = at (is_union i.element.stage) refl
        where
          nearer : (q : ℕ) → q ≤ p → AreAlike q
          nearer q h = below q (omega arith)

          at : (u : Bool) → is_union i.element.stage ≡ u → AllByRecursion (Alike v m) (comes (suc p) m)
          at true u =
              subst (AllByRecursion (Alike v m)) (sym (flow_fork (gives_in s) code p i.element m forward lt i.is u))
              (forks_alike p nearer i.element (forward.each p i.element lt i.is) i.has m b i.element.starts (forward.each p i.element lt i.is).starts)
          at false u =
              subst (AllByRecursion (Alike v m)) (sym (flow_step (gives_in s) code p i.element m forward lt i.is u))
              (step_alike p nearer i.element (forward.each p i.element lt i.is) i.has m b u)

  flow_alike : (p : ℕ) → AreAlike p
  flow_alike p = up_to p p (omega arith)

-- ---- the rows of a source

module _ (s : Setting) (table : List Term) (m : Cells) (v : ℕ) (c : Cell) (is : cell_at m v ≡ Some c) where
  abbrev solution_of : Cells → Solution
  solution_of = row_solution (known_of s) table

  abbrev AsM : Solution → Type 0
  AsM = Alike v (solution_of m)

  abbrev GoesAsM : Going → Type 0
  GoesAsM x = AsM x.1

  has_alike : (n : Cells) → HasCell v c n → AsM (solution_of n)
  has_alike n h =
      cell_term (known_of s) table n v ∙ (ap (denoted_if (known_of s) table) (h ∙ sym is) ∙ sym (cell_term (known_of s) table m v))

  rows_alike : (rows : List Cells) → AllByRecursion (HasCell v c) rows → AllByRecursion AsM (row_solutions (known_of s) table rows)
  rows_alike rows h = all_through (HasCell v c) AsM solution_of has_alike rows h

  going_alike : (next : ℕ) (xs : List Solution) → AllByRecursion AsM xs → AllByRecursion GoesAsM (going next xs)
  going_alike next xs h = all_through AsM GoesAsM (λ (x : Solution). (next, x)) (λ x a. a) xs h

  row_alike : (o : Option Cells) → HasCellIf v c o → AllByRecursion AsM (row_if (known_of s) table o)
  row_alike None h = tt
  row_alike (Some n) h = (has_alike n h, tt)

  else_alike : (o : Option Cells) (xs : List Solution) → HasCellIf v c o → AllByRecursion AsM xs → AllByRecursion AsM (or_else (known_of s) table o xs)
  else_alike None xs h k = k
  else_alike (Some n) [] h k = (has_alike n h, tt)
  else_alike (Some n) (x ∷ xs) h k = k

  attempted_alike : (a : Attempt) → HasCommon v (source.Optional a) c → AllByRecursion AsM (attempted s table a)
  attempted_alike a h =
      else_alike a.alone _ h.1
      (all_filter AsM (λ n. all_hold (map expr_of a.conditions.list.items) (take s.width n)) (row_solutions (known_of s) table a.probe) (rows_alike a.probe h.0))

  forks_of_alike : (x : Solution) → AsM x → (starts : List ℕ) → AllByRecursion GoesAsM (map (λ (start : ℕ). (start, x)) starts)
  forks_of_alike x a [] = tt
  forks_of_alike x a (start ∷ starts) = (a, forks_of_alike x a starts)

  items_alike : (next : ℕ) (x : Source) → HasCommon v x c → AllByRecursion GoesAsM (source_items s table next x)
  items_alike next (source.Given o) h = going_alike next _ (row_alike o h)
  items_alike next (source.Triple rows) h = going_alike next _ (rows_alike rows h)
  items_alike next (source.Quads rows) h = going_alike next _ (rows_alike rows h)
  items_alike next (source.Names rows) h = going_alike next _ (rows_alike rows h)
  items_alike next (source.Path rows) h = going_alike next _ (rows_alike rows h)
  items_alike next (source.Probe rows) h = going_alike next _ (rows_alike rows h)
  items_alike next (source.Optional a) h = going_alike next _ (attempted_alike a h)
  items_alike next (source.Fork f) h = forks_of_alike (solution_of f.row) (has_alike f.row h) (drop f.at f.starts.list.items)

  -- what comes of them
  module _ (fits : FitsRow (known_of s) table m) (code : List Instruction) (forward : IsForward code) (keep : AllByRecursion (λ (i : Instruction). is_union i.stage ≡ false → Keeps v i.stage) code) where
    bound : Bound v (solution_of m)
    bound = ap is_some (cell_term (known_of s) table m v ∙ ap (denoted_if (known_of s) table) is) ∙ fits.each v c is

    one_alike : (x : Going) → GoesAsM x → AllByRecursion AsM (flow (gives_in s) code x.0 x.1)
    one_alike x a = from_alike v s code forward keep x.0 (flow_alike v s code forward keep x.0) (solution_of m) x.1 bound a

    flows_alike : (l : Level) → HasCommon v l.source c → AllByRecursion AsM (flows s code (level_items s table l))
    flows_alike l h = all_each GoesAsM AsM (λ (x : Going). flow (gives_in s) code x.0 x.1) one_alike (level_items s table l) (items_alike l.next l.source h)

-- ---- the terms of several variables

term_taken : (w v : ℕ) (n : Solution) → v < w → term_at (take w n) v ≡ term_at n v
term_taken zero v n h = absurd (omega arith)
term_taken (suc w) v [] h = refl
term_taken (suc w) zero (x ∷ n) h = refl
term_taken (suc w) (suc v) (x ∷ n) h = term_taken w v n (omega arith)

module _ (width : ℕ) (m : Solution) where
  none_shared : (ns : List Solution) → AllByRecursion (SharesTerms width [] m) ns
  none_shared [] = tt
  none_shared (n ∷ ns) = (refl, none_shared ns)

  one_shared : (v : ℕ) (vs : List ℕ) (n : Solution) → v < width → Alike v m n → SharesTerms width vs m n → SharesTerms width (v ∷ vs) m n
  one_shared v vs n lt a h = ap (λ t. t ∷ projected vs (take width n)) (term_taken width v n lt ∙ a) ∙ ap (λ ts. term_at m v ∷ ts) h

  more_shared : (v : ℕ) (vs : List ℕ) (ns : List Solution) → v < width → AllByRecursion (Alike v m) ns → AllByRecursion (SharesTerms width vs m) ns → AllByRecursion (SharesTerms width (v ∷ vs) m) ns
  more_shared v vs [] lt a h = tt
  more_shared v vs (n ∷ ns) lt a h = (one_shared v vs n lt a.0 h.0, more_shared v vs ns lt a.1 h.1)

-- ---- the last level is passed over

module _ (s : Setting) (table : List Term) (columns : List ℕ) (m : Cells) (fits : FitsRow (known_of s) table m) (code : List Instruction) (forward : IsForward code) where
  abbrev KeptBy : List ℕ → Type 0
  KeptBy vs = AllByRecursion (λ (i : Instruction). KeepsAll vs i.stage) code

  first_kept : (v : ℕ) (vs : List ℕ) → KeptBy (v ∷ vs) → AllByRecursion (λ (i : Instruction). is_union i.stage ≡ false → Keeps v i.stage) code
  first_kept v vs h = all_weaker (λ (i : Instruction). KeepsAll (v ∷ vs) i.stage) (λ (i : Instruction). is_union i.stage ≡ false → Keeps v i.stage) (λ i k. k.0) code h

  rest_kept : (v : ℕ) (vs : List ℕ) → KeptBy (v ∷ vs) → KeptBy vs
  rest_kept v vs h = all_weaker (λ (i : Instruction). KeepsAll (v ∷ vs) i.stage) (λ (i : Instruction). KeepsAll vs i.stage) (λ i k. k.1) code h

  level_shares : (l : Level) (vs : List ℕ) → KeptBy vs → AllByRecursion (SharesCell s.width m l.source) vs → AllByRecursion (SharesTerms s.width vs (row_solution (known_of s) table m)) (flows s code (level_items s table l))
  level_shares l [] k h = none_shared s.width (row_solution (known_of s) table m) (flows s code (level_items s table l))
  level_shares l (v ∷ vs) k h =
      more_shared s.width (row_solution (known_of s) table m) v vs (flows s code (level_items s table l)) h.0.named
      (flows_alike s table m v h.0.cell h.0.is fits code forward (first_kept v vs k) l h.0.common) (level_shares l vs (rest_kept v vs k) h.1)

  pub level_passed : (l : Level) → KeptBy columns → IsSourceAlike s.width columns m l.source → AllByRecursion (SharesTerms s.width columns (row_solution (known_of s) table m)) (flows s code (level_items s table l))
  level_passed l k (inl e) = subst (λ (x : Source). AllByRecursion (SharesTerms s.width columns (row_solution (known_of s) table m)) (flows s code (source_items s table l.next x))) (sym e) tt
  level_passed l k (inr h) = level_shares l columns k h

  one_passed : (old mid : List Level) → KeptBy columns → (last : IsLastAlike s.width columns m mid) → ArePassed s code table columns m old mid → ArePassed s code table columns m old last.others
  one_passed old mid k last h =
      let more : List Solution = flows s code (level_items s table last.level) in
      let left : List Solution = coming s code table last.others in
      let e : coming s code table mid ≡ more ++ left = coming_at s code table mid last.others last.level (level_items s table last.level) last.are refl in
      record {
        passed = h.passed ++ more;
        bag =
            subst (SameBag (coming s code table old)) (sym (append_assoc h.passed more left))
            (subst (λ (xs : List Solution). SameBag (coming s code table old) (h.passed ++ xs)) e h.bag);
        shared = all_append (SharesTerms s.width columns (row_solution (known_of s) table m)) h.passed more h.shared (level_passed last.level k last.alike);
      }

-- ---- walks

abbrev KeptIn : List ℕ → List Place → Type 0
KeptIn columns ps = AllByRecursion (λ (p : Place). KeepsAll columns p.instr.stage) ps

pub kept_code : (columns : List ℕ) (ps : List Place) → KeptIn columns ps → AllByRecursion (λ (i : Instruction). KeepsAll columns i.stage) (code_of ps)
kept_code columns [] h = tt
kept_code columns (p ∷ ps) h = (h.0, kept_code columns ps h.1)

pub skips_more : (width : ℕ) (ps : List Place) (columns : List ℕ) (m : Cells) (old mid now : List Level) → KeptIn columns ps → (last : IsLastAlike width columns m mid) → now ≡ last.others → SkipsAlike width ps columns m old mid → SkipsAlike width ps columns m old now
skips_more width ps columns m old mid now k last is h s table e w f =
    let g = h s table e w f in
    let own : IsLastAlike s.width columns m mid = record { others = last.others; level = last.level; are = last.are; alike = subst (λ (n : ℕ). IsSourceAlike n columns m last.level.source) (sym e) last.alike } in
    subst (λ (ls : List Level). IsWalk s table ps ls × ArePassed s (code_of ps) table columns m old ls) (sym is) (
      over_walk s table ps mid last.others last.level last.are g.0,
      one_passed s table columns m f (code_of ps) w.forward old mid (kept_code columns ps k) own g.1,
    )

-- ---- the solutions over named variables

module _ (s : Setting) (table : List Term) (ps : List Place) (columns : List ℕ) (m : Cells) (old now : List Level) (h : ArePassed s (code_of ps) table columns m old now) where
  abbrev narrow : List Solution → List Solution
  narrow = map (take s.width)

  narrow_bag : SameBag (named_coming s (code_of ps) table old) (narrow h.passed ++ named_coming s (code_of ps) table now)
  narrow_bag =
      subst (SameBag (named_coming s (code_of ps) table old)) (map-append (take s.width) h.passed (coming s (code_of ps) table now))
      (IsPermutation-map (take s.width) (coming s (code_of ps) table old) (h.passed ++ coming s (code_of ps) table now) h.bag)

  passes_alike : PassesAlike columns (row_solution (known_of s) table m) (Some (named_coming s (code_of ps) table old)) (Some (named_coming s (code_of ps) table now))
  passes_alike = (
    narrow h.passed,
    narrow_bag,
    all_through (SharesTerms s.width columns (row_solution (known_of s) table m)) (λ (n : Solution). projected columns n ≡ projected columns (row_solution (known_of s) table m)) (take s.width) (λ n k. k) h.passed h.shared,
  )

-- ---- an evaluation

left_passes : (failed : Bool) → failed ≡ false → (s : Setting) (table : List Term) (ps qs : List Place) → qs ≡ ps → (columns : List ℕ) (m : Cells) (old now : List Level) → ArePassed s (code_of ps) table columns m old now
    → PassesAlike columns (row_solution (known_of s) table m) (rows_left failed s table ps old) (rows_left failed s table qs now)
left_passes failed f s table ps qs e columns m old now h = rw (f, e) (passes_alike s table ps columns m old now h)

pub op_passes : (x : Stream) (failed : Bool) (s : Setting) (table : List Term) (ps qs : List Place) (columns : List ℕ) (m : Cells) (old now : List Level)
    → (let y : Stream = record { rows = rows_left failed s table ps old; is_over = is_done failed old; known = known_of s; table = table } in y ≡ x)
    → failed ≡ false → IsOp failed s table ps old → qs ≡ ps → SkipsAlike s.width ps columns m old now → FitsRow x.known x.table m
    → PassesAlike columns (row_solution x.known x.table m) x.rows (rows_left failed s table qs now)
op_passes x failed s table ps qs columns m old now v f o e h fits =
    let own : FitsRow (known_of s) table m = subst (λ (y : Stream). FitsRow y.known y.table m) (sym v) fits in
    subst (λ (y : Stream). PassesAlike columns (row_solution y.known y.table m) y.rows (rows_left failed s table qs now)) v
    (left_passes failed f s table ps qs e columns m old now (h s table refl (op_walk failed s table ps old f o) own).1)
