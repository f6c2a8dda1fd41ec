-- The rows that pairs of cells make, one by one, and what they denote.
use Rattle.std.proofs.Common.{◌≡◌, ◌≢◌, ⊎_elim, ℕ, zero, suc, ◌+◌, ◌<◌, ◌≤◌, Bool, true, false, ◌==◌, ◌&&◌, nat_lt, Option, Some, None, if◌then◌else◌, List, [], ◌∷◌, ◌++◌, map, drop, take, length, slice_get, slice_set, add-one, refl, sym, ◌∙◌, ap, subst, arith}
use Rattle.std.specs.Prelude.{option_to_list}
use Rattle.std.specs.List.{AllByRecursion, Contains, cons_option, filter_map, flat_map}
use Rattle.std.proofs.lemmas.Bool.{cases_eq}
use Rattle.std.proofs.lemmas.Bool.Decides.{Decides-eqb, nat_tests}
use Rattle.std.proofs.lemmas.List.{get_or-set_same, get_or-set_other, set_past}
use Rattle.std.proofs.lemmas.List.Sorted.{Contains-permutation, IsPermutation-refl}
use Rattle.std.proofs.lemmas.Option.{none-some}
use Rattle.qs_terms.specs.Bag.{SameBag}
use Rattle.qs_terms.specs.declared.term.Term.{Term}
use Rattle.qs_paths_meaning.specs.Pair.{Pair, pair}
use Rattle.qs_store.proofs.Members.{here, there}
use Rattle.qs_algebra_solutions.specs.Solution.{Solution}
use Rattle.qs_algebra_patterns.specs.Basic.{Graph}
use Rattle.qs_algebra_patterns.specs.declared.pattern.Slot.{Slot}
use Rattle.qs_algebra_patterns.specs.declared.pattern.Slot.TheVariants as slot
use Rattle.qs_algebra_patterns.specs.declared.pattern.PathPattern.{PathPattern}
use Rattle.qs_expr.specs.declared.cell.Cell.{Cell}
use Rattle.qs_expr.specs.inner.Cell.{Cells, cell_at, denoted, row_solution, FitsRow}
use Rattle.qs_expr.specs.inner.Scratch.{IsTable}
use Rattle.qs_paths.proofs.Lists.{map_has, member_of_map}
use Rattle.qs_plan_meaning.specs.inner.Scans.{bound_end, bound_ends, path_extensions, path_pairs}
use Rattle.qs_ops_scans.specs.inner.Makes.{AreMade}
use Rattle.qs_ops_scans.specs.inner.Paths.{denoted_pair, pair_if, ArePairs}
use Rattle.qs_ops_scans.specs.declared.ends.Ends.{Ends}
use Rattle.qs_ops_scans.specs.declared.ends.EndAct.TheVariants.{Bind}
use Rattle.qs_ops_scans.specs.declared.ends.EndActs.{EndActs}
use Rattle.qs_ops_scans.specs.inner.Ends.{act_agrees, act_bound, act_for, act_made, acts_agree, acts_bound, agrees_cell, binds_end, cell_after, end_acts, end_bound, ends_of, object_act, object_agrees, open_act, pair_bound, pair_made, set_open, subject_act, subject_agrees, variable_of}
use Rattle.qs_ops_scans.proofs.Scanned.{flat_map_same}
use Rattle.qs_ops_scans.proofs.Steps.{cell_bound, then_at, then_cells, this_bound, variable_bound, Bound}

-- ---- one by one

nil_drop : (i : ℕ) → let none : List (Cell × Cell) = [] in drop i none ≡ none
nil_drop zero = refl
nil_drop (suc i) = refl

first_in : (f : Cell × Cell → Option Cells) (xs : List (Cell × Cell)) (to i : ℕ) (e : Cell × Cell) → i < to → slice_get xs i ≡ Some e → filter_map f (drop i (take to xs)) ≡ cons_option (f e) (filter_map f (drop (suc i) (take to xs)))
first_in f [] to i e l h = absurd (none-some e h)
first_in f (x ∷ xs) zero i e l h = absurd (omega arith)
first_in f (x ∷ xs) (suc to) zero e l h = let k : x ≡ e = cc in ap (λ y. cons_option (f y) (filter_map f (take to xs))) k
first_in f (x ∷ xs) (suc to) (suc i) e l h = first_in f xs to i e (omega arith) h

-- the pair at the place makes a row
pub next_in : (acts : EndActs) (m : Cells) (xs : List (Cell × Cell)) (to i : ℕ) (e : Cell × Cell) → i < to → slice_get xs i ≡ Some e → acts_agree acts e ≡ true
    → filter_map (act_made acts m) (drop i (take to xs)) ≡ acts_bound acts e m ∷ filter_map (act_made acts m) (drop (i + 1) (take to xs))
next_in acts m xs to i e l h a =
    rw add-one (first_in (act_made acts m) xs to i e l h ∙ ap (λ b. cons_option (if b then Some (acts_bound acts e m) else None) (filter_map (act_made acts m) (drop (suc i) (take to xs)))) a)

-- the pair at the place makes none
pub passed_in : (acts : EndActs) (m : Cells) (xs : List (Cell × Cell)) (to i : ℕ) (e : Cell × Cell) → i < to → slice_get xs i ≡ Some e → acts_agree acts e ≡ false
    → filter_map (act_made acts m) (drop i (take to xs)) ≡ filter_map (act_made acts m) (drop (i + 1) (take to xs))
passed_in acts m xs to i e l h a =
    rw add-one (first_in (act_made acts m) xs to i e l h ∙ ap (λ b. cons_option (if b then Some (acts_bound acts e m) else None) (filter_map (act_made acts m) (drop (suc i) (take to xs)))) a)

none_left : (f : Cell × Cell → Option Cells) (xs : List (Cell × Cell)) (to i : ℕ) → slice_get xs i ≡ None → filter_map f (drop i (take to xs)) ≡ []
none_left f [] zero i h = ap (filter_map f) (nil_drop i)
none_left f [] (suc to) i h = ap (filter_map f) (nil_drop i)
none_left f (x ∷ xs) zero i h = ap (filter_map f) (nil_drop i)
none_left f (x ∷ xs) (suc to) zero h = absurd (none-some x (sym h))
none_left f (x ∷ xs) (suc to) (suc i) h = none_left f xs to i h

pub none_in : (acts : EndActs) (m : Cells) (xs : List (Cell × Cell)) (to i : ℕ) → slice_get xs i ≡ None → filter_map (act_made acts m) (drop i (take to xs)) ≡ []
none_in acts m xs to i h = none_left (act_made acts m) xs to i h

past_left : (f : Cell × Cell → Option Cells) (xs : List (Cell × Cell)) (to i : ℕ) → to ≤ i → filter_map f (drop i (take to xs)) ≡ []
past_left f xs zero i h = ap (filter_map f) (nil_drop i)
past_left f [] (suc to) i h = ap (filter_map f) (nil_drop i)
past_left f (x ∷ xs) (suc to) zero h = absurd (omega arith)
past_left f (x ∷ xs) (suc to) (suc i) h = past_left f xs to i (omega arith)

pub past_in : (acts : EndActs) (m : Cells) (xs : List (Cell × Cell)) (to i : ℕ) → to ≤ i → filter_map (act_made acts m) (drop i (take to xs)) ≡ []
past_in acts m xs to i h = past_left (act_made acts m) xs to i h

-- ---- one end after the other

-- a variable's cell, after an end was bound
set_at_end : (m : Cells) (v : ℕ) (c : Cell) (b : Bool) → nat_lt v (length m) ≡ b → cell_at m v ≡ None → cell_at (slice_set m v (Some c)) v ≡ cell_after None b c
set_at_end m v c true l e = get_or-set_same m v (Some c) None (grind (arith, nat_tests))
set_at_end m v c false l e = ap (λ r. cell_at r v) (set_past m v (Some c) (grind (arith, nat_tests))) ∙ e

after_false : (o : Option Cell) (c : Cell) → cell_after o false c ≡ o
after_false None c = refl
after_false (Some d) c = refl

after_some : (o : Option Cell) (b : Bool) (c d : Cell) → o ≡ Some d → cell_after o b c ≡ Some d
after_some None b c d e = absurd (none-some d e)
after_some (Some x) b c d e = e

none_binds : (m : Cells) (v w : ℕ) → (v ≡ w → ⊥) → ((v == w) && nat_lt w (length m)) ≡ false
none_binds m v w ne = at (v == w) refl
  where
    at : (b : Bool) → (v == w) ≡ b → (b && nat_lt w (length m)) ≡ false
    at true e = absurd (ne ((Decides-eqb v w).0 e))
    at false e = refl

self_binds : (m : Cells) (v : ℕ) → ((v == v) && nat_lt v (length m)) ≡ nat_lt v (length m)
self_binds m v = rw ((Decides-eqb v v).1 refl) refl

variable_after : (o : Option Cell) (m : Cells) (v w : ℕ) (c : Cell) → cell_at m v ≡ o → cell_at (set_open o v c m) w ≡ cell_after (cell_at m w) ((v == w) && nat_lt w (length m)) c
variable_after None m v w c e =
    ⊎_elim (λ (q : v ≡ w).
    subst (λ (z : ℕ). cell_at (slice_set m v (Some c)) z ≡ cell_after (cell_at m z) ((v == z) && nat_lt z (length m)) c) q
    (rw (self_binds m v, e) (set_at_end m v c (nat_lt v (length m)) refl e)))
    (λ (ne : v ≢ w). get_or-set_other m v w (Some c) None (λ q. ne (sym q)) ∙ (sym (after_false (cell_at m w) c) ∙ ap (λ b. cell_after (cell_at m w) b c) (sym (none_binds m v w ne)))) (cases_eq v w)
variable_after (Some d) m v w c e =
    ⊎_elim (λ (q : v ≡ w). let f : cell_at m w ≡ Some d = ap (cell_at m) (sym q) ∙ e in f ∙ sym (after_some (cell_at m w) ((v == w) && nat_lt w (length m)) c d f))
    (λ (ne : v ≢ w). sym (after_false (cell_at m w) c) ∙ ap (λ b. cell_after (cell_at m w) b c) (sym (none_binds m v w ne))) (cases_eq v w)

end_after : (end : Option ℕ) (m : Cells) (w : ℕ) (c : Cell) → cell_at (end_bound end c m) w ≡ cell_after (cell_at m w) (binds_end m end w) c
end_after None m w c = sym (after_false (cell_at m w) c)
end_after (Some v) m w c = variable_after (cell_at m v) m v w c refl

-- what an end makes of the row so far
abbrev end_step : Option ℕ → Cell → Cells → Option Cells
end_step end c m = if subject_agrees end c m then Some (end_bound end c m) else None

object_is : (ends : Ends) (m : Cells) (cells : Cell × Cell) → object_agrees ends.subject ends.object cells m ≡ subject_agrees ends.object cells.1 (end_bound ends.subject cells.0 m)
object_is ends m cells = at ends.object
  where
    at : (o : Option ℕ) → object_agrees ends.subject o cells m ≡ subject_agrees o cells.1 (end_bound ends.subject cells.0 m)
    at None = refl
    at (Some v) = ap (λ o. agrees_cell o cells.1) (sym (end_after ends.subject m v cells.0))

two : (a b : Bool) (y z : Cells) (f : Cells → Option Cells) → f y ≡ (if b then Some z else None) → then_cells (if a then Some y else None) f ≡ (if a && b then Some z else None)
two true b y z f h = h
two false b y z f h = refl

pair_steps : (ends : Ends) (m : Cells) (cells : Cell × Cell) → then_cells (end_step ends.subject cells.0 m) (end_step ends.object cells.1) ≡ pair_made ends m cells
pair_steps ends m cells =
    two (subject_agrees ends.subject cells.0 m) (object_agrees ends.subject ends.object cells m) (end_bound ends.subject cells.0 m) (pair_bound ends m cells) (end_step ends.object cells.1)
    (ap (λ b. if b then Some (pair_bound ends m cells) else None) (sym (object_is ends m cells)))

-- ---- by acts

subject_agrees_is : (m : Cells) (end : Option ℕ) (s c : Cell) → act_agrees (subject_act m end) s c ≡ subject_agrees end c m
subject_agrees_is m None s c = refl
subject_agrees_is m (Some v) s c = at (cell_at m v)
  where
    at : (o : Option Cell) → act_agrees (act_for o (Bind v)) s c ≡ agrees_cell o c
    at None = refl
    at (Some d) = refl

object_agrees_is : (m : Cells) (subject end : Option ℕ) (cells : Cell × Cell) → act_agrees (object_act m subject end) cells.0 cells.1 ≡ object_agrees subject end cells m
object_agrees_is m subject None cells = refl
object_agrees_is m subject (Some v) cells = at (cell_at m v) (binds_end m subject v)
  where
    at : (o : Option Cell) (b : Bool) → act_agrees (act_for o (open_act b v)) cells.0 cells.1 ≡ agrees_cell (cell_after o b cells.0) cells.1
    at None true = refl
    at None false = refl
    at (Some d) b = refl

subject_bound_is : (m : Cells) (end : Option ℕ) (c : Cell) → act_bound (subject_act m end) c m ≡ end_bound end c m
subject_bound_is m None c = refl
subject_bound_is m (Some v) c = at (cell_at m v)
  where
    at : (o : Option Cell) → act_bound (act_for o (Bind v)) c m ≡ set_open o v c m
    at None = refl
    at (Some d) = refl

object_bound_is : (m : Cells) (subject end : Option ℕ) (cells : Cell × Cell) → act_bound (object_act m subject end) cells.1 (end_bound subject cells.0 m) ≡ end_bound end cells.1 (end_bound subject cells.0 m)
object_bound_is m subject None cells = refl
object_bound_is m subject (Some v) cells = at (cell_at m v) (binds_end m subject v) ∙ ap (λ o. set_open o v cells.1 (end_bound subject cells.0 m)) (sym (end_after subject m v cells.0))
  where
    at : (o : Option Cell) (b : Bool) → act_bound (act_for o (open_act b v)) cells.1 (end_bound subject cells.0 m) ≡ set_open (cell_after o b cells.0) v cells.1 (end_bound subject cells.0 m)
    at None true = refl
    at None false = refl
    at (Some d) b = refl

made_is : (ends : Ends) (m : Cells) (cells : Cell × Cell) → act_made (end_acts m ends) m cells ≡ pair_made ends m cells
made_is ends m cells =
    ap (λ r. if acts_agree (end_acts m ends) cells then Some r else None) (ap (act_bound (object_act m ends.subject ends.object) cells.1) (subject_bound_is m ends.subject cells.0) ∙ object_bound_is m ends.subject ends.object cells)
    ∙ (ap (λ b. if b && act_agrees (object_act m ends.subject ends.object) cells.0 cells.1 then Some (pair_bound ends m cells) else None) (subject_agrees_is m ends.subject cells.0 cells.0)
    ∙ ap (λ b. if subject_agrees ends.subject cells.0 m && b then Some (pair_bound ends m cells) else None) (object_agrees_is m ends.subject ends.object cells))

-- the acts for the row make of it what the pairs do
pub all_made_are : (ends : Ends) (m : Cells) (xs : List (Cell × Cell)) → filter_map (act_made (end_acts m ends) m) xs ≡ filter_map (pair_made ends m) xs
all_made_are ends m [] = refl
all_made_are ends m (x ∷ xs) =
    ap (λ o. cons_option o (filter_map (act_made (end_acts m ends) m) xs)) (made_is ends m x) ∙ ap (cons_option (pair_made ends m x)) (all_made_are ends m xs)

-- ---- by terms

abbrev bound_of : PathPattern → Solution → Option Pair → Option Solution
bound_of p m None = None
bound_of p m (Some e) = bound_ends p e m

cell_steps : (o : Option Cell) (v : ℕ) (c : Cell) (m : Cells) → (if agrees_cell o c then Some (set_open o v c m) else None) ≡ cell_bound o v c m
cell_steps None v c m = refl
cell_steps (Some d) v c m = refl

made_of_some : (p : PathPattern) (m : Solution) (ps : List Pair) → flat_map (λ q. option_to_list (bound_of p m q)) (map Some ps) ≡ flat_map (λ e. option_to_list (bound_ends p e m)) ps
made_of_some p m [] = refl
made_of_some p m (e ∷ ps) = ap (λ l. option_to_list (bound_ends p e m) ++ l) (made_of_some p m ps)

module _ (known table : List Term) (is_table : IsTable known table) where
  end_is : (s : Slot) (c : Cell) (t : Term) (m : Cells) → FitsRow known table m → denoted known table c ≡ Some t → Bound known table is_table (end_step (variable_of s) c m) (bound_end s t (row_solution known table m))
  end_is (slot.Term u) c t m f h = this_bound known table is_table m f
  end_is (slot.Variable v) c t m f h =
      subst (λ (o : Option Cells). Bound known table is_table o (bound_end (slot.Variable v) t (row_solution known table m))) (sym (cell_steps (cell_at m v) v c m))
      (variable_bound known table is_table (cell_at m v) v c t m f refl h)

  pair_is : (p : PathPattern) (cells : Cell × Cell) (e : Pair) (m : Cells) → FitsRow known table m → denoted known table cells.0 ≡ Some e.left → denoted known table cells.1 ≡ Some e.right
      → Bound known table is_table (pair_made (ends_of p) m cells) (bound_ends p e (row_solution known table m))
  pair_is p cells e m f l r =
      subst (λ (o : Option Cells). Bound known table is_table o (bound_ends p e (row_solution known table m))) (pair_steps (ends_of p) m cells)
      (then_at known table is_table _ _ _ _ (end_is p.subject cells.0 e.left m f l) (λ a g. end_is p.object cells.1 e.right a g r))

  record Both (o q : Option Term) (e : Pair) : Type 0 where
    left : o ≡ Some e.left
    right : q ≡ Some e.right

  both : (o q : Option Term) (e : Pair) → pair_if o q ≡ Some e → Both o q e
  both None q e h = absurd (none-some e h)
  both (Some x) None e h = absurd (none-some e h)
  both (Some x) (Some y) e h =
      let i : pair x y ≡ e = cc in
      record { left = ap (λ (z : Pair). Some z.left) i; right = ap (λ (z : Pair). Some z.right) i }

  module _ (p : PathPattern) (m : Cells) (f : FitsRow known table m) where
    record Made (cells : List (Cell × Cell)) : Type 0 where
      is : map (row_solution known table) (filter_map (pair_made (ends_of p) m) cells) ≡ flat_map (λ q. option_to_list (bound_of p (row_solution known table m) q)) (map (denoted_pair known table) cells)
      fit : AllByRecursion (FitsRow known table) (filter_map (pair_made (ends_of p) m) cells)

    one_more : (x : Cell × Cell) (xs : List (Cell × Cell)) (r : Option Cells) (q : Option Solution) → pair_made (ends_of p) m x ≡ r → bound_of p (row_solution known table m) (denoted_pair known table x) ≡ q
        → Bound known table is_table r q → Made xs → Made (x ∷ xs)
    one_more x xs None q e g b h = record {
      is = rw (e, g, sym b.is) h.is;
      fit = rw e h.fit;
    }
    one_more x xs (Some r) q e g b h = record {
      is = rw (e, g, sym b.is) (ap (λ l. row_solution known table r ∷ l) h.is);
      fit = rw e (b.fit r refl, h.fit);
    }

    each_is : (x : Cell × Cell) (o : Option Pair) → denoted_pair known table x ≡ o → ((e : Pair) × (o ≡ Some e)) → Bound known table is_table (pair_made (ends_of p) m x) (bound_of p (row_solution known table m) o)
    each_is x o e w =
        let b = both (denoted known table x.0) (denoted known table x.1) w.0 (e ∙ w.1) in
        subst (λ (z : Option Pair). Bound known table is_table (pair_made (ends_of p) m x) (bound_of p (row_solution known table m) z)) (sym w.1) (pair_is p x w.0 m f b.left b.right)

    all_made : (cells : List (Cell × Cell)) → ((x : Cell × Cell) → Contains cells x → (e : Pair) × (denoted_pair known table x ≡ Some e)) → Made cells
    all_made [] h = record { is = refl; fit = tt }
    all_made (x ∷ xs) h =
        one_more x xs (pair_made (ends_of p) m x) (bound_of p (row_solution known table m) (denoted_pair known table x)) refl refl (each_is x (denoted_pair known table x) refl (h x (here x xs)))
        (all_made xs (λ z k. h z (there x z xs k)))

    there_is : (cells : List (Cell × Cell)) (ps : List Pair) → ArePairs known table cells ps → (x : Cell × Cell) → Contains cells x → (e : Pair) × (denoted_pair known table x ≡ Some e)
    there_is cells ps h x k =
        let w = member_of_map Some (denoted_pair known table x) ps (Contains-permutation _ _ (denoted_pair known table x) h (map_has (denoted_pair known table) x cells k)) in
        (w.of, sym w.is)

    -- the rows of the cells are what their pairs make
    pub list_made : (cells : List (Cell × Cell)) (ps : List Pair) → ArePairs known table cells ps → AreMade known table (λ n. flat_map (λ e. option_to_list (bound_ends p e n)) ps) m (filter_map (pair_made (ends_of p) m) cells)
    list_made cells ps h =
        let w = all_made cells (there_is cells ps h) in
        record {
          same = subst (λ (xs : List Solution). SameBag xs (flat_map (λ e. option_to_list (bound_ends p e (row_solution known table m))) ps)) (sym w.is)
              (subst (SameBag (flat_map (λ q. option_to_list (bound_of p (row_solution known table m) q)) (map (denoted_pair known table) cells))) (made_of_some p (row_solution known table m) ps)
              (flat_map_same (λ q. option_to_list (bound_of p (row_solution known table m) q)) (λ q. option_to_list (bound_of p (row_solution known table m) q)) _ _ h (λ q. IsPermutation-refl _)));
          fit = w.fit;
        }

    pub pairs_made : (cells : List (Cell × Cell)) (graph : Graph) → ArePairs known table cells (path_pairs p graph) → AreMade known table (path_extensions p graph) m (filter_map (pair_made (ends_of p) m) cells)
    pairs_made cells graph h = let w = list_made cells (path_pairs p graph) h in record { same = w.same; fit = w.fit }
