-- Where the blank nodes of instances come from.
use Rattle.std.proofs.Common.{◌≡◌, ℕ, zero, suc, ◌+◌, ◌*◌, ◌<◌, ◌≤◌, ◌⊎◌, inl, inr, Bool, true, false, ◌||◌, ◌&&◌, nat_eq, nat_lt, List, [], ◌∷◌, ◌++◌, length, Option, Some, None, if◌then◌else◌, refl, sym, ◌∙◌, ap, arith, append_assoc}
use Rattle.std.specs.List.{list_any, flat_map}
use Rattle.std.specs.Option.{option_map}
use Rattle.std.proofs.lemmas.Bool.Decides.{Decides-eqb}
use Rattle.std.proofs.lemmas.List.Folds.{list_any-append}
use Rattle.std.proofs.Math.Nat.{mul-le-mul_left}
use borrow.Author.Tests.{ltb-true}
use Rattle.qs_terms.specs.Dataset.{is_term_below, is_statement_below, is_above_blanks}
use Rattle.qs_terms.specs.inner.Dataset.{is_graph_below}
use Rattle.qs_terms.specs.Statement.{Statement, fits_places}
use Rattle.qs_terms.specs.declared.term.Term.{Term}
use Rattle.qs_terms.specs.declared.term.Term.TheVariants.{Iri, Blank, Literal}
use Rattle.qs_algebra_solutions.specs.Solution.{Solution, term_at}
use Rattle.qs_query_template.specs.inner.Fresh.{is_blank, cell_is_blank, quad_has_blank, binds_blank, slot_is_blank, graph_is_blank, template_quad_has_blank, names_blank, IsOfBlock}
use Rattle.qs_query_template.specs.Instances.{slot_term, graph_term, quad_of, instance, instances, next_after}
use Rattle.qs_query_template.specs.inner.Instances.{instances_under}
use Rattle.qs_query_template.specs.declared.template.Slot.{Slot}
use Rattle.qs_query_template.specs.declared.template.Slot.TheVariants as slot
use Rattle.qs_query_template.specs.declared.template.QuadTemplate.{QuadTemplate}
use Rattle.qs_query_template.specs.declared.template.Template.{Template}

or_cases : (a b : Bool) → (a || b) ≡ true → (a ≡ true) ⊎ (b ≡ true)
or_cases true b h = inl refl
or_cases false b h = inr h

or_first : (a b : Bool) → a ≡ true → (a || b) ≡ true
or_first true b h = refl
or_first false b h = cc

or_second : (a b : Bool) → b ≡ true → (a || b) ≡ true
or_second true b h = refl
or_second false b h = h

-- ---- each solution its block

module _ (t : Template) where
  pub split : (next : ℕ) (before after : List Solution) (m : Solution) →
      instances t next (before ++ m ∷ after) ≡ (instances t next before ++ instances_under t (next_after t next (length before)) m) ++ instances t (next_after t next (length before + 1)) after
  split next [] after m =
      let first : next_after t next 0 ≡ next = omega arith in
      let last : next_after t next (0 + 1) ≡ next + t.blanks = omega arith in
      rw (first, last) refl
  split next (b ∷ bs) after m =
      let first : next_after t (next + t.blanks) (length bs) ≡ next_after t next (suc (length bs)) = omega arith in
      let last : next_after t (next + t.blanks) (length bs + 1) ≡ next_after t next (suc (length bs) + 1) = omega arith in
      ap (λ l. instances_under t next b ++ l) (split (next + t.blanks) bs after m)
      ∙ rw (first, last) (simp append_assoc)

  pub apart : (next j k n : ℕ) → j < k → IsOfBlock t (next_after t next j) n → IsOfBlock t (next_after t next k) n → ⊥
  apart next j k n h a b =
      let m : t.blanks * (j + 1) ≤ t.blanks * k = mul-le-mul_left t.blanks (let l : j + 1 ≤ k = omega arith in l) in
      let p : n < (next + t.blanks * j) + t.blanks = a.1 in
      let q : next + t.blanks * k ≤ n = b.0 in
      omega arith

-- ---- where a blank node comes from

-- bound by the solution, or a term itself, or one of the block
abbrev pub From : Bool → Bool → ℕ → ℕ → ℕ → Type 0
From bound named first blanks n = (bound ≡ true) ⊎ ((named ≡ true) ⊎ ((first ≤ n) × (n < first + blanks)))

from_first : (bound a b : Bool) (first blanks n : ℕ) → From bound a first blanks n → From bound (a || b) first blanks n
from_first bound a b first blanks n (inl h) = inl h
from_first bound a b first blanks n (inr (inl h)) = inr (inl (or_first a b h))
from_first bound a b first blanks n (inr (inr h)) = inr (inr h)

from_second : (bound a b : Bool) (first blanks n : ℕ) → From bound b first blanks n → From bound (a || b) first blanks n
from_second bound a b first blanks n (inl h) = inl h
from_second bound a b first blanks n (inr (inl h)) = inr (inl (or_second a b h))
from_second bound a b first blanks n (inr (inr h)) = inr (inr h)

bound_at : (n : ℕ) (m : Solution) (v : ℕ) → cell_is_blank n (term_at m v) ≡ true → binds_blank n m ≡ true
bound_at n [] v h = let f : false ≡ true = h in cc
bound_at n (x ∷ xs) zero h = or_first (cell_is_blank n x) (binds_blank n xs) h
bound_at n (x ∷ xs) (suc v) h = or_second (cell_is_blank n x) (binds_blank n xs) (bound_at n xs v h)

fresh_at : (n blanks first k : ℕ) (b : Bool) → nat_lt k blanks ≡ b → cell_is_blank n (if b then Some (Blank (first + k)) else None) ≡ true → (first ≤ n) × (n < first + blanks)
fresh_at n blanks first k true e h =
    let is : n ≡ first + k = (Decides-eqb n (first + k)).0 h in let lt : k < blanks = ltb-true k blanks e in (omega arith, omega arith)
fresh_at n blanks first k false e h = let f : false ≡ true = h in absurd cc

slot_from : (n blanks first : ℕ) (m : Solution) (s : Slot) → cell_is_blank n (slot_term blanks first m s) ≡ true → From (binds_blank n m) (slot_is_blank n s) first blanks n
slot_from n blanks first m (slot.Variable v) h = inl (bound_at n m v h)
slot_from n blanks first m (slot.Term t) h = inr (inl h)
slot_from n blanks first m (slot.Blank k) h = inr (inr (fresh_at n blanks first k (nat_lt k blanks) refl h))

-- whether the name of the graph is the blank node
abbrev graph_cell : ℕ → Option (Option Term) → Bool
graph_cell n None = false
graph_cell n (Some g) = cell_is_blank n g

graph_at : (n : ℕ) (o : Option Term) → graph_cell n (option_map Some o) ≡ true → cell_is_blank n o ≡ true
graph_at n None h = h
graph_at n (Some t) h = h

graph_from : (n blanks first : ℕ) (m : Solution) (g : Option Slot) → graph_cell n (graph_term blanks first m g) ≡ true → From (binds_blank n m) (graph_is_blank n g) first blanks n
graph_from n blanks first m None h = let f : false ≡ true = h in cc
graph_from n blanks first m (Some s) h = slot_from n blanks first m s (graph_at n (slot_term blanks first m s) h)

or_false : (b : Bool) → (b || false) ≡ b
or_false true = refl
or_false false = refl

lawful_at : (n : ℕ) (b : Bool) (q : Statement) → list_any (quad_has_blank n) (if b then q ∷ [] else []) ≡ true → quad_has_blank n q ≡ true
lawful_at n true q h = sym (or_false (quad_has_blank n q)) ∙ h
lawful_at n false q h = let f : false ≡ true = h in cc

-- in the graph, the subject or the object
places : (n : ℕ) (g : Option (Option Term)) (s p o : Option Term) → list_any (quad_has_blank n) (quad_of g s p o) ≡ true → (graph_cell n g || (cell_is_blank n s || cell_is_blank n o)) ≡ true
places n None s p o h = let f : false ≡ true = h in cc
places n (Some g) None p o h = let f : false ≡ true = h in cc
places n (Some g) (Some s) None o h = let f : false ≡ true = h in cc
places n (Some g) (Some s) (Some p) None h = let f : false ≡ true = h in cc
places n (Some g) (Some s) (Some p) (Some o) h = lawful_at n (fits_places g s p) _ h

module _ (n blanks first : ℕ) (m : Solution) where
  instance_from : (q : QuadTemplate) → list_any (quad_has_blank n) (instance blanks first m q) ≡ true → From (binds_blank n m) (template_quad_has_blank n q) first blanks n
  instance_from q h =
      let g = graph_is_blank n q.graph in
      let s = slot_is_blank n q.subject in
      let o = slot_is_blank n q.object in
      let found = places n (graph_term blanks first m q.graph) (slot_term blanks first m q.subject) (slot_term blanks first m q.predicate) (slot_term blanks first m q.object) h in
      elim (or_cases (graph_cell n (graph_term blanks first m q.graph)) (cell_is_blank n (slot_term blanks first m q.subject) || cell_is_blank n (slot_term blanks first m q.object)) found) [
        | inl e ↦ from_first (binds_blank n m) g (s || o) first blanks n (graph_from n blanks first m q.graph e)
        | inr e ↦ from_second (binds_blank n m) g (s || o) first blanks n
            (elim (or_cases (cell_is_blank n (slot_term blanks first m q.subject)) (cell_is_blank n (slot_term blanks first m q.object)) e) [
              | inl f ↦ from_first (binds_blank n m) s o first blanks n (slot_from n blanks first m q.subject f)
              | inr f ↦ from_second (binds_blank n m) s o first blanks n (slot_from n blanks first m q.object f)
            ])
      ]

  instances_from : (qs : List QuadTemplate) → list_any (quad_has_blank n) (flat_map (instance blanks first m) qs) ≡ true → From (binds_blank n m) (list_any (template_quad_has_blank n) qs) first blanks n
  instances_from [] h = let f : false ≡ true = h in cc
  instances_from (q ∷ qs) h =
      let both = sym (list_any-append (quad_has_blank n) (instance blanks first m q) (flat_map (instance blanks first m) qs)) ∙ h in
      elim (or_cases (list_any (quad_has_blank n) (instance blanks first m q)) (list_any (quad_has_blank n) (flat_map (instance blanks first m) qs)) both) [
        | inl e ↦ from_first (binds_blank n m) (template_quad_has_blank n q) (list_any (template_quad_has_blank n) qs) first blanks n (instance_from q e)
        | inr e ↦ from_second (binds_blank n m) (template_quad_has_blank n q) (list_any (template_quad_has_blank n) qs) first blanks n (instances_from qs e)
      ]

pub of_block : (t : Template) (first : ℕ) (m : Solution) (n : ℕ) → list_any (quad_has_blank n) (instances_under t first m) ≡ true → (binds_blank n m ≡ true) ⊎ ((names_blank n t ≡ true) ⊎ IsOfBlock t first n)
of_block t first m n h = instances_from n t.blanks first m t.quads h

-- ---- over all solutions

abbrev All : Template → ℕ → List Solution → ℕ → Type 0
All t next rows n = (list_any (binds_blank n) rows ≡ true) ⊎ ((names_blank n t ≡ true) ⊎ ((next ≤ n) × (n < next_after t next (length rows))))

here : (t : Template) (next : ℕ) (m : Solution) (ms : List Solution) (n : ℕ) → (binds_blank n m ≡ true) ⊎ ((names_blank n t ≡ true) ⊎ IsOfBlock t next n) → All t next (m ∷ ms) n
here t next m ms n (inl h) = inl (or_first (binds_blank n m) (list_any (binds_blank n) ms) h)
here t next m ms n (inr (inl h)) = inr (inl h)
here t next m ms n (inr (inr h)) = let a : next ≤ n = h.0 in let b : n < next + t.blanks = h.1 in inr (inr (omega arith, omega arith))

later : (t : Template) (next : ℕ) (m : Solution) (ms : List Solution) (n : ℕ) → All t (next + t.blanks) ms n → All t next (m ∷ ms) n
later t next m ms n (inl h) = inl (or_second (binds_blank n m) (list_any (binds_blank n) ms) h)
later t next m ms n (inr (inl h)) = inr (inl h)
later t next m ms n (inr (inr h)) =
    let a : next + t.blanks ≤ n = h.0 in let b : n < (next + t.blanks) + t.blanks * length ms = h.1 in inr (inr (omega arith, omega arith))

pub of_all : (t : Template) (next : ℕ) (rows : List Solution) (n : ℕ) → list_any (quad_has_blank n) (instances t next rows) ≡ true → All t next rows n
of_all t next [] n h = let f : false ≡ true = h in cc
of_all t next (m ∷ ms) n h =
    let both = sym (list_any-append (quad_has_blank n) (instances_under t next m) (instances t (next + t.blanks) ms)) ∙ h in
    elim (or_cases (list_any (quad_has_blank n) (instances_under t next m)) (list_any (quad_has_blank n) (instances t (next + t.blanks) ms)) both) [
      | inl e ↦ here t next m ms n (of_block t next m n e)
      | inr e ↦ later t next m ms n (of_all t (next + t.blanks) ms n e)
    ]

-- ---- numbers that no quad has

left_true : (a b : Bool) → (a && b) ≡ true → a ≡ true
left_true true b h = refl
left_true false b h = h

right_true : (a b : Bool) → (a && b) ≡ true → b ≡ true
right_true true b h = h
right_true false b h = let f : false ≡ true = h in cc

not_equal : (n k : ℕ) (b : Bool) → nat_eq n k ≡ b → k < n → b ≡ false
not_equal n k true e h = let is : n ≡ k = (Decides-eqb n k).0 e in absurd (omega arith)
not_equal n k false e h = refl

module _ (next n : ℕ) (past : next ≤ n) where
  term_unused : (t : Term) → is_term_below next t ≡ true → is_blank n t ≡ false
  term_unused (Iri i) h = refl
  term_unused (Blank k) h = let lt : k < next = ltb-true k next h in not_equal n k (nat_eq n k) refl (omega arith)
  term_unused (Literal l) h = refl

  graph_unused : (g : Option Term) → is_graph_below next g ≡ true → cell_is_blank n g ≡ false
  graph_unused None h = refl
  graph_unused (Some t) h = term_unused t h

  quad_unused : (q : Statement) → is_statement_below next q ≡ true → quad_has_blank n q ≡ false
  quad_unused q h =
      let g = graph_unused q.graph (left_true (is_graph_below next q.graph) (is_term_below next q.subject && is_term_below next q.object) h) in
      let ends = right_true (is_graph_below next q.graph) (is_term_below next q.subject && is_term_below next q.object) h in
      let s = term_unused q.subject (left_true (is_term_below next q.subject) (is_term_below next q.object) ends) in
      let o = term_unused q.object (right_true (is_term_below next q.subject) (is_term_below next q.object) ends) in
      rw (g, s, o) refl

  quads_unused : (qs : List Statement) → is_above_blanks next qs ≡ true → list_any (quad_has_blank n) qs ≡ false
  quads_unused [] h = refl
  quads_unused (q ∷ qs) h =
      let first = quad_unused q (left_true (is_statement_below next q) (is_above_blanks next qs) h) in
      let more = quads_unused qs (right_true (is_statement_below next q) (is_above_blanks next qs) h) in
      rw (first, more) refl

pub unused : (quads : List Statement) (next n : ℕ) → is_above_blanks next quads ≡ true → next ≤ n → list_any (quad_has_blank n) quads ≡ false
unused quads next n h past = quads_unused next n past quads h
