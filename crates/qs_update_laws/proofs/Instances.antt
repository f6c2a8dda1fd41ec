-- Numbers above those of all blank nodes of the quads that a template makes.
use Rattle.std.proofs.Common.{◌≡◌, ℕ, ◌≤◌, ◌<◌, ◌⊎◌, inl, inr, Bool, true, false, ◌||◌, ◌&&◌, nat_eq, nat_lt, List, [], ◌∷◌, length, Option, Some, None, refl, sym, ◌∙◌, arith}
use Rattle.std.specs.List.{All, AllByRecursion, list_any}
use Rattle.std.proofs.lemmas.Bool.{ltb-true, ltb-false}
use Rattle.std.proofs.lemmas.Bool.Decides.{Decides-eqb}
use Rattle.std.proofs.lemmas.List.Elements.{recursion_from_All}
use Rattle.qs_terms.specs.Dataset.{is_term_below, is_statement_below, is_above_blanks}
use Rattle.qs_terms.specs.inner.Dataset.{is_graph_below as is_cell_below}
use Rattle.qs_terms.specs.Statement.{Statement}
use Rattle.qs_terms.specs.declared.term.Term.{Term}
use Rattle.qs_terms.specs.declared.term.Term.TheVariants.{Iri, Blank, Literal}
use Rattle.qs_algebra_solutions.specs.Solution.{Solution}
use Rattle.qs_query_template.specs.inner.Fresh.{is_blank, cell_is_blank, quad_has_blank, binds_blank, names_blank}
use Rattle.qs_query_template.specs.Instances.{instances, next_after}
use Rattle.qs_query_template.specs.declared.template.Template.{Template}
use Rattle.qs_update_laws.specs.inner.Below.{is_solution_below}
use Rattle.qs_update_laws.proofs.Lists.{both_hold, and_both}

neither : (a b : Bool) → (a || b) ≡ false → (a ≡ false) × (b ≡ false)
neither true b h = let f : true ≡ false = h in cc
neither false b h = (refl, h)

never : (b : Bool) → (b ≡ true → ⊥) → b ≡ false
never true h = absurd (h refl)
never false h = refl

-- ---- where no blank node from the number on stands

module _ (next : ℕ) where
  lower : (k : ℕ) (b : Bool) → nat_lt k next ≡ b → (next ≤ k → nat_eq k k ≡ false) → b ≡ true
  lower k true e h = refl
  lower k false e h = let f : true ≡ false = sym ((Decides-eqb k k).1 refl) ∙ h (ltb-false k next e) in cc

  term_below : (t : Term) → ((n : ℕ) → next ≤ n → is_blank n t ≡ false) → is_term_below next t ≡ true
  term_below (Iri i) h = refl
  term_below (Blank k) h = lower k (nat_lt k next) refl (h k)
  term_below (Literal l) h = refl

  cell_below : (c : Option Term) → ((n : ℕ) → next ≤ n → cell_is_blank n c ≡ false) → is_cell_below next c ≡ true
  cell_below None h = refl
  cell_below (Some t) h = term_below t h

  quad_below : (q : Statement) → ((n : ℕ) → next ≤ n → quad_has_blank n q ≡ false) → is_statement_below next q ≡ true
  quad_below q h =
      let graph : (n : ℕ) → next ≤ n → cell_is_blank n q.graph ≡ false = λ n k. (neither (cell_is_blank n q.graph) (is_blank n q.subject || is_blank n q.object) (h n k)).0 in
      let ends : (n : ℕ) → next ≤ n → (is_blank n q.subject ≡ false) × (is_blank n q.object ≡ false) = λ n k.
      neither (is_blank n q.subject) (is_blank n q.object) (neither (cell_is_blank n q.graph) (is_blank n q.subject || is_blank n q.object) (h n k)).1 in
      and_both (is_cell_below next q.graph) (is_term_below next q.subject && is_term_below next q.object) (cell_below q.graph graph)
      (and_both (is_term_below next q.subject) (is_term_below next q.object) (term_below q.subject (λ n k. (ends n k).0)) (term_below q.object (λ n k. (ends n k).1)))

  above : (quads : List Statement) → ((n : ℕ) → next ≤ n → list_any (quad_has_blank n) quads ≡ false) → is_above_blanks next quads ≡ true
  above [] h = refl
  above (q ∷ quads) h =
      and_both (is_statement_below next q) (is_above_blanks next quads)
      (quad_below q (λ n k. (neither (quad_has_blank n q) (list_any (quad_has_blank n) quads) (h n k)).0))
      (above quads (λ n k. (neither (quad_has_blank n q) (list_any (quad_has_blank n) quads) (h n k)).1))

-- ---- solutions whose blank nodes are below it

module _ (next n : ℕ) (past : next ≤ n) where
  other_number : (k : ℕ) (b : Bool) → nat_eq n k ≡ b → k < next → b ≡ false
  other_number k true e h = let is : n ≡ k = (Decides-eqb n k).0 e in absurd (omega arith)
  other_number k false e h = refl

  cell_unused : (c : Option Term) → is_cell_below next c ≡ true → cell_is_blank n c ≡ false
  cell_unused None h = refl
  cell_unused (Some (Iri i)) h = refl
  cell_unused (Some (Blank k)) h = other_number k (nat_eq n k) refl (ltb-true k next h)
  cell_unused (Some (Literal l)) h = refl

  row_unused : (m : Solution) → is_solution_below next m ≡ true → binds_blank n m ≡ false
  row_unused [] h = refl
  row_unused (c ∷ m) h = let k = both_hold (is_cell_below next c) (is_solution_below next m) h in rw (cell_unused c k.0, row_unused m k.1) refl

  rows_unused : (rows : List Solution) → AllByRecursion (λ m. is_solution_below next m ≡ true) rows → list_any (binds_blank n) rows ≡ false
  rows_unused [] h = refl
  rows_unused (m ∷ rows) h = rw (row_unused m h.0, rows_unused rows h.1) refl

-- ---- the laws

-- where the blank nodes of instances come from
abbrev pub Origins : Type 0
Origins = (t : Template) (next : ℕ) (rows : List Solution) (n : ℕ) → list_any (quad_has_blank n) (instances t next rows) ≡ true
    → (list_any (binds_blank n) rows ≡ true) ⊎ ((names_blank n t ≡ true) ⊎ ((next ≤ n) × (n < next_after t next (length rows))))

none_past : (t : Template) (next : ℕ) (rows : List Solution) (n : ℕ) → next_after t next (length rows) ≤ n → AllByRecursion (λ m. is_solution_below next m ≡ true) rows → names_blank n t ≡ false
    → (list_any (binds_blank n) rows ≡ true) ⊎ ((names_blank n t ≡ true) ⊎ ((next ≤ n) × (n < next_after t next (length rows)))) → ⊥
none_past t next rows n past below named (inl h) =
    let f : true ≡ false = sym h ∙ rows_unused next n (omega arith) rows below in cc
none_past t next rows n past below named (inr (inl h)) = let f : true ≡ false = sym h ∙ named in cc
none_past t next rows n past below named (inr (inr h)) = omega (arith, past, h.1)

pub made_below : Origins → (t : Template) → ((n : ℕ) → names_blank n t ≡ false) → (next : ℕ) (rows : List Solution) → All (λ m. is_solution_below next m ≡ true) rows
    → is_above_blanks (next_after t next (length rows)) (instances t next rows) ≡ true
made_below origins t named next rows below =
    above (next_after t next (length rows)) (instances t next rows) (λ n past.
    never (list_any (quad_has_blank n) (instances t next rows)) (λ h. none_past t next rows n past (recursion_from_All (λ m. is_solution_below next m ≡ true) rows below) (named n) (origins t next rows n h)))

pub later_above : ((quads : List Statement) (next n : ℕ) → is_above_blanks next quads ≡ true → next ≤ n → list_any (quad_has_blank n) quads ≡ false)
    → (quads : List Statement) (next later : ℕ) → next ≤ later → is_above_blanks next quads ≡ true → is_above_blanks later quads ≡ true
later_above unused quads next later h k = above later quads (λ n past. unused quads next n k (omega (arith, h, past)))
