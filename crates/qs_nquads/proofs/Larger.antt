-- What is below a number is below each larger one.
use Rattle.std.proofs.Common.{◌≡◌, ◌≤◌, ℕ, true, ◌&&◌, List, [], ◌∷◌, ◌++◌, Option, Some, None, refl, arith, ltb-true, lt-ltb}
use Rattle.std.proofs.lemmas.Bool.{and_from, and_parts}
use Rattle.qs_terms.specs.Dataset.{is_term_below, is_statement_below, is_above_blanks}
use Rattle.qs_terms.specs.inner.Dataset.{is_graph_below}
use Rattle.qs_terms.specs.Statement.{Statement}
use Rattle.qs_terms.specs.declared.term.Term.{Term}
use Rattle.qs_terms.specs.declared.term.Term.TheVariants as term

module _ (m n : ℕ) (le : m ≤ n) where
  pub larger_than_term : (t : Term) → is_term_below m t ≡ true → is_term_below n t ≡ true
  larger_than_term (term.Iri i) h = refl
  larger_than_term (term.Blank k) h = lt-ltb k n (omega (arith, le, ltb-true k m h))
  larger_than_term (term.Literal l) h = refl

  larger_than_graph : (g : Option Term) → is_graph_below m g ≡ true → is_graph_below n g ≡ true
  larger_than_graph None h = refl
  larger_than_graph (Some name) h = larger_than_term name h

  larger_than_statement : (q : Statement) → is_statement_below m q ≡ true → is_statement_below n q ≡ true
  larger_than_statement q h =
      let graph = and_parts (is_graph_below m q.graph) (is_term_below m q.subject && is_term_below m q.object) h in
      let ends = and_parts (is_term_below m q.subject) (is_term_below m q.object) graph.1 in
      and_from _ _ (larger_than_graph q.graph graph.0) (and_from _ _ (larger_than_term q.subject ends.0) (larger_than_term q.object ends.1))

  pub larger_than_quads : (quads : List Statement) → is_above_blanks m quads ≡ true → is_above_blanks n quads ≡ true
  larger_than_quads [] h = refl
  larger_than_quads (q ∷ quads) h =
      let parts = and_parts (is_statement_below m q) (is_above_blanks m quads) h in
      and_from _ _ (larger_than_statement q parts.0) (larger_than_quads quads parts.1)

pub above_one_more : (n : ℕ) (quads : List Statement) (q : Statement) → is_above_blanks n quads ≡ true → is_statement_below n q ≡ true → is_above_blanks n (quads ++ q ∷ []) ≡ true
above_one_more n [] q h k = and_from _ _ k refl
above_one_more n (p ∷ quads) q h k =
    let parts = and_parts (is_statement_below n p) (is_above_blanks n quads) h in
    and_from _ _ parts.0 (above_one_more n quads q parts.1 k)
