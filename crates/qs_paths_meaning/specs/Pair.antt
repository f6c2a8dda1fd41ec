-- Pairs of terms: the two ends of what a path leads along (SPARQL 1.1 Query, 9 and 18.4).
use Rattle.qs_terms.specs.declared.term.Term.{Term}

pub record Pair : Type 0 where
  pub left : Term
  pub right : Term

abbrev pub pair : Term → Term → Pair
pair x y = record { left = x; right = y }

abbrev pub swapped : Pair → Pair
swapped e = pair e.right e.left
