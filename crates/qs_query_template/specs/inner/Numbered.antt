-- Blank nodes found by their labels and by their places.
use Rattle.std.specs.Prelude.{◌≡◌, ℕ, List, Option}
use Rattle.std.specs.Borrow.{Bor}
use Rattle.std.specs.Cmp.Lexicographic.{slice_cmp}
use Rattle.std.specs.Ordering.{nat_cmp}
use Rattle.std.specs.declared.cmp.Ordering.{Ordering}
use Rattle.qs_syntax_ast.specs.declared.term.BlankNode.{BlankNode}
use Rattle.qs_syntax_ast.specs.declared.term.BlankNode.TheVariants.{Label, Anonymous}
use Rattle.qs_syntax_scope.specs.Names.{Name}
use Rattle.qs_query_template.specs.Blanks.{number_in}

-- the order of lent labels
abbrev pub by_text : Bor Name → Bor Name → Ordering
by_text a b = slice_cmp nat_cmp a.now b.now

-- the number of each blank node is found
pub record AreNumbered (nodes : List BlankNode) (labels : Bor Name → Option ℕ)
    (anonymous : ℕ → Option ℕ) : Type 0 where
  pub labelled : (label : Bor Name) → labels label ≡ number_in nodes (Label label.now)
  pub unlabelled : (place : ℕ) → anonymous place ≡ number_in nodes (Anonymous place)
