-- The order of lent cells tells solutions apart.
use Rattle.std.proofs.Common.{◌≡◌, ◌&&◌, List, [], ◌∷◌, map, Option, Some, None, is_eq, refl, ◌∙◌}
use Rattle.std.specs.Prelude.{Vec}
use Rattle.std.specs.Borrow.{Bor}
use Rattle.std.specs.Cmp.Lexicographic.{slice_cmp}
use Rattle.std.specs.Option.{option_copied, option_cmp}
use Rattle.std.specs.Ordering.{ordering_then}
use Rattle.std.specs.declared.cmp.Ordering.{Ordering}
use Rattle.std.specs.declared.cmp.Ordering.TheVariants.{Less, Equal, Greater}
use Rattle.qs_terms.specs.declared.term.Term.{Term}
use Rattle.qs_algebra_solutions.specs.Solution.{Solution, same_solution}
use Rattle.qs_algebra_solutions.specs.inner.Solution.{same_cell}
use Rattle.qs_algebra_solutions.proofs.TermOrder.{cmp, tells}

-- the order of lent terms
abbrev pub order_of_terms : Bor Term → Bor Term → Ordering
order_of_terms x y = cmp x.now y.now

abbrev pub order_of_cells : Option (Bor Term) → Option (Bor Term) → Ordering
order_of_cells = option_cmp order_of_terms

cell_tells : (a b : Option (Bor Term)) → is_eq (order_of_cells a b) ≡ same_cell (option_copied a) (option_copied b)
cell_tells None None = refl
cell_tells None (Some y) = refl
cell_tells (Some x) None = refl
cell_tells (Some x) (Some y) = tells x.now y.now

then_eq : (o p : Ordering) → is_eq (ordering_then o p) ≡ (is_eq o && is_eq p)
then_eq Less p = refl
then_eq Equal p = refl
then_eq Greater p = refl

-- the solution that lent cells are
abbrev pub copied : List (Option (Bor Term)) → Solution
copied cells = map option_copied cells

pub cells_tell : (a b : List (Option (Bor Term))) → is_eq (slice_cmp order_of_cells a b) ≡ same_solution (copied a) (copied b)
cells_tell [] [] = refl
cells_tell [] (y ∷ b) = refl
cells_tell (x ∷ a) [] = refl
cells_tell (x ∷ a) (y ∷ b) = then_eq (order_of_cells x y) (slice_cmp order_of_cells a b) ∙ rw (cell_tells x y, cells_tell a b) refl

-- the same of lists that are kept
module _ {Z : Type 0} where
  abbrev pub read : Vec (Option (Bor Term)) Z → Solution
  read v = copied v.items

  abbrev pub order : Vec (Option (Bor Term)) Z → Vec (Option (Bor Term)) Z → Ordering
  order v w = slice_cmp order_of_cells v.items w.items

  pub reads : (v w : Vec (Option (Bor Term)) Z) → is_eq (order v w) ≡ same_solution (read v) (read w)
  reads v w = cells_tell v.items w.items
