-- A row that binds the variable that the names of graphs are merged with: it goes on once, with that name in the register, if a graph has it.
use Rattle.std.proofs.Common.{◌≡◌, ℕ, ◌<◌, ◌≤◌, Bool, true, false, if◌then◌else◌, List, [], ◌∷◌, ◌++◌, length, map, Option, Some, None, slice_set, option_to_list, refl, sym, ◌∙◌, ap, subst, arith}
use Rattle.std.proofs.lemmas.List.{get_or-set_other, get_or-set_same, length-set}
use Rattle.std.proofs.lemmas.List.Sorted.{IsPermutation-refl}
use Rattle.std.specs.List.{filter_map, flat_map, list_any}
use Rattle.qs_terms.specs.Bag.{Distinct, SameBag}
use Rattle.qs_terms.specs.Dataset.{names_of}
use Rattle.qs_terms.specs.Statement.{Statement}
use Rattle.qs_terms.specs.Term.{same_term}
use Rattle.qs_terms.specs.declared.term.Term.{Term}
use Rattle.qs_terms.proofs.FirstOnes.{once_distinct}
use Rattle.qs_terms.proofs.SameTerm.{same_term-Decides}
use Rattle.qs_algebra_solutions.specs.Solution.{Solution, term_at, binding, compatible_terms}
use Rattle.qs_algebra_solutions.specs.inner.Solution.{first_bound}
use Rattle.qs_algebra_solutions.specs.Operators.{merges}
use Rattle.qs_expr.specs.declared.cell.Cell.{Cell}
use Rattle.qs_expr.specs.inner.Cell.{Cells, cell_at, denoted, denoted_if, row_solution}
use Rattle.qs_expr.proofs.Finding.{term_there}
use Rattle.qs_expr.proofs.Rows.{bound_fits, bound_terms}
use Rattle.qs_ops_scans.specs.inner.Each.{NamesGraph}
use Rattle.qs_ops_scans.specs.inner.Makes.{AreMade, Makes}
use Rattle.qs_ops_scans.proofs.OneName.{merges_named}
use Rattle.qs_ops_walk.specs.inner.Setting.{Setting, known_of}
use Rattle.qs_ops_walk.specs.inner.After.{each_merged, named_if}
use Rattle.qs_ops_walk.proofs.Names.{set_own}
use Rattle.qs_ops_walk.proofs.Passes.{cell_term, row_length}

module _ (width v r : ℕ) (named : v < width) (wide : width ≤ r) (x : Solution) (cell : r < length x) (t : Term) (is : term_at x v ≡ Some t) where
  other : v ≡ r → ⊥
  other e = absurd (omega (arith, e, named, wide))

  abbrev with_name : Term → Solution
  with_name name = slice_set x r (Some name)

  abbrev merged : Solution → List Solution
  merged n = merges (binding width (v ∷ []) (term_at n r ∷ []) ∷ []) n

  -- the row with a name, merged with it
  one_name : (name : Term) → merged (with_name name) ≡ (if same_term t name then with_name name ∷ [] else [])
  one_name name =
      let n : Solution = with_name name in
      let a : term_at n v ≡ Some t = get_or-set_other x r v (Some name) None other ∙ is in
      let b : term_at n r ≡ Some name = get_or-set_same x r (Some name) None cell in
      let long : width ≤ length n = (let e : length n ≡ length x = length-set x r (Some name) in omega (arith, e, cell, wide)) in
      let k : slice_set n v (first_bound (term_at n v) (term_at n r)) ≡ n = ap (λ (y : Option Term). slice_set n v (first_bound y (term_at n r))) a ∙ (ap (slice_set n v) (sym a) ∙ set_own n v) in
      merges_named n width v (term_at n r) (same_term t name) named long (ap (λ (y : Option Term). compatible_terms y (term_at n r)) a ∙ ap (compatible_terms (Some t)) b)
      ∙ ap (λ (u : Solution). if same_term t name then u ∷ [] else []) k

  all_names : (names : List Term) → Distinct same_term names → flat_map merged (map with_name names) ≡ (if list_any (same_term t) names then with_name t ∷ [] else [])
  all_names [] d = refl
  all_names (name ∷ names) d = ap (λ l. l ++ flat_map merged (map with_name names)) (one_name name) ∙ at (same_term t name) refl (all_names names d.1)
    where
      at : (b : Bool) → same_term t name ≡ b → flat_map merged (map with_name names) ≡ (if list_any (same_term t) names then with_name t ∷ [] else [])
          → (if b then with_name name ∷ [] else []) ++ flat_map merged (map with_name names) ≡ (if list_any (same_term t) (name ∷ names) then with_name t ∷ [] else [])
      at false e h = rw e h
      at true e h =
          let f : t ≡ name = (same_term-Decides t name).0 e in
          let g : list_any (same_term t) names ≡ false = subst (λ (y : Term). list_any (same_term y) names ≡ false) (sym f) d.0 in
          let i : flat_map merged (map with_name names) ≡ [] = h ∙ ap (λ (c : Bool). if c then with_name t ∷ [] else []) g in
          let j : with_name name ∷ flat_map merged (map with_name names) ≡ with_name t ∷ [] = ap (λ (l : List Solution). with_name name ∷ l) i ∙ ap (λ (y : Term). with_name y ∷ []) (sym f) in
          rw e j

  merged_is : (quads : List Statement) → each_merged quads width v r x ≡ (if list_any (same_term t) (names_of quads) then with_name t ∷ [] else [])
  merged_is quads = all_names (names_of quads) (once_distinct same_term same_term-Decides (filter_map (λ q. q.graph) quads))

-- the row goes on with the cell in the register, if that names a graph
pub given_name : (s : Setting) (v r : ℕ) (m : Cells) (c : Cell) (b : Bool) → v < s.width → s.width ≤ r → r < length m → cell_at m v ≡ Some c → NamesGraph s.content c b
    → Makes (known_of s) (each_merged s.content.quads s.width v r) m (option_to_list (named_if b r c m))
given_name s v r m c b named wide cell is tells table t h =
    let x : Solution = row_solution (known_of s) table m in
    let name = term_there (denoted (known_of s) table c) (h.each v c is) in
    let a : term_at x v ≡ Some name.0 = cell_term (known_of s) table m v ∙ (ap (denoted_if (known_of s) table) is ∙ name.1) in
    let e : b ≡ list_any (same_term name.0) (names_of s.content.quads) = tells table name.0 t name.1 in
    let long : r < length x = subst (λ (n : ℕ). r < n) (sym (row_length (known_of s) table m)) cell in
    let f : each_merged s.content.quads s.width v r x ≡ (if b then slice_set x r (Some name.0) ∷ [] else []) =
    merged_is s.width v r named wide x long name.0 a s.content.quads ∙ ap (λ (k : Bool). if k then slice_set x r (Some name.0) ∷ [] else []) (sym e) in
    at b f
  where
    at : (b : Bool) → each_merged s.content.quads s.width v r (row_solution (known_of s) table m) ≡ (if b then slice_set (row_solution (known_of s) table m) r (Some (term_there (denoted (known_of s) table c) (h.each v c is)).0) ∷ [] else [])
        → AreMade (known_of s) table (each_merged s.content.quads s.width v r) m (option_to_list (named_if b r c m))
    at false f = record { same = subst (λ (xs : List Solution). SameBag [] xs) (sym f) (IsPermutation-refl []); fit = tt }
    at true f =
        let name = term_there (denoted (known_of s) table c) (h.each v c is) in
        let g : row_solution (known_of s) table (slice_set m r (Some c)) ≡ slice_set (row_solution (known_of s) table m) r (Some name.0) = bound_terms (known_of s) table m r c ∙ ap (slice_set (row_solution (known_of s) table m) r) name.1 in
        record {
          same = subst (λ (xs : List Solution). SameBag (row_solution (known_of s) table (slice_set m r (Some c)) ∷ []) xs) (ap (λ (u : Solution). u ∷ []) g ∙ sym f) (IsPermutation-refl _);
          fit = (bound_fits (known_of s) table m r c h (h.each v c is), tt);
        }
