-- A term that isn't a node of the graph is at neither of two open ends of a path; at an open left end it is only where it is the right end.
use Rattle.std.proofs.Common.{◌≡◌, ◌≢◌, Bool, true, false, cond, inl, inr, List, [], ◌∷◌, map, Option, Some, None, refl, sym, ◌∙◌, ap}
use Rattle.std.specs.List.{filter, list_any}
use Rattle.qs_terms.specs.declared.term.Term.{Term}
use Rattle.qs_terms.specs.Dataset.{nodes_of}
use Rattle.qs_terms.specs.Term.{same_term}
use Rattle.qs_terms.proofs.SameTerm.{same_term-Decides}
use Rattle.qs_syntax_ast.specs.declared.path.Path.{Path}
use Rattle.qs_paths_meaning.specs.Pair.{Pair, pair}
use Rattle.qs_paths_meaning.specs.Pairs.{pairs}
use Rattle.qs_paths_meaning.specs.Steps.{Graph}
use Rattle.qs_paths_meaning.specs.inner.Found.{into_pair}
use Rattle.qs_paths_meaning.specs.inner.Steps.{from_pair}
use Rattle.qs_paths_meaning.proofs.Members.{Mem, mem_at, mem_in, not_both}
use Rattle.qs_paths_meaning.proofs.Near.{Node, tied}
use Rattle.qs_paths_meaning.proofs.Steady.{steady}

none_pass : (q : Pair → Bool) (es : List Pair) → ((e : Pair) → Mem e es → q e ≡ true → ⊥) → filter q es ≡ []
none_pass q [] h = refl
none_pass q (e ∷ es) h = by (q e) refl (none_pass q es (λ d m. h d (inr m)))
  where
    by : (b : Bool) → q e ≡ b → filter q es ≡ [] → cond b (e ∷ filter q es) (filter q es) ≡ []
    by true t k = absurd (h e (inl refl) t)
    by false t k = k

module _ (graph : Graph) (p : Path) where
  abbrev IsOut : Term → Type 0
  IsOut x = list_any (same_term x) (nodes_of graph) ≡ false

  no_node : (x : Term) → IsOut x → Node graph x → ⊥
  no_node x out n = not_both (list_any (same_term x) (nodes_of graph)) (mem_in same_term same_term-Decides x (nodes_of graph) n) out

  begins_apart : (right : Option Term) (x : Term) → IsOut x → right ≢ Some x → (e : Pair) → Mem e (pairs graph p None right) → x ≡ e.left → ⊥
  begins_apart None x out other e m is = no_node x out (mem_at e.left x (nodes_of graph) (sym is) ((steady graph p).within e m).0)
  begins_apart (Some y) x out other e m is =
      let b = tied graph p None (Some y) e m in
      elim b.near [
        | inl k ↦ other (ap Some ((same_term-Decides y e.right).0 b.at_right ∙ (sym k ∙ sym is)))
        | inr k ↦ no_node x out (mem_at e.left x (nodes_of graph) (sym is) k.0)
      ]

  -- no pair leads a row on
  pub none_from : (right : Option Term) (row : Pair) → IsOut row.right → right ≢ Some row.right → from_pair (pairs graph p None right) row ≡ []
  none_from right row out other =
      ap (map (λ (f : Pair). pair row.left f.right))
      (none_pass (λ (f : Pair). same_term row.right f.left) (pairs graph p None right) (λ e m t. begins_apart right row.right out other e m ((same_term-Decides row.right e.left).0 t)))

  -- no pair leads to a row
  pub none_into : (row : Pair) → IsOut row.left → into_pair (pairs graph p None None) row ≡ []
  none_into row out =
      ap (map (λ (f : Pair). pair f.left row.right))
      (none_pass (λ (f : Pair). same_term f.right row.left) (pairs graph p None None) (λ e m t.
      no_node row.left out (mem_at e.right row.left (nodes_of graph) ((same_term-Decides e.right row.left).0 t) ((steady graph p).within e m).1)))
