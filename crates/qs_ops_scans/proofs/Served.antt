-- The pairs that serve a row make of it what all pairs make.
use Rattle.std.proofs.Common.{◌≡◌, ℕ, Bool, true, false, ◌&&◌, cond, Option, Some, None, List, [], ◌∷◌, ◌++◌, drop, take, refl, sym, ◌∙◌, ap, subst}
use Rattle.std.specs.Prelude.{option_to_list}
use Rattle.std.specs.List.{filter, filter_map, flat_map}
use Rattle.std.proofs.lemmas.List.Sorted.{IsPermutation-refl, IsPermutation-trans}
use Rattle.std.proofs.lemmas.Option.{same_Some}
use Rattle.qs_terms.specs.Bag.{SameBag}
use Rattle.qs_terms.specs.Term.{same_term}
use Rattle.qs_terms.specs.declared.term.Term.{Term}
use Rattle.qs_paths_meaning.specs.Pair.{Pair}
use Rattle.qs_paths_meaning.specs.Steps.{agrees, is_between}
use Rattle.qs_algebra_solutions.specs.Solution.{Solution, term_at}
use Rattle.qs_algebra_patterns.specs.Basic.{Graph}
use Rattle.qs_algebra_patterns.specs.declared.pattern.Slot.{Slot}
use Rattle.qs_algebra_patterns.specs.declared.pattern.Slot.TheVariants as slot
use Rattle.qs_algebra_patterns.specs.declared.pattern.PathPattern.{PathPattern}
use Rattle.qs_expr.specs.declared.cell.Cell.{Cell}
use Rattle.qs_expr.specs.inner.Cell.{Cells, denoted_if, row_solution, FitsRow}
use Rattle.qs_expr.specs.inner.Scratch.{IsTable}
use Rattle.qs_expr.proofs.RowTerms.{term_at_row}
use Rattle.qs_plan_meaning.specs.inner.Scans.{bound_end, bound_ends, path_extensions, path_pairs, then_bound}
use Rattle.qs_ops_scans.specs.inner.Makes.{AreMade}
use Rattle.qs_ops_scans.specs.inner.Paths.{row_end, row_ends, Serve}
use Rattle.qs_ops_scans.specs.declared.ends.Ends.{Ends}
use Rattle.qs_ops_scans.specs.declared.ends.EndActs.{EndActs}
use Rattle.qs_ops_scans.specs.declared.kept.Span.{Span}
use Rattle.qs_ops_scans.specs.inner.Ends.{act_made, end_acts, ends_of, pair_made}
use Rattle.qs_ops_scans.specs.inner.Sides.{IsSpan}
use Rattle.qs_ops_scans.proofs.May.{at_none, kept_at}
use Rattle.qs_ops_scans.proofs.Pairs.{all_made_are, list_made}
use Rattle.qs_ops_scans.proofs.Scanned.{flat_map_same}

-- ---- pairs with other ends make nothing

-- the term that a solution has for the variable at an end
abbrev end_term : Slot → Solution → Option Term
end_term (slot.Term t) m = None
end_term (slot.Variable v) m = term_at m v

end_term_is : (known table : List Term) (s : Slot) (m : Cells) → denoted_if known table (row_end s m) ≡ end_term s (row_solution known table m)
end_term_is known table (slot.Term t) m = refl
end_term_is known table (slot.Variable v) m = sym (term_at_row known table m v)

disagrees : (o : Option Term) (t : Term) → agrees o t ≡ false → (x : Term) × ((o ≡ Some x) × (same_term x t ≡ false))
disagrees None t h = absurd (let f : true ≡ false = h in cc)
disagrees (Some x) t h = (x, (refl, h))

-- an end that disagrees
no_end : (s : Slot) (t : Term) (m : Solution) → agrees (end_term s m) t ≡ false → bound_end s t m ≡ None
no_end (slot.Term c) t m h = absurd (let f : true ≡ false = h in cc)
no_end (slot.Variable v) t m h = at_none (term_at m v) v t m (let w = disagrees (term_at m v) t h in rw w.1.0 w.1.1)

-- a binding stays
end_kept : (s : Slot) (t : Term) (m a : Solution) (w : ℕ) (x : Term) → bound_end s t m ≡ Some a → term_at m w ≡ Some x → term_at a w ≡ Some x
end_kept (slot.Term c) t m a w x h is = subst (λ (r : Solution). term_at r w ≡ Some x) (same_Some m a h) is
end_kept (slot.Variable v) t m a w x h is = kept_at (term_at m v) v t m a w x refl h is

still_disagrees : (s r : Slot) (t u : Term) (m a : Solution) → bound_end s t m ≡ Some a → agrees (end_term r m) u ≡ false → agrees (end_term r a) u ≡ false
still_disagrees s (slot.Term c) t u m a e h = h
still_disagrees s (slot.Variable w) t u m a e h =
    let k = disagrees (term_at m w) u h in
    ap (λ o. agrees o u) (end_kept s t m a w k.0 e k.1.0) ∙ k.1.1

module _ (p : PathPattern) (m : Solution) where
  abbrev meets : Pair → Bool
  meets = is_between (end_term p.subject m) (end_term p.object m)

  abbrev made : Pair → List Solution
  made e = option_to_list (bound_ends p e m)

  none_after : (e : Pair) (o : Option Solution) → bound_end p.subject e.left m ≡ o → agrees (end_term p.object m) e.right ≡ false → then_bound o (λ a. bound_end p.object e.right a) ≡ None
  none_after e None is h = refl
  none_after e (Some a) is h = no_end p.object e.right a (still_disagrees p.subject p.object e.left e.right m a is h)

  none_of : (e : Pair) (b : Bool) → agrees (end_term p.subject m) e.left ≡ b → (b && agrees (end_term p.object m) e.right) ≡ false → bound_ends p e m ≡ None
  none_of e false is h = ap (λ o. then_bound o (λ a. bound_end p.object e.right a)) (no_end p.subject e.left m is)
  none_of e true is h = none_after e (bound_end p.subject e.left m) refl h

  none_made : (e : Pair) → meets e ≡ false → made e ≡ []
  none_made e h = ap option_to_list (none_of e (agrees (end_term p.subject m) e.left) refl h)

  meeting_made : (es : List Pair) → flat_map made (filter meets es) ≡ flat_map made es
  meeting_made [] = refl
  meeting_made (e ∷ es) = by (meets e) refl (meeting_made es)
    where
      by : (b : Bool) → meets e ≡ b → flat_map made (filter meets es) ≡ flat_map made es → flat_map made (cond b (e ∷ filter meets es) (filter meets es)) ≡ made e ++ flat_map made es
      by true is i = ap (λ l. made e ++ l) i
      by false is i = i ∙ sym (ap (λ l. l ++ flat_map made es) (none_made e is))

  same_made : (es fs : List Pair) → SameBag (filter meets es) (filter meets fs) → SameBag (flat_map made es) (flat_map made fs)
  same_made es fs h =
      subst (λ (l : List Solution). SameBag (flat_map made es) l) (meeting_made fs)
      (subst (λ (l : List Solution). SameBag l (flat_map made (filter meets fs))) (meeting_made es)
      (flat_map_same made made (filter meets es) (filter meets fs) h (λ e. IsPermutation-refl _)))

-- ---- rows

module _ (known table : List Term) (is_table : IsTable known table) (p : PathPattern) (m : Cells) (f : FitsRow known table m) (cells : List (Cell × Cell)) (graph : Graph) where
  pub served_made : Serve known table p graph (row_ends p m) cells → AreMade known table (path_extensions p graph) m (filter_map (pair_made (ends_of p) m) cells)
  served_made h =
      let x : Solution = row_solution known table m in
      let w = list_made known table is_table p m f cells h.pairs h.are in
      let k : SameBag (filter (meets p x) h.pairs) (filter (meets p x) (path_pairs p graph)) =
      subst (λ (o : Option Term). SameBag (filter (is_between (end_term p.subject x) o) h.pairs) (filter (is_between (end_term p.subject x) o) (path_pairs p graph))) (end_term_is known table p.object m)
      (subst (λ (o : Option Term). SameBag (filter (is_between o (denoted_if known table (row_end p.object m))) h.pairs) (filter (is_between o (denoted_if known table (row_end p.object m))) (path_pairs p graph))) (end_term_is known table p.subject m) h.same) in
      record {
        same = IsPermutation-trans _ _ _ w.same (same_made p x h.pairs (path_pairs p graph) k);
        fit = w.fit;
      }

  pub served_rows : (ends : Ends) (acts : EndActs) (span : Span) → ends ≡ ends_of p → acts ≡ end_acts m ends → IsSpan ends m cells span → Serve known table p graph (row_ends p m) cells
      → AreMade known table (path_extensions p graph) m (filter_map (act_made acts m) (drop span.from (take span.to cells)))
  served_rows ends acts span e a h k =
      subst (λ (rows : List Cells). AreMade known table (path_extensions p graph) m rows) (sym (ap (λ z. filter_map (act_made z m) (drop span.from (take span.to cells))) a ∙ (all_made_are ends m (drop span.from (take span.to cells)) ∙ h)))
      (subst (λ (z : Ends). AreMade known table (path_extensions p graph) m (filter_map (pair_made z m) cells)) (sym e) (served_made k))
