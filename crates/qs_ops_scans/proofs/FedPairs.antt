-- The pairs that are found for the cells that a row has at the ends serve such rows.
use Rattle.std.proofs.Common.{◌≡◌, inl, inr, Bool, false, List, [], Option, Some, None, sym, ◌∙◌, ap, subst}
use Rattle.std.specs.List.{filter, list_any}
use Rattle.std.proofs.lemmas.List.Sorted.{IsPermutation-refl}
use Rattle.std.proofs.lemmas.Option.{none-some}
use Rattle.qs_terms.specs.Bag.{SameBag}
use Rattle.qs_terms.specs.Dataset.{nodes_of}
use Rattle.qs_terms.specs.Term.{same_term}
use Rattle.qs_terms.specs.declared.term.Term.{Term}
use Rattle.qs_terms.proofs.SameTerm.{same_term-Decides}
use Rattle.qs_store.specs.Content.{Content}
use Rattle.qs_store.specs.declared.default_graph.DefaultGraph.{DefaultGraph}
use Rattle.qs_paths_meaning.specs.Pair.{Pair}
use Rattle.qs_paths_meaning.specs.inner.Pair.{same_pair}
use Rattle.qs_paths_meaning.specs.Pairs.{pairs}
use Rattle.qs_paths_meaning.specs.Steps.{is_between}
use Rattle.qs_paths_meaning.proofs.Arms.{filter_same_by, same_pair-Decides}
use Rattle.qs_paths_meaning.proofs.Members.{in_mem, mem_in, not_both}
use Rattle.qs_paths_meaning.proofs.Near.{Node}
use Rattle.qs_paths_meaning.proofs.Steady.{filters_swapped}
use Rattle.qs_algebra_patterns.specs.Basic.{end_of, fits, is_repeated, Graph}
use Rattle.qs_algebra_patterns.specs.declared.pattern.PathPattern.{PathPattern}
use Rattle.qs_expr.specs.declared.cell.Cell.{Cell}
use Rattle.qs_expr.specs.inner.Cell.{denoted, denoted_if, FitsIf}
use Rattle.qs_expr.specs.inner.Scratch.{Grows, IsTable}
use Rattle.qs_expr.proofs.Finding.{term_there}
use Rattle.qs_expr.proofs.Growth.{goes_on}
use Rattle.qs_paths.specs.inner.Coming.{IsToCome}
use Rattle.qs_paths.specs.declared.stream.Pairs.{Pairs}
use Rattle.qs_paths.specs.inner.Seen.{known_in}
use Rattle.qs_plan_meaning.specs.inner.Scans.{path_pairs}
use Rattle.qs_ops_scans.specs.inner.Paths.{ArePairs, Serve, ServeBetween}
use Rattle.qs_ops_scans.specs.declared.bound.RowEnds.{RowEnds}
use Rattle.qs_ops_scans.specs.inner.Given.{IsGiven, IsOutside}
use Rattle.qs_ops_scans.specs.inner.Kept.{AreCollected}
use Rattle.qs_ops_scans.proofs.Collected.{end_stays, pairs_stay}
use Rattle.qs_ops_scans.proofs.Feeding.{ends_given, none_at_left, none_at_right, IsEnd}

-- ---- by one table

module _ (known table : List Term) (one : IsTable known table) (p : PathPattern) (graph : Graph) where
  end_given : (text other bound end : Option Cell) → FitsIf known table bound → IsGiven known graph text other bound (Some end) → IsEnd graph (denoted_if known table text) (denoted_if known table bound) (denoted_if known table end)
  end_given text other bound end f (inl e) = inl (ap (denoted_if known table) e)
  end_given text other bound end f (inr w) =
      let t = term_there (denoted known table w.cell) (f w.cell w.has) in
      inr (record {
        term = t.0;
        free = ap (denoted_if known table) w.free;
        has = ap (denoted_if known table) w.has ∙ t.1;
        is = ap (denoted_if known table) w.is ∙ t.1;
        node = in_mem same_term same_term-Decides t.0 (nodes_of graph) (sym (w.node table t.0 one t.1));
      })

  end_fits : (text other bound end : Option Cell) → FitsIf known table text → FitsIf known table bound → IsGiven known graph text other bound (Some end) → FitsIf known table end
  end_fits text other bound end f g (inl e) = subst (FitsIf known table) (sym e) f
  end_fits text other bound end f g (inr w) = subst (FitsIf known table) (w.has ∙ sym w.is) g

  module _ (left right bound other : Option Cell) (ends_left : denoted_if known table left ≡ end_of p.subject) (ends_right : denoted_if known table right ≡ end_of p.object) where
    abbrev l : Option Term
    l = denoted_if known table left

    abbrev r : Option Term
    r = denoted_if known table right

    abbrev test : Pair → Bool
    test = is_between (denoted_if known table bound) (denoted_if known table other)

    all_pairs : filter (fits p) (pairs graph p.path l r) ≡ path_pairs p graph
    all_pairs = ap (λ x. filter (fits p) (pairs graph p.path x r)) ends_left ∙ ap (λ x. filter (fits p) (pairs graph p.path (end_of p.subject) x)) ends_right

    -- those of the ends that are given
    serve_given : (subject object : Option Cell) (cells : List (Cell × Cell)) → FitsIf known table bound → FitsIf known table other → IsGiven known graph left right bound (Some subject) → IsGiven known graph right left other (Some object)
        → ArePairs known table cells (filter (fits p) (pairs graph p.path (denoted_if known table subject) (denoted_if known table object))) → ServeBetween known table p graph (denoted_if known table bound) (denoted_if known table other) cells
    serve_given subject object cells f g h k are =
        let a : List Pair = pairs graph p.path (denoted_if known table subject) (denoted_if known table object) in
        let b : List Pair = pairs graph p.path l r in
        let law : SameBag (filter test a) (filter test b) =
        ends_given graph p.path l r (denoted_if known table bound) (denoted_if known table other) (denoted_if known table subject) (denoted_if known table object) (end_given left right bound subject f h) (end_given right left other object g k) in
        record {
          pairs = filter (fits p) a;
          are = are;
          same =
              subst (λ (z : List Pair). SameBag (filter test (filter (fits p) a)) (filter test z)) all_pairs
              (subst (λ (z : List Pair). SameBag (filter test (filter (fits p) a)) z) (filters_swapped (fits p) test b)
              (subst (λ (z : List Pair). SameBag z (filter (fits p) (filter test b))) (filters_swapped (fits p) test a)
              (filter_same_by same_pair same_pair-Decides (fits p) (filter test a) (filter test b) law)));
        }

    -- none, where there is none
    serve_none : filter test (pairs graph p.path l r) ≡ [] → (cells : List (Cell × Cell)) → cells ≡ [] → ServeBetween known table p graph (denoted_if known table bound) (denoted_if known table other) cells
    serve_none e cells n =
        let b : List Pair = pairs graph p.path l r in
        let all : filter test (path_pairs p graph) ≡ [] = sym (ap (filter test) all_pairs) ∙ (filters_swapped test (fits p) b ∙ ap (filter (fits p)) e) in
        record {
          pairs = [];
          are = subst (λ (z : List (Cell × Cell)). ArePairs known table z []) (sym n) (IsPermutation-refl []);
          same = subst (λ (z : List Pair). SameBag [] z) (sym all) (IsPermutation-refl []);
        }

    apart_term : (end : Option Cell) (c : Cell) (t : Term) → FitsIf known table end → (end ≡ Some c → ⊥) → denoted known table c ≡ Some t → denoted_if known table end ≡ Some t → ⊥
    apart_term None c t f h e k = none-some t k
    apart_term (Some d) c t f h e k = h (ap Some (one.one d c t k e))

    no_node : (c : Cell) (t : Term) → denoted known table c ≡ Some t → ((table : List Term) (t : Term) → IsTable known table → denoted known table c ≡ Some t → false ≡ list_any (same_term t) (nodes_of graph)) → Node graph t → ⊥
    no_node c t e h m = not_both (list_any (same_term t) (nodes_of graph)) (mem_in same_term same_term-Decides t (nodes_of graph) m) (sym (h table t one e))

    no_left : FitsIf known table right → FitsIf known table bound → IsOutside known graph left right bound → filter test (pairs graph p.path l r) ≡ []
    no_left fr f w =
        let t = term_there (denoted known table w.cell) (f w.cell w.has) in
        none_at_left graph p.path t.0 l r (denoted_if known table bound) (denoted_if known table other) (ap (denoted_if known table) w.free) (ap (denoted_if known table) w.has ∙ t.1)
        (apart_term right w.cell t.0 fr w.apart t.1) (no_node w.cell t.0 t.1 w.node)

    no_right : FitsIf known table left → FitsIf known table other → IsOutside known graph right left other → filter test (pairs graph p.path l r) ≡ []
    no_right fl f w =
        let t = term_there (denoted known table w.cell) (f w.cell w.has) in
        none_at_right graph p.path t.0 l r (denoted_if known table bound) (denoted_if known table other) (ap (denoted_if known table) w.free) (ap (denoted_if known table) w.has ∙ t.1)
        (apart_term left w.cell t.0 fl w.apart t.1) (no_node w.cell t.0 t.1 w.node)

-- ---- while the table grows

module _ (known old mid new : List Term) (p : PathPattern) (graph : Graph) (left right : Option Cell) (ends : RowEnds) (g1 : Grows known old mid) (g2 : Grows known mid new) (l : denoted_if known mid left ≡ end_of p.subject) (fl : FitsIf known mid left) (r : denoted_if known new right ≡ end_of p.object) (fr : FitsIf known new right) (fs : FitsIf known old ends.subject) (fo : FitsIf known old ends.object) where
  left_now : denoted_if known new left ≡ end_of p.subject
  left_now = (end_stays known mid new left g2 fl).1 ∙ l

  left_fits : FitsIf known new left
  left_fits = (end_stays known mid new left g2 fl).0

  all_grown : Grows known old new
  all_grown = goes_on known old mid new g1 g2

  bound_fits : (o : Option Cell) → FitsIf known old o → FitsIf known new o
  bound_fits o f = (end_stays known old new o all_grown f).0

  pub fed_left : IsGiven known graph left right ends.subject None → (cells : List (Cell × Cell)) → cells ≡ [] → Serve known new p graph ends cells
  fed_left h cells n = serve_none known new g2.table p graph left right ends.subject ends.object left_now r (no_left known new g2.table p graph left right ends.subject ends.object left_now r fr (bound_fits ends.subject fs) h) cells n

  pub fed_right : IsGiven known graph right left ends.object None → (cells : List (Cell × Cell)) → cells ≡ [] → Serve known new p graph ends cells
  fed_right h cells n = serve_none known new g2.table p graph left right ends.subject ends.object left_now r (no_right known new g2.table p graph left right ends.subject ends.object left_now r left_fits (bound_fits ends.object fo) h) cells n

  pub fed_found : {V : Type 0} (content : V → Content) (default : V → DefaultGraph) (first : Pairs V) (subject object : Option Cell) (kept : List (Cell × Cell)) → known_in content first.edges ≡ known
      → IsGiven known graph left right ends.subject (Some subject) → IsGiven known graph right left ends.object (Some object)
      → ((table : List Term) → IsTable known table → FitsIf known table subject → FitsIf known table object → IsToCome content default table first (pairs graph p.path (denoted_if known table subject) (denoted_if known table object)))
      → AreCollected content default first (is_repeated p.subject p.object) kept → Serve known new p graph ends kept
  fed_found content default first subject object kept e h k to_come collected =
      let fs' = bound_fits ends.subject fs in
      let fo' = bound_fits ends.object fo in
      let ps : List Pair = pairs graph p.path (denoted_if known new subject) (denoted_if known new object) in
      let c : IsToCome content default new first ps =
      to_come new g2.table (end_fits known new g2.table p graph left right ends.subject subject left_fits fs' h) (end_fits known new g2.table p graph right left ends.object object fr fo' k) in
      serve_given known new g2.table p graph left right ends.subject ends.object left_now r subject object kept fs' fo' h k
      (subst (λ (n : List Term). ArePairs n new kept (filter (fits p) ps)) e (collected new ps (subst (λ (n : List Term). IsTable n new) (sym e) g2.table) c))

-- pairs that serve rows do so while the table grows
pub serve_stays : (known old new : List Term) (p : PathPattern) (graph : Graph) (ends : RowEnds) (cells : List (Cell × Cell)) → Grows known old new → FitsIf known old ends.subject → FitsIf known old ends.object → Serve known old p graph ends cells → Serve known new p graph ends cells
serve_stays known old new p graph ends cells g fs fo h =
    let s = (end_stays known old new ends.subject g fs).1 in
    let o = (end_stays known old new ends.object g fo).1 in record {
      pairs = h.pairs;
      are = pairs_stay known old new cells h.pairs g h.are;
      same = rw (s, o) h.same;
    }

-- all pairs serve each row
pub serve_all : (known table : List Term) (p : PathPattern) (graph : Graph) (ends : RowEnds) (cells : List (Cell × Cell)) → ArePairs known table cells (path_pairs p graph) → Serve known table p graph ends cells
serve_all known table p graph ends cells h = record { pairs = path_pairs p graph; are = h; same = IsPermutation-refl _ }
