-- The pairs of a path, and the solutions of a basic graph pattern: each term of theirs stands in the graph, or was given at an end.
use Rattle.std.proofs.Common.{◌≡◌, ℕ, ◌+◌, Bool, true, false, ◌||◌, if◌then◌else◌, List, [], ◌∷◌, map, take, Option, Some, None, refl, sym, subst}
use Rattle.std.specs.List.{AllByRecursion, filter, flat_map, list_any, list_all}
use Rattle.qs_terms.specs.Dataset.{Triple, nodes_of}
use Rattle.qs_terms.specs.inner.Dataset.{ends_of}
use Rattle.qs_terms.specs.Term.{same_term}
use Rattle.qs_terms.specs.declared.term.Term.{Term}
use Rattle.qs_terms.specs.declared.term.Term.TheVariants as term
use Rattle.qs_syntax_tree.specs.declared.path.Repetition.{Repetition}
use Rattle.qs_syntax_ast.specs.declared.path.NegatedIri.{NegatedIri}
use Rattle.qs_syntax_ast.specs.declared.path.Path.{Path, Path-F, map-Path, roll-Path, fold-roll-Path, ind-Path}
use Rattle.qs_paths_meaning.specs.Pair.{Pair, pair, swapped}
use Rattle.qs_paths_meaning.specs.Steps.{Graph, agrees, is_between, along, negated, is_of, is_none, is_outside, composed}
use Rattle.qs_paths_meaning.specs.inner.Steps.{pair_of, against, from_pair, from_start}
use Rattle.qs_paths_meaning.specs.Closure.{candidates, repeats, ends, starts, closure}
use Rattle.qs_paths_meaning.specs.Pairs.{AtEnds, in_sequence, is_step, pairs, pairs_level}
use Rattle.qs_algebra_solutions.specs.Solution.{Solution, unbound}
use Rattle.qs_algebra_solutions.specs.Operators.{join}
use Rattle.qs_algebra_patterns.specs.declared.pattern.Slot.{Slot}
use Rattle.qs_algebra_patterns.specs.declared.pattern.Slot.TheVariants as slot
use Rattle.qs_algebra_patterns.specs.declared.pattern.PathPattern.{PathPattern}
use Rattle.qs_algebra_patterns.specs.declared.pattern.BasicPattern.{BasicPattern}
use Rattle.qs_algebra_patterns.specs.Basic.{terms_of, mentions, puts_into, all_maps, matches, end_of, fits, with_term, ends_bound, path_solutions, with_paths, basic}
use Rattle.qs_algebra_patterns.specs.inner.Basic.{terms_of_triple}
use Rattle.qs_update_laws.specs.inner.NoBlank.{slot_has_no_blank, triple_has_no_blank, path_has_no_blank, basic_has_no_blank}
use Rattle.qs_update_laws.proofs.Lists.{both_hold, each_append, each_filter, each_once, each_where, each_map, each_flat_map}
use Rattle.qs_update_laws.proofs.Cells.{TermBelow, CellBelow, RowBelow, RowsBelow, no_blank_below, unbound_below, set_below, take_below, join_below, maps_below}

module _ (next : ℕ) where
  abbrev pub TripleBelow : Triple → Type 0
  TripleBelow t = TermBelow next t.subject × (TermBelow next t.predicate × TermBelow next t.object)

  abbrev pub GraphBelow : Graph → Type 0
  GraphBelow graph = AllByRecursion TripleBelow graph

  abbrev PairBelow : Pair → Type 0
  PairBelow e = TermBelow next e.left × TermBelow next e.right

  abbrev PairsBelow : List Pair → Type 0
  PairsBelow es = AllByRecursion PairBelow es

  turned_below : (es : List Pair) → PairsBelow es → PairsBelow (map swapped es)
  turned_below es h = each_map PairBelow PairBelow swapped (λ e k. (k.1, k.0)) es h

  composed_below : (ps qs : List Pair) → PairsBelow ps → PairsBelow qs → PairsBelow (composed ps qs)
  composed_below ps qs h k =
      each_flat_map PairBelow PairBelow (from_pair qs) (λ e l.
      each_map PairBelow PairBelow (λ f. pair e.left f.right) (λ f m. (l.0, m.1)) (filter (λ f. same_term e.right f.left) qs)
      (each_filter PairBelow (λ f. same_term e.right f.left) qs k)) ps h

  module _ (graph : Graph) (each : GraphBelow graph) where
    abbrev Leads : AtEnds → Type 0
    Leads f = (left right : Option Term) → CellBelow next left → CellBelow next right → PairsBelow (f left right)

    along_below : (test : Term → Bool) (left right : Option Term) → PairsBelow (along test graph left right)
    along_below test left right =
        each_filter PairBelow (is_between left right) (map pair_of (filter (λ t. test t.predicate) graph))
        (each_map TripleBelow PairBelow pair_of (λ t h. (h.0, h.1.1)) (filter (λ t. test t.predicate) graph) (each_filter TripleBelow (λ t. test t.predicate) graph each))

    negated_below : (members : List NegatedIri) (left right : Option Term) → PairsBelow (negated members graph left right)
    negated_below members left right =
        let forward = list_any (is_of false) members || is_none members in
        let inverse = list_any (is_of true) members in
        each_append PairBelow (if forward then along (is_outside false members) graph left right else []) (if inverse then against (is_outside true members) graph left right else [])
        (each_where PairBelow forward (along (is_outside false members) graph left right) (along_below (is_outside false members) left right))
        (each_where PairBelow inverse (against (is_outside true members) graph left right)
        (turned_below (along (is_outside true members) graph right left) (along_below (is_outside true members) right left)))

    -- ---- closures

    nodes_below : AllByRecursion (TermBelow next) (nodes_of graph)
    nodes_below = each_once (TermBelow next) same_term (flat_map ends_of graph) (each_flat_map TripleBelow (TermBelow next) ends_of (λ t h. (h.0, (h.1.1, tt))) graph each)

    candidates_below : (x : Term) → TermBelow next x → AllByRecursion (TermBelow next) (candidates graph x)
    candidates_below x h = each_once (TermBelow next) same_term (x ∷ nodes_of graph) (h, nodes_below)

    starts_below : (left right : Option Term) → CellBelow next left → CellBelow next right → AllByRecursion (TermBelow next) (starts graph left right)
    starts_below (Some x) right h k = (h, tt)
    starts_below None (Some y) h k = candidates_below y k
    starts_below None None h k = nodes_below

    closure_below : (repetition : Repetition) (step : Term → Term → Bool) → Leads (closure repetition step graph)
    closure_below repetition step left right h k =
        each_flat_map (TermBelow next) PairBelow (from_start repetition step graph right) (λ x l.
        each_map (TermBelow next) PairBelow (pair x) (λ y m. (l, m)) (filter (agrees right) (ends repetition step graph x))
        (each_filter (TermBelow next) (agrees right) (ends repetition step graph x)
        (each_filter (TermBelow next) (repeats repetition step (candidates graph x) x) (candidates graph x) (candidates_below x l))))
        (starts graph left right) (starts_below left right h k)

    -- ---- all paths

    abbrev PathLeads : Path → Type 0
    PathLeads p = Leads (pairs graph p)

    abbrev Known : Type 0
    Known = (p : Path) × PathLeads p

    sequence_below : (es : List Known) → Leads (in_sequence (map (pairs graph) (map (λ e. e.0) es)))
    sequence_below [] left right h k = tt
    sequence_below (e ∷ []) left right h k = e.1 left right h k
    sequence_below (e ∷ f ∷ es) left right h k =
        composed_below (pairs graph e.0 left None) (in_sequence (map (pairs graph) (map (λ e. e.0) (f ∷ es))) None right) (e.1 left None h refl) (sequence_below (f ∷ es) None right refl k)

    alternative_below : (es : List Known) → Leads (λ left right. flat_map (λ (f : AtEnds). f left right) (map (pairs graph) (map (λ e. e.0) es)))
    alternative_below [] left right h k = tt
    alternative_below (e ∷ es) left right h k =
        each_append PairBelow (pairs graph e.0 left right) (flat_map (λ (f : AtEnds). f left right) (map (pairs graph) (map (λ e. e.0) es))) (e.1 left right h k) (alternative_below es left right h k)

    level_below : (y : Path-F Known) → Leads (pairs_level graph (map-Path Path AtEnds (pairs graph) (map-Path Known Path (λ e. e.0) y)))
    level_below (Path-F.Iri i) = λ left right h k. along_below (same_term (term.Iri i)) left right
    level_below (Path-F.NegatedSet members) = λ left right h k. negated_below members left right
    level_below (Path-F.Alternative es) = alternative_below es
    level_below (Path-F.Sequence es) = sequence_below es
    level_below (Path-F.Inverse e) = λ left right h k. turned_below (pairs graph e.0 right left) (e.1 right left k h)
    level_below (Path-F.Repeated e repetition) = closure_below repetition (is_step (pairs graph e.0))

    rolled_below : (y : Path-F Known) → PathLeads (roll-Path (map-Path Known Path (λ e. e.0) y))
    rolled_below y = subst Leads (sym (fold-roll-Path AtEnds (pairs_level graph) (map-Path Known Path (λ e. e.0) y))) (level_below y)

    pairs_below : (p : Path) → PathLeads p
    pairs_below = ind-Path PathLeads (λ x y is. subst (λ z. PathLeads (roll-Path z)) is (rolled_below y))

    -- ---- basic graph patterns

    end_below : (s : Slot) → slot_has_no_blank s ≡ true → CellBelow next (end_of s)
    end_below (slot.Term t) h = no_blank_below next t h
    end_below (slot.Variable v) h = refl

    with_below : (s : Slot) (t : Term) (m : Solution) → TermBelow next t → RowBelow next m → RowBelow next (with_term s t m)
    with_below (slot.Term c) t m h k = k
    with_below (slot.Variable v) t m h k = set_below next m v (Some t) h k

    path_below : (n : ℕ) (p : PathPattern) → path_has_no_blank p ≡ true → RowsBelow next (path_solutions n graph p)
    path_below n p h =
        let k = both_hold (slot_has_no_blank p.subject) (slot_has_no_blank p.object) h in
        let es = pairs graph p.path (end_of p.subject) (end_of p.object) in
        each_map PairBelow (RowBelow next) (ends_bound n p) (λ e l.
        with_below p.object e.right (with_term p.subject e.left (unbound n)) l.1 (with_below p.subject e.left (unbound n) l.0 (unbound_below next n)))
        (filter (fits p) es) (each_filter PairBelow (fits p) es (pairs_below p.path (end_of p.subject) (end_of p.object) (end_below p.subject k.0) (end_below p.object k.1)))

    paths_below : (n : ℕ) (ps : List PathPattern) (left : List Solution) → list_all path_has_no_blank ps ≡ true → RowsBelow next left → RowsBelow next (with_paths n graph ps left)
    paths_below n [] left h k = k
    paths_below n (p ∷ ps) left h k =
        let l = both_hold (path_has_no_blank p) (list_all path_has_no_blank ps) h in
        paths_below n ps (join left (path_solutions n graph p)) l.1 (join_below next left (path_solutions n graph p) k (path_below n p l.0))

    terms_below : AllByRecursion (TermBelow next) (terms_of graph)
    terms_below =
        each_once (TermBelow next) same_term (flat_map terms_of_triple graph) (each_flat_map TripleBelow (TermBelow next) terms_of_triple (λ t h. (h.0, (h.1.0, (h.1.1, tt)))) graph each)

    pub basic_below : (width : ℕ) (b : BasicPattern) → basic_has_no_blank b ≡ true → RowsBelow next (basic width b graph)
    basic_below width b h =
        let n = width + b.hidden in
        let maps = all_maps (mentions b.triples) (terms_of graph) 0 n in
        each_map (RowBelow next) (RowBelow next) (take width) (λ m. take_below next width m) (with_paths n graph b.paths (matches n b.triples graph))
        (paths_below n b.paths (matches n b.triples graph) (both_hold (list_all triple_has_no_blank b.triples) (list_all path_has_no_blank b.paths) h).1
        (each_filter (RowBelow next) (puts_into graph b.triples) maps (maps_below next (mentions b.triples) (terms_of graph) terms_below 0 n)))
