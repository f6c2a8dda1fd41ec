-- The program over paths that are found whole: each lemma of it under every naming.
use Rattle.std.proofs.Common.{◌≡◌, ◌≢◌, ℕ, ◌+◌, ◌<◌, ◌≤◌, ◌==◌, Bool, true, false, if◌then◌else◌, inl, inr, List, [], ◌∷◌, ◌++◌, length, map, take, drop, get_or, Option, Some, None, refl, sym, ◌∙◌, ap, subst, arith}
use Rattle.std.specs.List.{filter, flat_map, list_any}
use Rattle.std.proofs.Math.ListN.{get_or-map}
use Rattle.std.proofs.lemmas.Bool.{eqb-true}
use Rattle.std.proofs.lemmas.List.{append-nil, take_all}
use Rattle.std.proofs.lemmas.Option.{none-some, same_Some}
use Rattle.std.proofs.lemmas.List.Sorted.{IsPermutation-append, IsPermutation-map, IsPermutation-trans}
use Rattle.qs_terms.specs.declared.term.Term.{Term}
use Rattle.qs_terms.specs.declared.term.Term.TheVariants as term
use Rattle.qs_terms.specs.Bag.{SameBag, with_new}
use Rattle.qs_terms.specs.Term.{same_term}
use Rattle.qs_terms.proofs.SameTerm.{same_term-Decides}
use Rattle.qs_syntax_tree.specs.declared.path.Repetition.{Repetition}
use Rattle.qs_syntax_tree.specs.declared.path.Repetition.TheVariants.{ZeroOrOne, ZeroOrMore, OneOrMore}
use Rattle.qs_syntax_ast.specs.declared.path.NegatedIri.{NegatedIri}
use Rattle.qs_syntax_ast.specs.declared.path.Path.{Path}
use Rattle.qs_syntax_ast.specs.declared.path.Path.TheVariants.{Iri, NegatedSet, Alternative, Sequence, Inverse, Repeated}
use Rattle.qs_paths_meaning.specs.Pair.{Pair, swapped}
use Rattle.qs_paths_meaning.specs.Closure.{closure}
use Rattle.qs_paths_meaning.specs.Pairs.{AtEnds, in_sequence, is_step, pairs}
use Rattle.qs_paths_meaning.specs.Steps.{Graph, along, composed, is_of, is_outside, negated}
use Rattle.qs_paths_meaning.specs.inner.Steps.{against}
use Rattle.qs_paths_meaning.specs.inner.Found.{begins, into_pair, rights, right_at, turned, with_all, Holds}
use Rattle.qs_paths_meaning.specs.inner.Links.{same_number, with_numbers}
use Rattle.qs_paths_meaning.proofs.Arms.{any_arm, any_more, inverse_arm, iri_arm, negated_arm, no_part_after, part_before, repeated_arm, same_as, sequence_arm}
use Rattle.qs_paths_meaning.proofs.Chains.{before_more, behind_more, exchanged, firsts_same, part_behind, seconds_same, up_to}
use Rattle.qs_paths_meaning.proofs.Finds.{map-append}
use Rattle.qs_paths_meaning.proofs.Members.{bool_same, or_cases, or_left}
use Rattle.qs_paths_meaning.proofs.Near.{Tied, tied}
use Rattle.qs_paths_meaning.proofs.Search.{Searching, begun_both, begun_steps, optional_at, search_begins, search_on, search_result}
use Rattle.qs_paths_meaning.proofs.Turned.{found_from, left_arm, right_arm, tied_turned, turned_arm}
use Rattle.qs_paths.specs.declared.node.NodePair.{NodePair}
use Rattle.qs_paths.specs.inner.Nodes.{AreApart, AreBefore, AreBegun, AreBehind, AreEnds, AreFrom, ArePairs, IsApartFrom, IsNaming, IsNodeOrOpen, agrees_node, any_of, end_at, forward_pairs, from_nodes, into_nodes, inverse_pairs, named_end, named_pair, named_pairs, names, node_pair, swapped_nodes}
use Rattle.qs_paths.proofs.Apart.{none_from, none_into}
use Rattle.qs_paths.proofs.Names.{ends_named, from_named, into_named, map_long, map_take, names_all, names_new, rights_named, swapped_named}

same_named : (name : ℕ → Term) (es fs gs : List NodePair) → gs ≡ es ++ fs → named_pairs name gs ≡ named_pairs name es ++ named_pairs name fs
same_named name es fs gs e = ap (named_pairs name) e ∙ map-append (named_pair name) es fs

get_named : (name : ℕ → Term) (es : List NodePair) (i : ℕ) (e : NodePair) → e ≡ get_or es i e → named_pair name e ≡ get_or (named_pairs name es) i (named_pair name e)
get_named name es i e is = ap (named_pair name) is ∙ sym (get_or-map (named_pair name) es i e)

long_named : (name : ℕ → Term) (es : List NodePair) (i : ℕ) → i < length es → i < length (named_pairs name es)
long_named name es i lt = let k : length (named_pairs name es) ≡ length es = map_long (named_pair name) es in omega (arith, lt, k)

-- a number that isn't an end doesn't name the end's term
other_named : (name : ℕ → Term) → AreApart name → (end : Option ℕ) (n : ℕ) → end ≢ Some n → named_end name end ≢ Some (name n)
other_named name apart None n other e = none-some (name n) e
other_named name apart (Some m) n other e =
    other (ap Some (eqb-true m n (sym (apart m n) ∙ (same_term-Decides (name m) (name n)).1 (same_Some (name m) (name n) e))))

module _ (known : List Term) (graph : Graph) where
  abbrev Ps : Path → AtEnds
  Ps p = pairs graph p

  -- ---- the variants

  module _ (p : Path) (left right : Option ℕ) (rows : List NodePair) where
    pub iri_named : (i : List ℕ) → p ≡ Iri i → ArePairs known (along (same_term (term.Iri i)) graph) left right rows → ArePairs known (pairs graph p) left right rows
    iri_named i is h name n = iri_arm graph p (named_end name left) (named_end name right) i (named_pairs name rows) is (h name n)

    pub negated_named : (members ms : List NegatedIri) → p ≡ NegatedSet members → ms ≡ members → ArePairs known (negated ms graph) left right rows → ArePairs known (pairs graph p) left right rows
    negated_named members ms is m h name n = negated_arm graph p (named_end name left) (named_end name right) members ms (named_pairs name rows) is m (h name n)

    pub any_named : (parts ps : List Path) → p ≡ Alternative parts → ps ≡ parts → ArePairs known (any_of graph ps) left right rows → ArePairs known (pairs graph p) left right rows
    any_named parts ps is m h name n = any_arm graph p (named_end name left) (named_end name right) parts ps (named_pairs name rows) is m (h name n)

    pub sequence_named : (parts ps : List Path) → p ≡ Sequence parts → ps ≡ parts → ArePairs known (in_sequence (map (pairs graph) ps)) left right rows → ArePairs known (pairs graph p) left right rows
    sequence_named parts ps is m h name n = sequence_arm graph p (named_end name left) (named_end name right) parts ps (named_pairs name rows) is m (h name n)

    pub inverse_named : (inner q : Path) (inverse slice : List NodePair) → p ≡ Inverse inner → q ≡ inner → ArePairs known (pairs graph q) right left inverse → slice ≡ inverse → rows ≡ map swapped_nodes slice → ArePairs known (pairs graph p) left right rows
    inverse_named inner q inverse slice is m h s e name n =
        inverse_arm graph p (named_end name left) (named_end name right) inner q (named_pairs name rows) (named_pairs name inverse) is m (h name n)
        (ap (named_pairs name) (e ∙ ap (map swapped_nodes) s) ∙ swapped_named name inverse)

    pub repeated_named : (inner q : Path) (repetition : Repetition) → p ≡ Repeated inner repetition → q ≡ inner → ArePairs known (closure repetition (is_step (pairs graph q)) graph) left right rows → ArePairs known (pairs graph p) left right rows
    repeated_named inner q repetition is m h name n = repeated_arm graph p (named_end name left) (named_end name right) inner q repetition (named_pairs name rows) is m (h name n)

  -- ---- alternatives

  pub any_none : (left right : Option ℕ) (rows : List NodePair) → rows ≡ [] → ArePairs known (any_of graph []) left right rows
  any_none left right rows e name n = same_as (named_pairs name rows) [] (ap (named_pairs name) e)

  pub any_next : (left right : Option ℕ) (ps : List Path) (i : ℕ) (p : Path) (rows more rows' : List NodePair) → i < length ps → p ≡ get_or ps i p → ArePairs known (any_of graph (take i ps)) left right rows → ArePairs known (pairs graph p) left right more → rows' ≡ rows ++ more → ArePairs known (any_of graph (take (i + 1) ps)) left right rows'
  any_next left right ps i p rows more rows' lt is h m e name n =
      any_more (λ part. pairs graph part (named_end name left) (named_end name right)) ps i p (named_pairs name rows) (named_pairs name more) (named_pairs name rows') lt is (h name n) (m name n) (same_named name rows more rows' e)

  -- ---- sequences

  end_named : (name : ℕ → Term) (at count : ℕ) (right : Option ℕ) → named_end name (end_at at count right) ≡ right_at at count (named_end name right)
  end_named name at count right = by (at == count)
    where
      by : (b : Bool) → named_end name (if b then right else None) ≡ (if b then named_end name right else None)
      by true = refl
      by false = refl

  -- the pairs of the parts up to a place
  abbrev pub AreUpTo : List Path → Option ℕ → Option ℕ → ℕ → List NodePair → Type 0
  AreUpTo ps left right at rows = (name : ℕ → Term) → IsNaming known name → SameBag (named_pairs name rows) (up_to graph (named_end name left) (named_end name right) ps at)

  pub part_after : (ps : List Path) (left right : Option ℕ) (at : ℕ) (p : Path) (is_first : Bool) (end : Option ℕ) (rows slice rows' : List NodePair) → at < length ps → p ≡ get_or ps at p → is_first ≡ (at == 0) → end ≡ end_at (at + 1) (length ps) right → (is_first ≡ false → AreUpTo ps left right at rows) → slice ≡ rows
      → (is_first ≡ true → ArePairs known (pairs graph p) left end rows') → (is_first ≡ false → AreBehind known (pairs graph p) end slice rows') → AreUpTo ps left right (at + 1) rows'
  part_after ps left right at p is_first end rows slice rows' lt is t e h s first behind name n =
      part_behind graph (named_end name left) (named_end name right) ps at p is_first (named_end name end) (named_pairs name rows) (named_pairs name rows') lt is t (ap (named_end name) e ∙ end_named name (at + 1) (length ps) right) (λ b. h b name n)
      (λ b. first b name n) (λ b. subst (λ l. SameBag (named_pairs name rows') (composed (named_pairs name l) (pairs graph p None (named_end name end)))) s (behind b name n))

  pub behind_none : (f : AtEnds) (right : Option ℕ) (rows longer : List NodePair) → longer ≡ [] → AreBehind known f right (take 0 rows) longer
  behind_none f right [] longer e name n = same_as (named_pairs name longer) [] (ap (named_pairs name) e)
  behind_none f right (r ∷ rows) longer e name n = same_as (named_pairs name longer) [] (ap (named_pairs name) e)

  pub behind_next : (p : Path) (right : Option ℕ) (rows : List NodePair) (i : ℕ) (row : NodePair) (middle : Option ℕ) (longer longer' seconds slice : List NodePair) → i < length rows → row ≡ get_or rows i row → IsNodeOrOpen known graph row.right middle → ArePairs known (pairs graph p) middle right seconds → slice ≡ seconds → longer' ≡ longer ++ from_nodes slice row
      → AreBehind known (pairs graph p) right (take i rows) longer → AreBehind known (pairs graph p) right (take (i + 1) rows) longer'
  behind_next p right rows i row middle longer longer' seconds slice lt is m h s e was name n =
      subst (λ l. SameBag (named_pairs name longer') (composed l (pairs graph p None (named_end name right)))) (sym (map_take (named_pair name) (i + 1) rows))
      (behind_more (pairs graph p None (named_end name right)) (named_pairs name rows) i (named_pair name row) (named_pairs name longer) (named_pairs name longer') (named_pairs name seconds) (long_named name rows i lt) (get_named name rows i row is)
      (subst (λ l. SameBag (named_pairs name longer) (composed l (pairs graph p None (named_end name right)))) (map_take (named_pair name) i rows) (was name n))
      (seconds_same graph p (named_end name right) (named_pair name row) (named_end name middle) (named_pairs name seconds) (m name n) (h name n))
      (same_named name longer (from_nodes slice row) longer' e ∙ ap (λ l. named_pairs name longer ++ l) (ap (λ l. named_pairs name (from_nodes l row)) s ∙ from_named name n.apart seconds row)))

  -- a row that isn't led on
  pub behind_apart : (p : Path) (right : Option ℕ) (rows : List NodePair) (i : ℕ) (row : NodePair) (longer longer' : List NodePair) → i < length rows → row ≡ get_or rows i row → IsApartFrom known graph row.right right → longer' ≡ longer
      → AreBehind known (pairs graph p) right (take i rows) longer → AreBehind known (pairs graph p) right (take (i + 1) rows) longer'
  behind_apart p right rows i row longer longer' lt is a e was name n =
      subst (λ l. SameBag (named_pairs name longer') (composed l (pairs graph p None (named_end name right)))) (sym (map_take (named_pair name) (i + 1) rows))
      (behind_more (pairs graph p None (named_end name right)) (named_pairs name rows) i (named_pair name row) (named_pairs name longer) (named_pairs name longer') [] (long_named name rows i lt) (get_named name rows i row is)
      (subst (λ l. SameBag (named_pairs name longer) (composed l (pairs graph p None (named_end name right)))) (map_take (named_pair name) i rows) (was name n))
      (same_as [] _ (sym (none_from graph p (named_end name right) (named_pair name row) (sym (a.0 name n)) (other_named name n.apart right row.right a.1)))) (ap (named_pairs name) e ∙ sym (append-nil (named_pairs name longer))))

  pub behind_all : (f : AtEnds) (right : Option ℕ) (rows longer : List NodePair) (i : ℕ) → length rows ≤ i → AreBehind known f right (take i rows) longer → AreBehind known f right rows longer
  behind_all f right rows longer i le h = subst (λ l. AreBehind known f right l longer) (take_all i rows le) h

  -- ---- the same from the right

  pub part_ahead : (ps : List Path) (right : Option ℕ) (at : ℕ) (p : Path) (is_last : Bool) (rows slice rows' : List NodePair) → at < length ps → p ≡ get_or ps at p → is_last ≡ (at + 1 == length ps) → ArePairs known (in_sequence (map (pairs graph) (drop (at + 1) ps))) None right rows → slice ≡ rows
      → (is_last ≡ true → ArePairs known (pairs graph p) None right rows') → (is_last ≡ false → AreBefore known (pairs graph p) slice rows') → ArePairs known (in_sequence (map (pairs graph) (drop at ps))) None right rows'
  part_ahead ps right at p is_last rows slice rows' lt is t h s last before name n =
      part_before graph (named_end name right) ps at p is_last (named_pairs name rows) (named_pairs name rows') lt is t (h name n) (λ b. last b name n)
      (λ b. subst (λ l. SameBag (named_pairs name rows') (composed (pairs graph p None None) (named_pairs name l))) s (before b name n))

  pub no_part : (ps : List Path) (right : Option ℕ) (at : ℕ) (rows : List NodePair) → length ps ≤ at → rows ≡ [] → ArePairs known (in_sequence (map (pairs graph) (drop at ps))) None right rows
  no_part ps right at rows le e name n = no_part_after graph (named_end name right) ps at (named_pairs name rows) None le (ap (named_pairs name) e)

  -- the rows so far, each led to by the path
  abbrev pub AreLedTo : AtEnds → List NodePair → List NodePair → Type 0
  AreLedTo f rows longer = (name : ℕ → Term) → IsNaming known name → SameBag (named_pairs name longer) (flat_map (into_pair (f None None)) (named_pairs name rows))

  pub before_none : (f : AtEnds) (rows longer : List NodePair) → longer ≡ [] → AreLedTo f (take 0 rows) longer
  before_none f [] longer e name n = same_as (named_pairs name longer) [] (ap (named_pairs name) e)
  before_none f (r ∷ rows) longer e name n = same_as (named_pairs name longer) [] (ap (named_pairs name) e)

  pub before_next : (p : Path) (rows : List NodePair) (i : ℕ) (row : NodePair) (middle : Option ℕ) (longer longer' firsts slice : List NodePair) → i < length rows → row ≡ get_or rows i row → IsNodeOrOpen known graph row.left middle → ArePairs known (pairs graph p) None middle firsts → slice ≡ firsts → longer' ≡ longer ++ into_nodes slice row
      → AreLedTo (pairs graph p) (take i rows) longer → AreLedTo (pairs graph p) (take (i + 1) rows) longer'
  before_next p rows i row middle longer longer' firsts slice lt is m h s e was name n =
      subst (λ l. SameBag (named_pairs name longer') (flat_map (into_pair (pairs graph p None None)) l)) (sym (map_take (named_pair name) (i + 1) rows))
      (before_more (pairs graph p None None) (named_pairs name rows) i (named_pair name row) (named_pairs name longer) (named_pairs name longer') (named_pairs name firsts) (long_named name rows i lt) (get_named name rows i row is)
      (subst (λ l. SameBag (named_pairs name longer) (flat_map (into_pair (pairs graph p None None)) l)) (map_take (named_pair name) i rows) (was name n))
      (firsts_same graph p None (named_pair name row) (named_end name middle) (named_pairs name firsts) (m name n) (h name n))
      (same_named name longer (into_nodes slice row) longer' e ∙ ap (λ l. named_pairs name longer ++ l) (ap (λ l. named_pairs name (into_nodes l row)) s ∙ into_named name n.apart firsts row)))

  -- a row that isn't led to
  pub before_apart : (p : Path) (rows : List NodePair) (i : ℕ) (row : NodePair) (longer longer' : List NodePair) → i < length rows → row ≡ get_or rows i row → IsApartFrom known graph row.left None → longer' ≡ longer → AreLedTo (pairs graph p) (take i rows) longer
      → AreLedTo (pairs graph p) (take (i + 1) rows) longer'
  before_apart p rows i row longer longer' lt is a e was name n =
      subst (λ l. SameBag (named_pairs name longer') (flat_map (into_pair (pairs graph p None None)) l)) (sym (map_take (named_pair name) (i + 1) rows))
      (before_more (pairs graph p None None) (named_pairs name rows) i (named_pair name row) (named_pairs name longer) (named_pairs name longer') [] (long_named name rows i lt) (get_named name rows i row is)
      (subst (λ l. SameBag (named_pairs name longer) (flat_map (into_pair (pairs graph p None None)) l)) (map_take (named_pair name) i rows) (was name n))
      (same_as [] _ (sym (none_into graph p (named_pair name row) (sym (a.0 name n))))) (ap (named_pairs name) e ∙ sym (append-nil (named_pairs name longer))))

  pub before_all : (f : AtEnds) (rows longer : List NodePair) (i : ℕ) → length rows ≤ i → AreLedTo f (take i rows) longer → AreBefore known f rows longer
  before_all f rows longer i le h name n =
      IsPermutation-trans _ _ _ (subst (λ l. SameBag (named_pairs name longer) (flat_map (into_pair (f None None)) (named_pairs name l))) (take_all i rows le) (h name n)) (exchanged (f None None) (named_pairs name rows))

  -- ---- closures

  module _ (p : Path) (repetition : Repetition) where
    pub closure_left : (left right : Option ℕ) (x : ℕ) (rows : List NodePair) → left ≡ Some x → AreFrom known repetition (turned false (pairs graph p)) graph right x rows → ArePairs known (closure repetition (is_step (pairs graph p)) graph) left right rows
    closure_left left right x rows e h name n = left_arm graph p repetition (named_end name left) (named_end name right) (name x) (named_pairs name rows) (ap (named_end name) e) (h name n)

    pub closure_right : (left right : Option ℕ) (y : ℕ) (inverse slice rows : List NodePair) → left ≡ None → right ≡ Some y → AreFrom known repetition (turned true (pairs graph p)) graph None y inverse → slice ≡ inverse → rows ≡ map swapped_nodes slice → ArePairs known (closure repetition (is_step (pairs graph p)) graph) left right rows
    closure_right left right y inverse slice rows l r h s e name n =
        right_arm graph p repetition (named_end name left) (named_end name right) (name y) (named_pairs name inverse) (named_pairs name rows) (ap (named_end name) l) (ap (named_end name) r) (h name n)
        (ap (named_pairs name) (e ∙ ap (map swapped_nodes) s) ∙ swapped_named name inverse)

    pub closure_open : (left right : Option ℕ) (rows : List NodePair) → left ≡ None → right ≡ None → ArePairs known (closure repetition (is_step (pairs graph p)) graph) None None rows → ArePairs known (closure repetition (is_step (pairs graph p)) graph) left right rows
    closure_open left right rows l r h =
        subst (λ (o : Option ℕ). ArePairs known (closure repetition (is_step (pairs graph p)) graph) o right rows) (sym l)
        (subst (λ (o : Option ℕ). ArePairs known (closure repetition (is_step (pairs graph p)) graph) None o rows) (sym r) h)

    module _ (backward : Bool) (start : ℕ) where
      abbrev f : AtEnds
      f = turned backward (pairs graph p)

      abbrev t : Tied graph (turned backward (pairs graph p))
      t = tied_turned graph backward (pairs graph p) (tied graph p)

      pub ends_from : (end : Option ℕ) (es fs : List ℕ) (rows rows' : List NodePair) → rows ≡ [] → fs ≡ es → AreEnds known repetition f graph start es → rows' ≡ rows ++ map (node_pair start) (filter (agrees_node end) fs) → AreFrom known repetition f graph end start rows'
      ends_from end es fs rows rows' z s h e name n =
          found_from repetition (is_step f) graph (named_end name end) (name start) (names name es) (names name fs) (named_pairs name rows) (named_pairs name rows') (ap (named_pairs name) z) (ap (names name) s) (h name n)
          (same_named name rows (map (node_pair start) (filter (agrees_node end) fs)) rows' e ∙ ap (λ l. named_pairs name rows ++ l) (ends_named name n.apart end start fs))

      -- the search, between two passes
      abbrev pub AreSearched : List ℕ → ℕ → Type 0
      AreSearched ns at = (name : ℕ → Term) → IsNaming known name → Searching graph f t (name start) repetition (names name ns) at

      pub begun_none : (ns ns' : List ℕ) → repetition ≡ ZeroOrMore → ns ≡ [] → ns' ≡ with_new same_number ns start → AreBegun known repetition f start ns'
      begun_none ns ns' r z e name n =
          subst (λ (q : Repetition). Holds (names name ns') (begins q (is_step f) (name start))) (sym r)
          (subst (λ (l : List ℕ). Holds (names name l) (begins ZeroOrMore (is_step f) (name start))) (sym (e ∙ ap (λ l. with_new same_number l start) z)) ((refl, tt), λ y. alone y))
        where
          alone : (y : Term) → list_any (same_term y) (name start ∷ []) ≡ same_term (name start) y
          alone y =
              bool_same (list_any (same_term y) (name start ∷ [])) (same_term (name start) y)
              (λ k. elim (or_cases (same_term y (name start)) false k) [ inl i ↦ (same_term-Decides (name start) y).1 (sym ((same_term-Decides y (name start)).0 i)) | inr i ↦ let g : false ≡ true = i in cc ])
              (λ k. or_left (same_term y (name start)) false ((same_term-Decides y (name start)).1 (sym ((same_term-Decides (name start) y).0 k))))

      pub begun_either : (ns ns' ns'' : List ℕ) (next es : List NodePair) → repetition ≡ ZeroOrOne → ns ≡ [] → ns' ≡ with_new same_number ns start → ArePairs known f (Some start) None next → es ≡ next → ns'' ≡ with_numbers ns' (map (λ (e : NodePair). e.right) es) → AreBegun known repetition f start ns''
      begun_either ns ns' ns'' next es r z e h s k name n =
          begun_both graph f t (name start) repetition (named_pairs name next) (named_pairs name es) (names name ns) (names name ns') (names name ns'') r (ap (names name) z) (ap (names name) e ∙ names_new name n.apart ns start) (h name n) (ap (named_pairs name) s)
          (ap (names name) k ∙ (names_all name n.apart ns' (map (λ (e : NodePair). e.right) es) ∙ ap (with_all (names name ns')) (rights_named name es)))

      pub begun_next : (ns ns' : List ℕ) (next es : List NodePair) → repetition ≡ OneOrMore → ns ≡ [] → ArePairs known f (Some start) None next → es ≡ next → ns' ≡ with_numbers ns (map (λ (e : NodePair). e.right) es) → AreBegun known repetition f start ns'
      begun_next ns ns' next es r z h s k name n =
          begun_steps graph f t (name start) repetition (named_pairs name next) (named_pairs name es) (names name ns) (names name ns') r (ap (names name) z) (h name n) (ap (named_pairs name) s)
          (ap (names name) k ∙ (names_all name n.apart ns (map (λ (e : NodePair). e.right) es) ∙ ap (with_all (names name ns)) (rights_named name es)))

      pub searched_none : (ns : List ℕ) → AreBegun known repetition f start ns → AreSearched ns 0
      searched_none ns h name n = search_begins graph f t (name start) repetition (names name ns) (h name n)

      pub searched_next : (ns ns' : List ℕ) (at node : ℕ) (next es : List NodePair) → repetition ≢ ZeroOrOne → AreSearched ns at → at < length ns → node ≡ get_or ns at node → ArePairs known f (Some node) None next → es ≡ next → ns' ≡ with_numbers ns (map (λ (e : NodePair). e.right) es) → AreSearched ns' (at + 1)
      searched_next ns ns' at node next es ne was lt is h s k name n =
          search_on graph f t (name start) repetition (names name ns) (names name ns') at (name node) (named_pairs name next) ne (was name n)
          (let l : length (names name ns) ≡ length ns = map_long name ns in omega (arith, lt, l))
          (ap name is ∙ sym (get_or-map name ns at node)) (h name n)
          (ap (names name) k ∙ (names_all name n.apart ns (map (λ (e : NodePair). e.right) es) ∙ (ap (with_all (names name ns)) (rights_named name es) ∙ ap (λ l. with_all (names name ns) (rights (named_pairs name l))) s)))

      pub searched_all : (ns : List ℕ) (at : ℕ) → repetition ≢ ZeroOrOne → AreSearched ns at → length ns ≤ at → AreEnds known repetition f graph start ns
      searched_all ns at ne was le name n =
          search_result graph f t (name start) repetition (names name ns) (names name ns) at ne (was name n) (let l : length (names name ns) ≡ length ns = map_long name ns in omega (arith, le, l)) refl

      pub optional_named : (ns : List ℕ) → repetition ≡ ZeroOrOne → AreBegun known repetition f start ns → AreEnds known repetition f graph start ns
      optional_named ns r h name n = optional_at graph f t (name start) repetition (names name ns) (names name ns) r refl (h name n)

  pub stepped_back : (p : Path) (b : Bool) (node : ℕ) (inverse slice rows : List NodePair) → b ≡ true → ArePairs known (pairs graph p) None (Some node) inverse → slice ≡ inverse → rows ≡ map swapped_nodes slice → ArePairs known (turned b (pairs graph p)) (Some node) None rows
  stepped_back p b node inverse slice rows e h s k name n =
      turned_arm (pairs graph p) b (name node) (named_pairs name inverse) (named_pairs name rows) e (h name n) (ap (named_pairs name) (k ∙ ap (map swapped_nodes) s) ∙ swapped_named name inverse)

  pub stepped_on : (p : Path) (b : Bool) (node : ℕ) (rows : List NodePair) → b ≡ false → ArePairs known (pairs graph p) (Some node) None rows → ArePairs known (turned b (pairs graph p)) (Some node) None rows
  stepped_on p b node rows e h = subst (λ (c : Bool). ArePairs known (turned c (pairs graph p)) (Some node) None rows) (sym e) h

  -- ---- negated sets

  pub inverse_there : (members : List NegatedIri) (left right : Option ℕ) (b : Bool) (ps slice rows : List NodePair) → b ≡ list_any (is_of true) members → b ≡ true → ArePairs known (along (is_outside true members) graph) right left ps → slice ≡ ps → rows ≡ map swapped_nodes slice → ArePairs known (inverse_pairs members graph) left right rows
  inverse_there members left right b ps slice rows t e h s k name n =
      subst (λ c. SameBag (named_pairs name rows) (if c then against (is_outside true members) graph (named_end name left) (named_end name right) else [])) (sym e ∙ t)
      (subst (λ (l : List Pair). SameBag l (against (is_outside true members) graph (named_end name left) (named_end name right))) (sym (ap (named_pairs name) (k ∙ ap (map swapped_nodes) s) ∙ swapped_named name ps))
      (IsPermutation-map swapped (named_pairs name ps) _ (h name n)))

  pub two_named : (members : List NegatedIri) (left right : Option ℕ) (ps qs rows : List NodePair) → ArePairs known (forward_pairs members graph) left right ps → ArePairs known (inverse_pairs members graph) left right qs → rows ≡ ps ++ qs → ArePairs known (negated members graph) left right rows
  two_named members left right ps qs rows h k e name n =
      subst (λ (l : List Pair). SameBag l (negated members graph (named_end name left) (named_end name right))) (sym (same_named name ps qs rows e))
      (IsPermutation-append (named_pairs name ps) _ (named_pairs name qs) _ (h name n) (k name n))
