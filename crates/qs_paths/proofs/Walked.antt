-- Walks from one end, under a naming.
use Rattle.std.proofs.Common.{◌≡◌, ◌≢◌, ℕ, ◌+◌, ◌<◌, ◌≤◌, Bool, true, false, cond, List, [], ◌∷◌, length, map, take, get_or, Option, Some, None, refl, sym, ◌∙◌, ap, subst, arith}
use Rattle.std.specs.List.{filter}
use Rattle.std.proofs.Math.ListN.{get_or-map}
use Rattle.std.proofs.lemmas.List.{take_all, take-append-le, length-append}
use Rattle.std.proofs.lemmas.List.Sorted.{IsPermutation-map, IsPermutation-trans}
use Rattle.qs_terms.specs.declared.term.Term.{Term}
use Rattle.qs_terms.specs.Bag.{SameBag}
use Rattle.qs_terms.specs.Dataset.{nodes_of}
use Rattle.qs_terms.specs.Term.{same_term}
use Rattle.qs_terms.proofs.SameTerm.{same_term-Decides}
use Rattle.qs_syntax_tree.specs.declared.path.Repetition.{Repetition}
use Rattle.qs_syntax_tree.specs.declared.path.Repetition.TheVariants.{ZeroOrOne}
use Rattle.qs_syntax_ast.specs.declared.path.Path.{Path}
use Rattle.qs_paths_meaning.specs.Closure.{candidates, ends, repeats}
use Rattle.qs_paths_meaning.specs.inner.Steps.{from_start}
use Rattle.qs_paths_meaning.specs.Pair.{Pair, pair}
use Rattle.qs_paths_meaning.specs.Pairs.{AtEnds, is_step, pairs}
use Rattle.qs_paths_meaning.specs.Steps.{Graph, agrees}
use Rattle.qs_paths_meaning.specs.inner.Found.{rights, turned, with_all}
use Rattle.qs_paths_meaning.specs.inner.Links.{with_numbers}
use Rattle.qs_paths_meaning.proofs.Arms.{filter_same_by}
use Rattle.qs_paths_meaning.proofs.Members.{distinct_filter, distinct_once, mem_filter}
use Rattle.qs_paths_meaning.proofs.Near.{Tied, tied}
use Rattle.qs_paths_meaning.proofs.Search.{Searching, inside, search_begins, search_on, search_result}
use Rattle.qs_paths_meaning.proofs.Turned.{tied_turned}
use Rattle.qs_paths.specs.declared.node.NodePair.{NodePair}
use Rattle.qs_paths.specs.inner.Nodes.{AreBegun, ArePairs, IsNaming, agrees_node, named_end, named_pair, named_pairs, names}
use Rattle.qs_paths.specs.inner.State.{pair_towards, turned_pairs}
use Rattle.qs_paths.proofs.Names.{agrees_named, map_long, map_take, names_all, rights_named}
use Rattle.qs_paths.proofs.Streamed.{all_given, bag_is, fresh, hands_out, none_given, numbers_front, to_nil, turned_bag}

module _ (known : List Term) (graph : Graph) (name : ℕ → Term) (naming : IsNaming known name) (p : Path) (repetition : Repetition) (backward : Bool) (start : ℕ) (end : Option ℕ) where
  abbrev f : AtEnds
  f = turned backward (pairs graph p)

  abbrev t : Tied graph (turned backward (pairs graph p))
  t = tied_turned graph backward (pairs graph p) (tied graph p)

  abbrev pub Searches : List ℕ → ℕ → Type 0
  Searches ns at = Searching graph f t (name start) repetition (names name ns) at

  abbrev reached : List Term
  reached = ends repetition (is_step (turned backward (pairs graph p))) graph (name start)

  -- the pairs to these terms
  abbrev pub towards : List Term → List Pair
  towards ts = turned_pairs backward (map (pair (name start)) (filter (agrees (named_end name end)) ts))

  -- those that weren't handed out
  abbrev pub rest_of : List ℕ → ℕ → List Pair
  rest_of ns given = towards (filter (fresh (names name (take given ns))) (ends repetition (is_step (turned backward (pairs graph p))) graph (name start)))

  towards_bag : (ts us : List Term) → SameBag ts us → SameBag (towards ts) (towards us)
  towards_bag ts us h = turned_bag backward _ _ (IsPermutation-map (pair (name start)) _ _ (filter_same_by same_term same_term-Decides (agrees (named_end name end)) ts us h))

  -- at the start
  pub walk_starts : (ns : List ℕ) (ps : List Pair) → SameBag ps (turned_pairs backward (from_start repetition (is_step (turned backward (pairs graph p))) graph (named_end name end) (name start))) → SameBag ps (rest_of ns 0)
  walk_starts ns ps h = bag_is ps _ _ h (ap towards (sym (none_given ns name reached)))

  pub walk_begins : (ns : List ℕ) → AreBegun known repetition (turned backward (pairs graph p)) start ns → Searches ns 0
  walk_begins ns h = search_begins graph f t (name start) repetition (names name ns) (h name naming)

  -- one step more
  pub walk_on : (ns ns' : List ℕ) (at node : ℕ) (next es : List NodePair) → repetition ≢ ZeroOrOne → Searches ns at → at < length ns → node ≡ get_or ns at node → ArePairs known (turned backward (pairs graph p)) (Some node) None next → es ≡ next → ns' ≡ with_numbers ns (map (λ (e : NodePair). e.right) es) → Searches ns' (at + 1)
  walk_on ns ns' at node next es ne was lt is h s k =
      search_on graph f t (name start) repetition (names name ns) (names name ns') at (name node) (named_pairs name next) ne was
      (let l : length (names name ns) ≡ length ns = map_long name ns in omega (arith, lt, l))
      (ap name is ∙ sym (get_or-map name ns at node)) (h name naming)
      (ap (names name) k ∙ (names_all name naming.apart ns (map (λ (e : NodePair). e.right) es) ∙ (ap (with_all (names name ns)) (rights_named name es) ∙ ap (λ l. with_all (names name ns) (rights (named_pairs name l))) s)))

  pub walk_longer : (ns ns' ms : List ℕ) (given : ℕ) → ns' ≡ with_numbers ns ms → given ≤ length ns → given ≤ length ns'
  walk_longer ns ns' ms given e le = let w = numbers_front ns ms ns' e in omega (arith, le, ap length w.1, length-append ns w.0)

  pub walk_keeps : (ns ns' ms : List ℕ) (given : ℕ) (ps : List Pair) → ns' ≡ with_numbers ns ms → given ≤ length ns → SameBag ps (rest_of ns given) → SameBag ps (rest_of ns' given)
  walk_keeps ns ns' ms given ps e le h =
      let w = numbers_front ns ms ns' e in
      bag_is ps _ _ h (ap (λ l. towards (filter (fresh (names name l)) reached)) (sym (ap (take given) w.1 ∙ take-append-le given ns w.0 le)))

  -- nothing more is found, and all was handed out
  pub walk_over : (ns : List ℕ) (at given : ℕ) (ps : List Pair) → repetition ≢ ZeroOrOne → Searches ns at → length ns ≤ at → length ns ≤ given → SameBag ps (rest_of ns given) → ps ≡ []
  walk_over ns at given ps ne was le all h =
      let l : length (names name ns) ≡ length ns = map_long name ns in
      let b : SameBag (names name ns) reached = search_result graph f t (name start) repetition (names name ns) (names name ns) at ne was (omega (arith, l, le)) refl in
      to_nil ps (rest_of ns given) h (ap towards (ap (λ z. filter (fresh (names name z)) reached) (take_all given ns all) ∙ all_given (names name ns) reached b) ∙ none backward)
    where
      none : (b : Bool) → let nil : List Pair = [] in turned_pairs b [] ≡ nil
      none true = refl
      none false = refl

  -- one node is handed out
  next_left : (ns : List ℕ) (at given node : ℕ) → Searches ns at → given < length ns → node ≡ get_or ns given node → SameBag (filter (fresh (names name (take given ns))) (ends repetition (is_step (turned backward (pairs graph p))) graph (name start))) (name node ∷ filter (fresh (names name (take (given + 1) ns))) (ends repetition (is_step (turned backward (pairs graph p))) graph (name start)))
  next_left ns at given node was lt is =
      let l : length (names name ns) ≡ length ns = map_long name ns in
      subst (λ z. SameBag (filter (fresh z) reached) (name node ∷ filter (fresh (names name (take (given + 1) ns))) reached)) (sym (map_take name given ns))
      (subst (λ z. SameBag (filter (fresh (take given (names name ns))) reached) (name node ∷ filter (fresh z) reached)) (sym (map_take name (given + 1) ns))
      (hands_out (names name ns) reached given (name node) was.distinct
      (distinct_filter same_term same_term-Decides (repeats repetition (is_step f) (candidates graph (name start)) (name start)) (candidates graph (name start)) (distinct_once same_term same_term-Decides (name start ∷ nodes_of graph)))
      (λ x m. mem_filter (repeats repetition (is_step f) (candidates graph (name start)) (name start)) x (candidates graph (name start)) (was.sound x m) (inside graph f t (name start) repetition x (was.sound x m)))
      (omega (arith, l, lt)) (ap name is ∙ sym (get_or-map name ns given node))))

  first_agrees : (x : Term) (ts : List Term) (b : Bool) → agrees (named_end name end) x ≡ b → towards (x ∷ ts) ≡ cond b (turned_pairs backward (pair (name start) x ∷ map (pair (name start)) (filter (agrees (named_end name end)) ts))) (towards ts)
  first_agrees x ts true e = ap (λ c. turned_pairs backward (map (pair (name start)) (cond c (x ∷ filter (agrees (named_end name end)) ts) (filter (agrees (named_end name end)) ts)))) e
  first_agrees x ts false e = ap (λ c. turned_pairs backward (map (pair (name start)) (cond c (x ∷ filter (agrees (named_end name end)) ts) (filter (agrees (named_end name end)) ts)))) e

  turned_towards : (b : Bool) (node : ℕ) (qs : List Pair) → turned_pairs b (pair (name start) (name node) ∷ qs) ≡ named_pair name (pair_towards b start node) ∷ turned_pairs b qs
  turned_towards true node qs = refl
  turned_towards false node qs = refl

  pub walk_gives : (ns : List ℕ) (at given node : ℕ) (ps : List Pair) (b : Bool) → Searches ns at → given < length ns → node ≡ get_or ns given node → b ≡ agrees_node end node → b ≡ true → SameBag ps (rest_of ns given) → SameBag ps (named_pair name (pair_towards backward start node) ∷ rest_of ns (given + 1))
  walk_gives ns at given node ps b was lt is a e h =
      IsPermutation-trans ps _ _ h
      (bag_is _ _ _ (towards_bag _ _ (next_left ns at given node was lt is))
      (first_agrees (name node) (filter (fresh (names name (take (given + 1) ns))) reached) true (agrees_named name naming.apart end node ∙ (sym a ∙ e))
      ∙ turned_towards backward node (map (pair (name start)) (filter (agrees (named_end name end)) (filter (fresh (names name (take (given + 1) ns))) reached)))))

  pub walk_skips : (ns : List ℕ) (at given node : ℕ) (ps : List Pair) (b : Bool) → Searches ns at → given < length ns → node ≡ get_or ns given node → b ≡ agrees_node end node → b ≡ false → SameBag ps (rest_of ns given) → SameBag ps (rest_of ns (given + 1))
  walk_skips ns at given node ps b was lt is a e h =
      IsPermutation-trans ps _ _ h
      (bag_is _ _ _ (towards_bag _ _ (next_left ns at given node was lt is))
      (first_agrees (name node) (filter (fresh (names name (take (given + 1) ns))) reached) false (agrees_named name naming.apart end node ∙ (sym a ∙ e))))
