-- What queries see of a view means what its own quads mean, with the graph that is active.
use Rattle.std.proofs.Common.{◌≡◌, ℕ, zero, suc, Bool, true, false, cond, not, ◌&&◌, ◌||◌, ⊎_elim, if◌then◌else◌, Option, Some, None, List, [], ◌∷◌, ◌++◌, length, map, refl, sym, ◌∙◌, ap, subst}
use Rattle.std.specs.List.{Contains, filter, filter_map, list_any, cons_option}
use Rattle.std.specs.Option.{is_some}
use Rattle.std.proofs.Math.Path.{fun_ext}
use Rattle.std.proofs.lemmas.List.{append-nil}
use Rattle.std.proofs.lemmas.List.Sorted.{IsPermutation-sym}
use Rattle.std.proofs.lemmas.Option.{none-some}
use Rattle.qs_terms.specs.Bag.{Distinct, SameBag, once}
use Rattle.qs_terms.specs.Dataset.{triple_of, same_triple, graph_of, names_of}
use Rattle.qs_terms.specs.Statement.{Statement, same_graph, same_statement}
use Rattle.qs_terms.specs.Term.{same_term}
use Rattle.qs_terms.specs.declared.term.Term.{Term}
use Rattle.qs_terms.proofs.FirstOnes.{filter-append, or_left_false, or_right_false, once_distinct}
use Rattle.qs_terms.proofs.SameStatement.{same_graph-Decides, same_statement-Decides}
use Rattle.qs_dict.specs.inner.Dict.{term_at, number_of}
use Rattle.qs_dict.proofs.Numbers.{exact_number}
use Rattle.qs_store.specs.Content.{Content}
use Rattle.qs_store.specs.inner.Content.{IsContent, KnowsItsTerms}
use Rattle.qs_store.proofs.Members.{nothing, head_or_tail, here, there}
use Rattle.qs_store.specs.WholeGraphs.{is_named, put_into}
use Rattle.qs_store.specs.declared.active.Active.{Active}
use Rattle.qs_store.specs.declared.active.Active.TheVariants.{Default}
use Rattle.qs_store.specs.declared.active.Active.TheVariants as active
use Rattle.qs_store.specs.declared.default_graph.DefaultGraph.{DefaultGraph}
use Rattle.qs_store.specs.declared.default_graph.DefaultGraph.TheVariants.{Stored, Union}
use Rattle.qs_algebra_solutions.specs.Solution.{binding}
use Rattle.qs_algebra_solutions.specs.Operators as of
use Rattle.qs_algebra_patterns.specs.Basic.{Graph as Triples}
use Rattle.qs_algebra_patterns.specs.Eval.{Found, Stepped, eval, eval_level, step_level, in_each}
use Rattle.qs_algebra_patterns.specs.declared.pattern.PatternNode.{PatternNode, fold-PatternNode}
use Rattle.qs_algebra_patterns.specs.declared.pattern.PatternNode.TheOpen.{PatternNode-F, Basic, Group, Union as Unite, Graph, EachGraph, Values}
use Rattle.qs_store.specs.inner.ActiveGraph.{active_graph, named_graph, is_named as has_name}
use Rattle.qs_algebra_patterns.specs.declared.named_pattern.Pattern.{Pattern}
use Rattle.qs_plan.specs.inner.Plans.{IsPlanOf, plan_list}
use Rattle.qs_plan.specs.declared.plan_type.Plan.{Plan}
use Rattle.qs_store.specs.Visible.{visible}
use Rattle.qs_store.specs.inner.Visible.{visible_quads}
use Rattle.qs_query_solutions.specs.inner.Collected.{Collection, CollectsAfter}
use Rattle.qs_query_solutions.proofs.Collecting.{after_same}

-- ---- the elements of a list, each once

module _ {X : Type 0} (same : X → X → Bool) where
  kept_all : (x : X) (xs : List X) → list_any (same x) xs ≡ false → filter (λ y. not (same x y)) xs ≡ xs
  kept_all x [] h = refl
  kept_all x (y ∷ ys) h = rw (or_left_false (same x y) (list_any (same x) ys) h) (ap (λ l. y ∷ l) (kept_all x ys (or_right_false (same x y) (list_any (same x) ys) h)))

  -- where none stands twice, all are left
  pub once_all : (xs : List X) → Distinct same xs → once same xs ≡ xs
  once_all [] d = refl
  once_all (x ∷ xs) d = ap (λ l. x ∷ filter (λ y. not (same x y)) l) (once_all xs d.1) ∙ ap (λ l. x ∷ l) (kept_all x xs d.0)

  none_kept_of : (x : X) (p : X → Bool) (xs : List X) → list_any (same x) xs ≡ false → list_any (same x) (filter p xs) ≡ false
  none_kept_of x p [] h = refl
  none_kept_of x p (y ∷ ys) h = at (p y) (or_left_false (same x y) (list_any (same x) ys) h) (none_kept_of x p ys (or_right_false (same x y) (list_any (same x) ys) h))
    where
      at : (b : Bool) → same x y ≡ false → list_any (same x) (filter p ys) ≡ false → list_any (same x) (cond b (y ∷ filter p ys) (filter p ys)) ≡ false
      at true e k = rw (e, k) refl
      at false e k = k

  none_once : (x : X) (xs : List X) → list_any (same x) xs ≡ false → list_any (same x) (once same xs) ≡ false
  none_once x [] h = refl
  none_once x (y ∷ ys) h =
      let e = or_left_false (same x y) (list_any (same x) ys) h in
      let k = none_kept_of x (λ z. not (same y z)) (once same ys) (none_once x ys (or_right_false (same x y) (list_any (same x) ys) h)) in
      rw (e, k) refl

  -- no element of the one list stands in the other
  abbrev Apart : List X → List X → Type 0
  Apart [] ys = Unit {0}
  Apart (x ∷ xs) ys = (list_any (same x) ys ≡ false) × Apart xs ys

  pub once_append : (xs ys : List X) → Distinct same xs → Apart xs ys → once same (xs ++ ys) ≡ xs ++ once same ys
  once_append [] ys d a = refl
  once_append (x ∷ xs) ys d a =
      ap (λ l. x ∷ filter (λ y. not (same x y)) l) (once_append xs ys d.1 a.1)
      ∙ ap (λ l. x ∷ l) (filter-append (λ y. not (same x y)) xs (once same ys) ∙ (ap (λ l. l ++ filter (λ y. not (same x y)) (once same ys)) (kept_all x xs d.0) ∙ ap (λ l. xs ++ l) (kept_all x (once same ys) (none_once x ys a.0))))

  pub distinct_of_kept : (p : X → Bool) (xs : List X) → Distinct same xs → Distinct same (filter p xs)
  distinct_of_kept p [] d = tt
  distinct_of_kept p (x ∷ xs) d = at (p x) (none_kept_of x p xs d.0) (distinct_of_kept p xs d.1)
    where
      at : (b : Bool) → list_any (same x) (filter p xs) ≡ false → Distinct same (filter p xs) → Distinct same (cond b (x ∷ filter p xs) (filter p xs))
      at true e k = (e, k)
      at false e k = k

-- ---- quads of named graphs, and their triples in the default graph

abbrev named : List Statement → List Statement
named quads = filter is_named quads

abbrev merged : List Statement → List Statement
merged quads = map (put_into None) (named quads)

has_no_name : (q : Statement) (quads : List Statement) → is_named q ≡ true → list_any (same_statement q) (map (put_into None) quads) ≡ false
has_no_name q [] h = refl
has_no_name q (r ∷ quads) h = at q.graph h (has_no_name q quads h)
  where
    at : (g : Option Term) → is_some g ≡ true → list_any (same_statement q) (map (put_into None) quads) ≡ false → ((same_graph g None && (same_term q.subject r.subject && (same_term q.predicate r.predicate && same_term q.object r.object))) || list_any (same_statement q) (map (put_into None) quads)) ≡ false
    at None e k = let f : false ≡ true = e in cc
    at (Some n) e k = k

all_apart : (quads : List Statement) (rest : List Statement) → Apart same_statement (named quads) (map (put_into None) rest)
all_apart [] rest = tt
all_apart (q ∷ quads) rest = at (is_named q) refl (all_apart quads rest)
  where
    at : (b : Bool) → is_named q ≡ b → Apart same_statement (named quads) (map (put_into None) rest) → Apart same_statement (cond b (q ∷ named quads) (named quads)) (map (put_into None) rest)
    at true e k = (has_no_name q rest e, k)
    at false e k = k

union_is : (quads : List Statement) → Distinct same_statement quads → once same_statement (visible Union quads) ≡ named quads ++ once same_statement (merged quads)
union_is quads d = once_append same_statement (named quads) (merged quads) (distinct_of_kept same_statement is_named quads d) (all_apart quads (named quads))

-- ---- graphs of what is seen

-- all of these stand in the default graph
abbrev AllDefault : List Statement → Type 0
AllDefault [] = Unit {0}
AllDefault (q ∷ quads) = (q.graph ≡ None) × AllDefault quads

default_merged : (quads : List Statement) → AllDefault (map (put_into None) quads)
default_merged [] = tt
default_merged (q ∷ quads) = (refl, default_merged quads)

default_kept : (p : Statement → Bool) (quads : List Statement) → AllDefault quads → AllDefault (filter p quads)
default_kept p [] h = tt
default_kept p (q ∷ quads) h = at (p q) (default_kept p quads h.1)
  where
    at : (b : Bool) → AllDefault (filter p quads) → AllDefault (cond b (q ∷ filter p quads) (filter p quads))
    at true k = (h.0, k)
    at false k = k

default_once : (quads : List Statement) → AllDefault quads → AllDefault (once same_statement quads)
default_once [] h = tt
default_once (q ∷ quads) h = (h.0, default_kept (λ r. not (same_statement q r)) (once same_statement quads) (default_once quads h.1))

none_has_name : (n : Term) (quads : List Statement) → AllDefault quads → filter (λ q. same_graph q.graph (Some n)) quads ≡ []
none_has_name n [] h = refl
none_has_name n (q ∷ quads) h = rw h.0 (none_has_name n quads h.1)

no_names : (quads : List Statement) → AllDefault quads → filter_map (λ q. q.graph) quads ≡ []
no_names [] h = refl
no_names (q ∷ quads) h = rw h.0 (no_names quads h.1)

stands_here : (g : Option Term) → g ≡ None → same_graph g None ≡ true
stands_here g e = subst (λ g. same_graph g None ≡ true) (sym e) refl

all_stand : (quads : List Statement) → AllDefault quads → filter (λ q. same_graph q.graph None) quads ≡ quads
all_stand [] h = refl
all_stand (q ∷ quads) h =
    ap (λ b. cond b (q ∷ filter (λ q. same_graph q.graph None) quads) (filter (λ q. same_graph q.graph None) quads)) (stands_here q.graph h.0) ∙ ap (λ l. q ∷ l) (all_stand quads h.1)

module _ (n : Term) where
  abbrev has : Statement → Bool
  has q = same_graph q.graph (Some n)

  named_kept : (quads : List Statement) → filter has (named quads) ≡ filter has quads
  named_kept [] = refl
  named_kept (q ∷ quads) = at q.graph refl (named_kept quads)
    where
      by : (b : Bool) → filter has (named quads) ≡ filter has quads → cond b (q ∷ filter has (named quads)) (filter has (named quads)) ≡ cond b (q ∷ filter has quads) (filter has quads)
      by true k = ap (λ l. q ∷ l) k
      by false k = k

      at : (g : Option Term) → q.graph ≡ g → filter has (named quads) ≡ filter has quads → filter has (cond (is_some q.graph) (q ∷ named quads) (named quads)) ≡ cond (has q) (q ∷ filter has quads) (filter has quads)
      at None e k =
          ap (λ b. filter has (cond b (q ∷ named quads) (named quads))) (ap is_some e)
          ∙ (k ∙ sym (ap (λ b. cond b (q ∷ filter has quads) (filter has quads)) (ap (λ g. same_graph g (Some n)) e)))
      at (Some m) e k = ap (λ b. filter has (cond b (q ∷ named quads) (named quads))) (ap is_some e) ∙ by (has q) k

none_default : (quads : List Statement) → filter (λ q. same_graph q.graph None) (named quads) ≡ []
none_default [] = refl
none_default (q ∷ quads) = at q.graph refl (none_default quads)
  where
    at : (g : Option Term) → q.graph ≡ g → filter (λ q. same_graph q.graph None) (named quads) ≡ [] → filter (λ q. same_graph q.graph None) (cond (is_some q.graph) (q ∷ named quads) (named quads)) ≡ []
    at None e k = rw e k
    at (Some m) e k = rw e k

names_kept : (quads : List Statement) → filter_map (λ q. q.graph) (named quads) ≡ filter_map (λ q. q.graph) quads
names_kept [] = refl
names_kept (q ∷ quads) = at q.graph refl (names_kept quads)
  where
    at : (g : Option Term) → q.graph ≡ g → filter_map (λ q. q.graph) (named quads) ≡ filter_map (λ q. q.graph) quads → filter_map (λ q. q.graph) (cond (is_some q.graph) (q ∷ named quads) (named quads)) ≡ cons_option q.graph (filter_map (λ q. q.graph) quads)
    at None e k = rw e k
    at (Some m) e k = rw e (ap (λ l. m ∷ l) k)

names-append : (xs ys : List Statement) → filter_map (λ q. q.graph) (xs ++ ys) ≡ filter_map (λ q. q.graph) xs ++ filter_map (λ q. q.graph) ys
names-append [] ys = refl
names-append (q ∷ xs) ys = at q.graph (names-append xs ys)
  where
    at : (g : Option Term) → filter_map (λ q. q.graph) (xs ++ ys) ≡ filter_map (λ q. q.graph) xs ++ filter_map (λ q. q.graph) ys → cons_option g (filter_map (λ q. q.graph) (xs ++ ys)) ≡ cons_option g (filter_map (λ q. q.graph) xs) ++ filter_map (λ q. q.graph) ys
    at None k = k
    at (Some m) k = ap (λ l. m ∷ l) k

-- ---- triples in the default graph

same_there : (q r : Statement) → r.graph ≡ None → same_statement (put_into None q) r ≡ same_triple (triple_of q) (triple_of r)
same_there q r e = ap (λ g. same_graph None g && same_triple (triple_of q) (triple_of r)) e

map_kept : (q : Statement) (quads : List Statement) → AllDefault quads → map triple_of (filter (λ r. not (same_statement (put_into None q) r)) quads) ≡ filter (λ t. not (same_triple (triple_of q) t)) (map triple_of quads)
map_kept q [] h = refl
map_kept q (r ∷ quads) h =
    ap (λ b. map triple_of (cond (not b) (r ∷ filter (λ r. not (same_statement (put_into None q) r)) quads) (filter (λ r. not (same_statement (put_into None q) r)) quads))) (same_there q r h.0)
    ∙ at (same_triple (triple_of q) (triple_of r)) (map_kept q quads h.1)
  where
    at : (b : Bool) → map triple_of (filter (λ r. not (same_statement (put_into None q) r)) quads) ≡ filter (λ t. not (same_triple (triple_of q) t)) (map triple_of quads) → map triple_of (cond (not b) (r ∷ filter (λ r. not (same_statement (put_into None q) r)) quads) (filter (λ r. not (same_statement (put_into None q) r)) quads)) ≡ cond (not b) (triple_of r ∷ filter (λ t. not (same_triple (triple_of q) t)) (map triple_of quads)) (filter (λ t. not (same_triple (triple_of q) t)) (map triple_of quads))
    at true k = k
    at false k = ap (λ l. triple_of r ∷ l) k

once_merged : (quads : List Statement) → map triple_of (once same_statement (map (put_into None) quads)) ≡ once same_triple (map triple_of quads)
once_merged [] = refl
once_merged (q ∷ quads) =
    ap (λ l. triple_of q ∷ l)
    (map_kept q (once same_statement (map (put_into None) quads)) (default_once (map (put_into None) quads) (default_merged quads))
    ∙ ap (filter (λ t. not (same_triple (triple_of q) t))) (once_merged quads))

names_agree : (g : Option Term) → is_some g ≡ has_name g
names_agree None = refl
names_agree (Some n) = refl

named_same : (quads : List Statement) → named quads ≡ filter (λ q. has_name q.graph) quads
named_same [] = refl
named_same (q ∷ quads) = rw (names_agree q.graph) (by (has_name q.graph) (named_same quads))
  where
    by : (b : Bool) → named quads ≡ filter (λ q. has_name q.graph) quads → cond b (q ∷ named quads) (named quads) ≡ cond b (q ∷ filter (λ q. has_name q.graph) quads) (filter (λ q. has_name q.graph) quads)
    by true k = ap (λ l. q ∷ l) k
    by false k = k

-- ---- what is seen

module _ (c : Content) (lawful : IsContent c) where
  stored_is : visible_quads c Stored ≡ c.quads
  stored_is = once_all same_statement c.quads lawful.quads_once

  union_seen : visible_quads c Union ≡ named c.quads ++ once same_statement (merged c.quads)
  union_seen = union_is c.quads lawful.quads_once

  rest_default : AllDefault (once same_statement (merged c.quads))
  rest_default = default_once (merged c.quads) (default_merged (named c.quads))

  -- the named graphs are the same
  pub graph_seen : (d : DefaultGraph) (n : Term) → graph_of (visible_quads c d) (Some n) ≡ graph_of c.quads (Some n)
  graph_seen Stored n = ap (λ (l : List Statement). graph_of l (Some n)) stored_is
  graph_seen Union n =
      ap (λ (l : List Statement). graph_of l (Some n)) union_seen
      ∙ ap (map triple_of)
      (filter-append (λ (q : Statement). same_graph q.graph (Some n)) (named c.quads) (once same_statement (merged c.quads))
      ∙ (ap (λ l. filter (λ (q : Statement). same_graph q.graph (Some n)) (named c.quads) ++ l) (none_has_name n (once same_statement (merged c.quads)) rest_default)
      ∙ (append-nil (filter (λ (q : Statement). same_graph q.graph (Some n)) (named c.quads)) ∙ named_kept n c.quads)))

  pub names_seen : (d : DefaultGraph) → names_of (visible_quads c d) ≡ names_of c.quads
  names_seen Stored = ap names_of stored_is
  names_seen Union =
      ap names_of union_seen
      ∙ ap (once same_term)
      (names-append (named c.quads) (once same_statement (merged c.quads))
      ∙ (ap (λ l. filter_map (λ (q : Statement). q.graph) (named c.quads) ++ l) (no_names (once same_statement (merged c.quads)) rest_default)
      ∙ (append-nil (filter_map (λ (q : Statement). q.graph) (named c.quads)) ∙ names_kept c.quads)))

  -- and the default graph is the one that is read
  pub default_seen : (d : DefaultGraph) → graph_of (visible_quads c d) None ≡ active_graph c d Default
  default_seen Stored = ap (λ (l : List Statement). graph_of l None) stored_is
  default_seen Union =
      ap (λ (l : List Statement). graph_of l None) union_seen
      ∙ (ap (map triple_of)
      (filter-append (λ (q : Statement). same_graph q.graph None) (named c.quads) (once same_statement (merged c.quads))
      ∙ (ap (λ l. l ++ filter (λ (q : Statement). same_graph q.graph None) (once same_statement (merged c.quads))) (none_default c.quads)
      ∙ all_stand (once same_statement (merged c.quads)) rest_default))
      ∙ (once_merged (named c.quads) ∙ ap (λ l. once same_triple (map triple_of l)) (named_same c.quads)))

  if_same : {X : Type 0} (a b : Bool) (x y z : X) → a ≡ b → x ≡ y → (if a then x else z) ≡ (if b then y else z)
  if_same a b x y z e f = rw (e, f) refl

  each_seen : (width : ℕ) (d : DefaultGraph) (v : ℕ) (part : Found) (names : List Term) → in_each width (visible_quads c d) v part names ≡ in_each width c.quads v part names
  each_seen width d v part [] = refl
  each_seen width d v part (n ∷ names) =
      ap (λ l. l ++ in_each width (visible_quads c d) v part names) (ap (λ g. of.join (part g) (binding width (v ∷ []) (Some n ∷ []) ∷ [])) (graph_seen d n))
      ∙ ap (λ l. of.join (part (graph_of c.quads (Some n))) (binding width (v ∷ []) (Some n ∷ []) ∷ []) ++ l) (each_seen width d v part names)

  level_seen : (width : ℕ) (d : DefaultGraph) (p : PatternNode-F Found Stepped) (graph : Triples) → eval_level width (visible_quads c d) p graph ≡ eval_level width c.quads p graph
  level_seen width d (Basic pattern) graph = refl
  level_seen width d (Group steps conditions) graph = refl
  level_seen width d (Unite parts) graph = refl
  level_seen width d (Graph name part) graph =
      if_same (list_any (same_term name) (names_of (visible_quads c d))) (list_any (same_term name) (names_of c.quads)) (part (graph_of (visible_quads c d) (Some name))) (part (graph_of c.quads (Some name))) []
      (ap (list_any (same_term name)) (names_seen d)) (ap part (graph_seen d name))
  level_seen width d (EachGraph v part) graph = each_seen width d v part (names_of (visible_quads c d)) ∙ ap (in_each width c.quads v part) (names_seen d)
  level_seen width d (Values table) graph = refl

  -- so a pattern means the same
  pub eval_seen : (width : ℕ) (d : DefaultGraph) (p : PatternNode) (graph : Triples) → eval width (visible_quads c d) p graph ≡ eval width c.quads p graph
  eval_seen width d p graph =
      ap (λ (level : PatternNode-F Found Stepped → Found). fold-PatternNode Found Stepped level step_level p graph) (fun_ext (λ q. fun_ext (λ g. level_seen width d q g)))

-- ---- the graph of a name

none_in : (q : Statement) (name : Option Term) (quads : List Statement) → q.graph ≡ name → list_any (same_statement q) quads ≡ false → list_any (same_triple (triple_of q)) (graph_of quads name) ≡ false
none_in q name [] is h = refl
none_in q name (r ∷ quads) is h =
    at (same_graph r.graph name) refl (or_left_false (same_statement q r) (list_any (same_statement q) quads) h) (none_in q name quads is (or_right_false (same_statement q r) (list_any (same_statement q) quads) h))
  where
    at : (b : Bool) → same_graph r.graph name ≡ b → same_statement q r ≡ false → list_any (same_triple (triple_of q)) (graph_of quads name) ≡ false → list_any (same_triple (triple_of q)) (map triple_of (cond b (r ∷ filter (λ q. same_graph q.graph name) quads) (filter (λ q. same_graph q.graph name) quads))) ≡ false
    at false e s k = k
    at true e s k =
        let f : r.graph ≡ name = (same_graph-Decides r.graph name).0 e in
        let g : same_graph q.graph r.graph ≡ true = (same_graph-Decides q.graph r.graph).1 (is ∙ sym f) in
        let d : same_triple (triple_of q) (triple_of r) ≡ false = rw g at s in
        rw (d, k) refl

-- no triple stands twice in a graph, where no statement stands twice in the quads
graph_distinct : (name : Option Term) (quads : List Statement) → Distinct same_statement quads → Distinct same_triple (graph_of quads name)
graph_distinct name [] d = tt
graph_distinct name (q ∷ quads) d = at (same_graph q.graph name) refl (graph_distinct name quads d.1)
  where
    at : (b : Bool) → same_graph q.graph name ≡ b → Distinct same_triple (graph_of quads name) → Distinct same_triple (map triple_of (cond b (q ∷ filter (λ q. same_graph q.graph name) quads) (filter (λ q. same_graph q.graph name) quads)))
    at false e k = k
    at true e k = (none_in q name quads ((same_graph-Decides q.graph name).0 e) d.0, k)

-- the number of a term that is there
record Number (known : List Term) (t : Term) : Type 0 where
  pub number : ℕ
  pub is : term_at known number ≡ Some t

later_number : (x : Term) (known : List Term) (t : Term) (n : ℕ) → term_at known n ≡ Some t → Number (x ∷ known) t
later_number x known t zero h = let f : None ≡ Some t = h in cc
later_number x known t (suc i) h = record { number = suc (suc i); is = h }

number_there : (known : List Term) (t : Term) → Contains known t → Number known t
number_there [] t c = absurd (nothing t c)
number_there (x ∷ known) t c =
    ⊎_elim (λ s. record { number = 1; is = ap Some s }) (λ k. let m = number_there known t k in later_number x known t m.number m.is) (head_or_tail x known t c)

named_read : (c : Content) (d : DefaultGraph) (name : Term) (n : ℕ) → term_at c.known n ≡ Some name → active_graph c d (active.Graph n) ≡ graph_of c.quads (Some name)
named_read c d name zero e = let f : None ≡ Some name = e in cc
named_read c d name (suc i) e = ap (named_graph c.quads) e

none_kept_in : (n : Term) (quads : List Statement) → ((q : Statement) → Contains quads q → q.graph ≡ Some n → ⊥) → filter (λ q. same_graph q.graph (Some n)) quads ≡ []
none_kept_in n [] h = refl
none_kept_in n (q ∷ quads) h =
    at (same_graph q.graph (Some n)) refl (none_kept_in n quads (λ r k e. h r (there q r quads k) e))
  where
    at : (b : Bool) → same_graph q.graph (Some n) ≡ b → filter (λ q. same_graph q.graph (Some n)) quads ≡ [] → cond b (q ∷ filter (λ q. same_graph q.graph (Some n)) quads) (filter (λ q. same_graph q.graph (Some n)) quads) ≡ []
    at true e k = absurd (h q (here q quads) ((same_graph-Decides q.graph (Some n)).0 e))
    at false e k = k

-- the graph that is active is that of the name, or the default graph
abbrev pub IsActiveFor : Content → DefaultGraph → Option Term → Active → Type 0
IsActiveFor c d name active = active_graph c d active ≡ graph_of (visible_quads c d) name

pub active_default : (c : Content) → IsContent c → (d : DefaultGraph) → IsActiveFor c d None Default
active_default c lawful d = sym (default_seen c lawful d)

pub active_named : (c : Content) → IsContent c → (d : DefaultGraph) (name : Term) (n : ℕ) → Some n ≡ number_of c.known name → IsActiveFor c d (Some name) (active.Graph n)
active_named c lawful d name n h =
    named_read c d name n ((exact_number c.known name lawful.terms_once n).0 (sym h)) ∙ sym (graph_seen c lawful d name)

pub active_none : (c : Content) → IsContent c → KnowsItsTerms c → (d : DefaultGraph) (name : Term) → None ≡ number_of c.known name → IsActiveFor c d (Some name) active.Empty
active_none c lawful knows d name h =
    sym (graph_seen c lawful d name ∙ ap (map triple_of) (none_kept_in name c.quads unknown))
  where
    unknown : (q : Statement) → Contains c.quads q → q.graph ≡ Some name → ⊥
    unknown q k g =
        let n = number_there c.known name ((knows q k).graph name g) in
        let f : number_of c.known name ≡ Some n.number = (exact_number c.known name lawful.terms_once n.number).1 n.is in
        none-some n.number (h ∙ f)

-- ---- solutions

module _ (c : Content) (lawful : IsContent c) (d : DefaultGraph) (plan : Plan) (pattern : Pattern) (law : IsPlanOf plan pattern) (name : Option Term) (active : Active) (is : IsActiveFor c d name active) where
  -- a plan of the pattern has the solutions of the pattern over what queries see
  pub planned_as_seen : SameBag (plan_list plan c.quads (active_graph c d active)) (eval (length pattern.names) (visible_quads c d) pattern.root (graph_of (visible_quads c d) name))
  planned_as_seen =
      let once : Distinct same_triple (active_graph c d active) =
      subst (Distinct same_triple) (sym is) (graph_distinct name (visible_quads c d) (once_distinct same_statement same_statement-Decides (visible d c.quads))) in
      subst (SameBag (plan_list plan c.quads (active_graph c d active))) (ap (eval (length pattern.names) c.quads pattern.root) is ∙ sym (eval_seen c lawful (length pattern.names) d pattern.root (graph_of (visible_quads c d) name)))
      (law.same c.quads (active_graph c d active) lawful.quads_once once)

  -- what is collected of the solutions of the plan is collected of the pattern's over what queries see
  pub collected_are_seen : (offset : ℕ) (old new : Collection) → CollectsAfter offset old new (plan_list plan c.quads (active_graph c d active))
      → CollectsAfter offset old new (eval (length pattern.names) (visible_quads c d) pattern.root (graph_of (visible_quads c d) name))
  collected_are_seen offset old new k =
      after_same offset old new (plan_list plan c.quads (active_graph c d active)) (eval (length pattern.names) (visible_quads c d) pattern.root (graph_of (visible_quads c d) name))
      (IsPermutation-sym (plan_list plan c.quads (active_graph c d active)) (eval (length pattern.names) (visible_quads c d) pattern.root (graph_of (visible_quads c d) name)) planned_as_seen) k
