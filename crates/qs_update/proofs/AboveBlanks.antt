-- Effects keep their number above all blank nodes: by the operation's form.
use Rattle.std.proofs.Common.{◌≡◌, ◌≤◌, ℕ, ◌+◌, ◌*◌, Bool, true, false, ◌&&◌, nat_lt, if◌then◌else◌, List, [], ◌∷◌, map, length, Option, Some, None, option_map, Ok, Err, IfOk, IsTrue, All, inl, inr, refl, sym, subst, arith}
use Rattle.std.specs.List.{filter}
use Rattle.std.proofs.lemmas.List.Elements.{All-from_recursion}
use Rattle.std.proofs.lemmas.List.Sorted.{All-permutation, IsPermutation-sym}
use Rattle.qs_terms.specs.Bag.{once}
use Rattle.qs_terms.specs.Dataset.{is_term_below, is_statement_below, is_above_blanks, graph_of}
use Rattle.qs_terms.specs.inner.Dataset.{is_graph_below}
use Rattle.qs_terms.specs.Outcome.{Outcome, and_then}
use Rattle.qs_terms.specs.Statement.{Statement, same_graph, same_statement, is_iri}
use Rattle.qs_terms.specs.declared.fault.QFault.{QFault}
use Rattle.qs_terms.specs.declared.fault.QFault.TheVariants as fault
use Rattle.qs_terms.specs.declared.term.Term.{Term}
use Rattle.qs_terms.specs.declared.term.Term.TheVariants as value
use Rattle.qs_syntax_tree.specs.declared.update.OnMissing.{OnMissing}
use Rattle.qs_syntax_tree.specs.declared.update.OnMissing.TheVariants as on_missing
use Rattle.qs_syntax_ast.specs.declared.pattern.Group.{Group}
use Rattle.qs_syntax_ast.specs.declared.term.Variable.{Variable}
use Rattle.qs_syntax_ast.specs.declared.update.GraphOrDefault.{GraphOrDefault}
use Rattle.qs_syntax_ast.specs.declared.update.GraphOrDefault.TheVariants as graph
use Rattle.qs_syntax_ast.specs.declared.update.Operation.{Operation}
use Rattle.qs_syntax_ast.specs.declared.update.Operation.TheVariants as operation
use Rattle.qs_syntax_ast.specs.declared.update.QuadBlock.{QuadBlock}
use Rattle.qs_syntax_ast.specs.declared.update.Transfer.{Transfer}
use Rattle.qs_syntax_scope.specs.Firsts.{firsts, names_of}
use Rattle.qs_syntax_scope.specs.Names.{Name}
use Rattle.qs_algebra_solutions.specs.Solution.{Solution, unbound}
use Rattle.qs_algebra_patterns.specs.Eval.{eval}
use Rattle.qs_algebra_patterns.specs.declared.pattern.PatternNode.{PatternNode}
use Rattle.qs_query_template.specs.Instances.{instances, next_after}
use Rattle.qs_query_template.specs.Template.{template_of_blocks, template_in}
use Rattle.qs_query_template.specs.declared.template.Template.{Template}
use Rattle.qs_algebra.specs.Translation.{translated_where, translated_blocks}
use Rattle.qs_algebra_patterns.specs.declared.named_pattern.Pattern.{Pattern}
use Rattle.qs_update_laws.specs.inner.Below.{is_solution_below, have_iri_predicates}
use Rattle.qs_update_laws.specs.inner.NoBlank.{has_no_blank}
use Rattle.qs_update_laws.specs.inner.Written.{values_have_no_blank, operation_values_have_no_blank}
use Rattle.qs_store.specs.declared.default_graph.DefaultGraph.{DefaultGraph}
use Rattle.qs_store.specs.declared.default_graph.DefaultGraph.TheVariants.{Stored, Union}
use Rattle.qs_update.specs.Effect.{nothing, modified, of_data, solutions, IsModified, cleared, fault_or_nothing, created, put_over, removed_by, transferred, IsEffect}
use Rattle.qs_update.specs.inner.Effect.{deletion}
use Rattle.qs_update.specs.Graphs.{is_in, is_named, in_graph, exists, put_into, copies, graph_name, visible}
use Rattle.qs_update.specs.inner.Lawful.{IsLawful}
use Rattle.qs_update.specs.declared.effect.Effect.{Effect}
use Rattle.qs_store.specs.declared.removal.Removal.{Removal}
use Rattle.qs_store.specs.declared.removal.Removal.TheVariants as removal
use Rattle.qs_update.proofs.Tested.{both_hold, and_both, all_filtered, all_once, all_appended, all_mapped}

module _ (next : ℕ) where
  abbrev Lawful : Outcome Effect → Type 0
  Lawful o = IfOk o (IsLawful next)

  abbrev Above : List Statement → Type 0
  Above quads = is_above_blanks next quads ≡ true

  abbrev AreBelow : List Solution → Type 0
  AreBelow rows = All (λ (m : Solution). is_solution_below next m ≡ true) rows

  pub due : (outcome o : Outcome Effect) → outcome ≡ o → Lawful o → Lawful outcome
  due outcome o e h = subst (λ (x : Outcome Effect). Lawful x) (sym e) h

  either : (b : Bool) (o p : Outcome Effect) → Lawful o → Lawful p → Lawful (if b then o else p)
  either true o p h k = h
  either false o p h k = k

  -- ---- nothing is added

  nothing_lawful : IsLawful next (nothing next)
  nothing_lawful = (omega arith, refl)

  silent_lawful : (m : OnMissing) (f : QFault) → Lawful (fault_or_nothing m f next)
  silent_lawful on_missing.Fault f = tt
  silent_lawful on_missing.Silent f = nothing_lawful

  created_lawful : (m : OnMissing) (name : List ℕ) (quads : List Statement) → Lawful (created m name quads next)
  created_lawful m name quads =
      either (exists (Some (value.Iri name)) quads) (fault_or_nothing m fault.GraphExists next) (Ok (nothing next)) (silent_lawful m fault.GraphExists) nothing_lawful

  -- ---- quads in other graphs

  put_below : (name : Option Term) → is_graph_below next name ≡ true → (q : Statement) → is_statement_below next q ≡ true → is_statement_below next (put_into name q) ≡ true
  put_below name h q k =
      let ends = is_term_below next q.subject && is_term_below next q.object in
      and_both (is_graph_below next name) ends h (both_hold (is_graph_below next q.graph) ends k).1

  name_below : (g : GraphOrDefault) → is_graph_below next (graph_name g) ≡ true
  name_below graph.Default = refl
  name_below (graph.Graph i) = refl

  copies_below : (from to : Option Term) (quads : List Statement) → is_graph_below next to ≡ true → Above quads → Above (copies from to quads)
  copies_below from to quads h above =
      all_mapped (is_statement_below next) (put_into to) (put_below to h) (in_graph from quads) (all_filtered (is_statement_below next) (is_in from) quads above)

  over_lawful : (b : Bool) (removed added : List Statement) → Above added → IsLawful next (if b then nothing next else record { removed = removed; added = added; next = next })
  over_lawful true removed added h = nothing_lawful
  over_lawful false removed added h = (omega arith, h)

  transferred_lawful : (r : Removal) (t : Transfer) (quads : List Statement) → Above quads → Lawful (transferred r t quads next)
  transferred_lawful r t quads above =
      let from = graph_name t.from in
      let to = graph_name t.to in
      let removed = removed_by r from to quads in
      either (exists from quads) (Ok (put_over removed from to quads next)) (fault_or_nothing t.on_missing fault.NoGraph next)
      (over_lawful (same_graph from to) removed (copies from to quads) (copies_below from to quads (name_below t.to) above))
      (silent_lawful t.on_missing fault.NoGraph)

  -- ---- templates

  abbrev left : List Statement → ℕ → List Statement → Outcome Effect
  left removed after added = Ok (record { removed = removed; added = added; next = after })

  counted : (full : Bool) (removed added : List Statement) (after : ℕ) → next ≤ after → is_above_blanks after added ≡ true
      → Lawful (and_then (if full then Err fault.Full else Ok added) (left removed after))
  counted true removed added after h k = tt
  counted false removed added after h k = (h, k)

  modified_lawful : (delete insert : Template) (rows : List Solution) → is_above_blanks (next_after insert next (length rows)) (instances insert next rows) ≡ true
      → Lawful (modified delete insert next rows)
  modified_lawful delete insert rows h =
      let after = next_after insert next (length rows) in
      counted (nat_lt 18446744073709551615 after) (instances (deletion delete) next rows) (instances insert next rows) after (more next (insert.blanks * length rows)) h
    where
      more : (a b : ℕ) → a ≤ a + b
      more a b = omega arith

  under_lawful : (max_rows : ℕ) (delete insert : Template) (all : List Solution) (outcome : Outcome Effect)
      → ((rows : List Solution) → AreBelow rows → is_above_blanks (next_after insert next (length rows)) (instances insert next rows) ≡ true)
      → AreBelow all → IsModified max_rows delete insert next all outcome → Lawful outcome
  under_lawful max_rows delete insert all outcome made below (inl x) = due outcome (Err fault.TooManyRows) x.1 tt
  under_lawful max_rows delete insert all outcome made below (inr x) =
      due outcome (modified delete insert next x.1) x.3
      (modified_lawful delete insert x.1 (made x.1 (All-permutation (λ (m : Solution). is_solution_below next m ≡ true) all x.1 (IsPermutation-sym x.1 all x.2) below)))

  -- ---- quads as a WHERE sees them

  seen_below : (default : DefaultGraph) (quads : List Statement) → Above quads → Above (visible default quads)
  seen_below Stored quads h = h
  seen_below Union quads h =
      let below = is_statement_below next in
      let k = all_filtered below is_named quads h in
      all_appended below (filter is_named quads) (map (put_into None) (filter is_named quads)) k (all_mapped below (put_into None) (put_below None refl) (filter is_named quads) k)

abbrev predicate_is_iri : Statement → Bool
predicate_is_iri q = is_iri q.predicate

seen_iris : (default : DefaultGraph) (quads : List Statement) → have_iri_predicates quads ≡ true → have_iri_predicates (visible default quads) ≡ true
seen_iris Stored quads h = h
seen_iris Union quads h =
    let k = all_filtered predicate_is_iri is_named quads h in
    all_appended predicate_is_iri (filter is_named quads) (map (put_into None) (filter is_named quads)) k (all_mapped predicate_is_iri (put_into None) (λ q l. l) (filter is_named quads) k)

-- ---- operations

-- what is known of solutions, of patterns and of templates
abbrev pub Bound : Type 0
Bound =
    (next width : ℕ) (quads : List Statement) (pattern : PatternNode) (name : Option Term) → IsTrue (has_no_blank pattern) → IsTrue (is_above_blanks next quads) → IsTrue (have_iri_predicates quads)
    → All (λ (m : Solution). is_solution_below next m ≡ true) (eval width quads pattern (graph_of quads name))

abbrev pub Made : Type 0
Made =
    (graph : Option (List ℕ)) (names : List Name) (blocks : List QuadBlock) (next : ℕ) (rows : List Solution) → All (λ (m : Solution). is_solution_below next m ≡ true) rows
    → IsTrue (is_above_blanks (next_after (template_in graph (template_of_blocks names blocks)) next (length rows)) (instances (template_in graph (template_of_blocks names blocks)) next rows))

abbrev pub Wheres : Type 0
Wheres = (variables : List Variable) (group : Group) → IsTrue (values_have_no_blank group) → IsTrue (has_no_blank (translated_where variables group).root)

abbrev pub Blocks : Type 0
Blocks = (variables : List Variable) (blocks : List QuadBlock) → IsTrue (has_no_blank (translated_blocks variables blocks).root)

pub data_lawful : Made → (delete insert : List QuadBlock) (next : ℕ) → IfOk (of_data delete insert next) (IsLawful next)
data_lawful made delete insert next =
    modified_lawful next (template_of_blocks [] delete) (template_of_blocks [] insert) (unbound 0 ∷ [])
    (made None [] insert next (unbound 0 ∷ []) (All-from_recursion (λ (m : Solution). is_solution_below next m ≡ true) (unbound 0 ∷ []) (refl, tt)))

module _ (bound : Bound) (made : Made) (wheres : Wheres) (blocks : Blocks) (max_rows : ℕ) (default : DefaultGraph) where
  rows_below : (next : ℕ) (quads : List Statement) (pattern : Pattern) (name : Option Term) → has_no_blank pattern.root ≡ true → is_above_blanks next quads ≡ true → have_iri_predicates quads ≡ true
      → AreBelow next (solutions pattern default name quads)
  rows_below next quads pattern name h above iris =
      bound next (length pattern.names) (once same_statement (visible default quads)) pattern.root name h
      (all_once (is_statement_below next) same_statement (visible default quads) (seen_below next default quads above))
      (all_once predicate_is_iri same_statement (visible default quads) (seen_iris default quads iris))

  pub operation_lawful : (o : Operation) (quads : List Statement) (next : ℕ) (outcome : Outcome Effect) → is_above_blanks next quads ≡ true → have_iri_predicates quads ≡ true → operation_values_have_no_blank o ≡ true
      → IsEffect max_rows default o quads next outcome → IfOk outcome (IsLawful next)
  operation_lawful (operation.InsertData b) quads next outcome above iris values e = due next outcome (of_data [] b next) e (data_lawful made [] b next)
  operation_lawful (operation.DeleteData b) quads next outcome above iris values e = due next outcome (of_data b [] next) e (data_lawful made b [] next)
  operation_lawful (operation.DeleteWhere d) quads next outcome above iris values e =
      let variables = firsts d.variables in
      let names = names_of variables in
      let pattern = translated_blocks variables d.quads in
      under_lawful next max_rows (template_of_blocks names d.quads) (template_of_blocks names []) (solutions pattern default None quads) outcome
      (made None names [] next) (rows_below next quads pattern None (blocks variables d.quads) above iris) e
  operation_lawful (operation.Modify m) quads next outcome above iris values e =
      let variables = firsts m.variables in
      let names = names_of variables in
      let pattern = translated_where variables m.pattern in
      let name = option_map value.Iri m.with in
      under_lawful next max_rows (template_in m.with (template_of_blocks names m.delete)) (template_in m.with (template_of_blocks names m.insert)) (solutions pattern default name quads) outcome
      (made m.with names m.insert next) (rows_below next quads pattern name (wheres variables m.pattern values) above iris) e
  operation_lawful (operation.Clear _ target) quads next outcome above iris values e = due next outcome (Ok (cleared target quads next)) e (omega arith, refl)
  operation_lawful (operation.Drop _ target) quads next outcome above iris values e = due next outcome (Ok (cleared target quads next)) e (omega arith, refl)
  operation_lawful (operation.Create on_exists name) quads next outcome above iris values e = due next outcome (created on_exists name quads next) e (created_lawful next on_exists name quads)
  operation_lawful (operation.Add t) quads next outcome above iris values e = due next outcome (transferred removal.Nothing t quads next) e (transferred_lawful next removal.Nothing t quads above)
  operation_lawful (operation.Move t) quads next outcome above iris values e = due next outcome (transferred removal.Both t quads next) e (transferred_lawful next removal.Both t quads above)
  operation_lawful (operation.Copy t) quads next outcome above iris values e = due next outcome (transferred removal.Target t quads next) e (transferred_lawful next removal.Target t quads above)
