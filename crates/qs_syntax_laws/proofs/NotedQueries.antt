-- A query notes the variables that stand in it, and lists those that were noted.
use Rattle.std.proofs.Common.{◌≡◌, ℕ, Bool, true, false, if◌then◌else◌, List, [], ◌∷◌, ◌++◌, map, Option, Some, None, Ok, Err, refl, subst}
use Rattle.std.specs.List.{AllByRecursion, flat_map}
use Rattle.qs_terms.specs.Outcome.{Outcome, and_then}
use Rattle.qs_syntax_tree.specs.declared.query.PrefixDeclaration.{PrefixDeclaration}
use Rattle.qs_syntax_tree.specs.declared.query.Ask.{Ask as WrittenAsk}
use Rattle.qs_syntax_tree.specs.declared.query.Construct.{Construct as WrittenConstruct}
use Rattle.qs_syntax_tree.specs.declared.query.OrderCondition.{OrderCondition as WrittenOrder}
use Rattle.qs_syntax_tree.specs.declared.query.Projection.{Projection as WrittenProjection}
use Rattle.qs_syntax_tree.specs.declared.query.Projection.TheVariants as written_projection
use Rattle.qs_syntax_tree.specs.declared.query.Query.{Query as WrittenQuery}
use Rattle.qs_syntax_tree.specs.declared.query.QueryForm.{QueryForm as WrittenForm}
use Rattle.qs_syntax_tree.specs.declared.query.QueryForm.TheVariants as written_form
use Rattle.qs_syntax_tree.specs.declared.query.Select.{Select as WrittenSelect}
use Rattle.qs_syntax_tree.specs.declared.query.SelectItem.{SelectItem as WrittenItem}
use Rattle.qs_syntax_tree.specs.declared.query.SelectItem.TheVariants as written_item
use Rattle.qs_syntax_tree.specs.declared.query.SolutionModifiers as written
use Rattle.qs_syntax_tree.specs.declared.token.Span.{Span}
use Rattle.qs_syntax_ast.specs.declared.query.Ask.{Ask}
use Rattle.qs_syntax_ast.specs.declared.query.Construct.{Construct}
use Rattle.qs_syntax_ast.specs.declared.query.OrderCondition.{OrderCondition}
use Rattle.qs_syntax_ast.specs.declared.query.Projection.TheVariants as projection
use Rattle.qs_syntax_ast.specs.declared.query.Query.{Query}
use Rattle.qs_syntax_ast.specs.declared.query.QueryForm.TheVariants as form
use Rattle.qs_syntax_ast.specs.declared.query.Select.{Select}
use Rattle.qs_syntax_ast.specs.declared.query.SelectItem.TheVariants as item
use Rattle.qs_syntax_resolve.specs.Names as of
use Rattle.qs_syntax_resolve.specs.Names.{Names, nothing_declared}
use Rattle.qs_syntax_resolve.specs.declared.resolver.Resolver.{Resolver}
use Rattle.qs_syntax_resolve.specs.Data.{inline_data}
use Rattle.qs_syntax_resolve.specs.Expression.{expression_of}
use Rattle.qs_syntax_resolve.specs.Leaves.{variable}
use Rattle.qs_syntax_resolve.specs.Pattern.{group_of}
use Rattle.qs_syntax_resolve.specs.Query.{declaration, prologue, order_of, count, modifiers, item_of, projection_of, select, construct, ask, form_of, query}
use Rattle.qs_syntax_resolve.specs.Resolved.{resolved_query}
use Rattle.qs_syntax_resolve.specs.inner.Resolved.{start, if_lawful}
use Rattle.qs_syntax_resolve.specs.Resolving.{all, optional}
use Rattle.qs_syntax_resolve.specs.Triples.{triples_after}
use Rattle.qs_syntax_scope.specs.Firsts.{names_of}
use Rattle.qs_syntax_scope.specs.KeepsScope.{trailing_names}
use Rattle.qs_syntax_scope.specs.Names.{Name}
use Rattle.qs_syntax_scope.specs.Variables.{column_names}
use Rattle.qs_syntax_scope.specs.inner.Laws.{AreListed}
use Rattle.qs_syntax_scope.specs.inner.VariablesIn.{in_expression, in_group, in_item, in_projection, in_keys, in_form, in_query}
use Rattle.qs_syntax_laws.proofs.NotedSteps.{Among, same, through, none, placing, Found, Takes, followed_by, Since, Notes, ends, of_fewer, goes_on, reads, makes, each, in_option, maybe, since_here, lists}
use Rattle.qs_syntax_laws.proofs.NotedLeaves.{name_of, variable_notes, empty, Keeps, keeps}
use Rattle.qs_syntax_laws.proofs.NotedExpressions.{expression_notes}
use Rattle.qs_syntax_laws.proofs.NotedTriples.{found_in, triples_note}
use Rattle.qs_syntax_laws.proofs.NotedGroups.{data_note, group_notes}

-- ---- prefixes

declared_keeps : (s : Resolver) (o : Outcome Names) → Found (Keeps s) (and_then o (λ names. Ok (tt {0}, record s { names = names })))
declared_keeps s (Ok names) = refl
declared_keeps s (Err e) = tt

declaration_notes : (d : PrefixDeclaration) → Notes [] empty (declaration d)
declaration_notes d = keeps (declaration d) (λ s. declared_keeps s (of.declare s.names d))

pub prologue_notes : (ds : List PrefixDeclaration) → Notes [] empty (prologue ds)
prologue_notes [] = ends tt (none [])
prologue_notes (d ∷ ds) = goes_on (declaration d) _ (declaration_notes d) (λ u. prologue_notes ds)

-- ---- modifiers

abbrev in_order : OrderCondition → List Name
in_order c = in_expression c.key

order_notes : (o : WrittenOrder) → Notes [] in_order (order_of o)
order_notes o = makes (expression_of o.key) (λ key. record { direction = o.direction; key = key }) (expression_notes o.key) (λ key. same (in_expression key))

each_order : (os : List WrittenOrder) → AllByRecursion (Notes [] in_order) (map order_of os)
each_order [] = tt
each_order (o ∷ os) = (order_notes o, each_order os)

count_notes : (span : Span) → Notes [] empty (count span)
count_notes span = keeps (count span) (λ s. refl)

counts_note : (o : Option Span) → Notes [] empty (optional count o)
counts_note o = of_fewer (λ n. none _) (maybe empty count o count_notes)

modifiers_note : (m : written.SolutionModifiers) → Notes [] in_keys (modifiers m)
unfolding modifiers
modifiers_note m =
    goes_on (all (map order_of m.order)) _ (each in_order (map order_of m.order) (each_order m.order)) (λ o.
    reads (flat_map in_order o) (optional count m.limit) _ (counts_note m.limit) (λ l.
    reads (flat_map in_order o ++ []) (optional count m.offset) _ (counts_note m.offset) (λ k.
    ends (record { order = o; limit = l; offset = k }) (search placing))))

-- ---- forms

item_notes : (i : WrittenItem) → Notes [] in_item (item_of i)
item_notes (written_item.Var v) = makes (variable v) item.Variable (variable_notes v) (λ x. same (name_of x))
item_notes (written_item.As e v) =
    goes_on (expression_of e) _ (expression_notes e) (λ x. reads (in_expression x) (variable v) _ (variable_notes v) (λ y. ends (item.As x y) (same (in_expression x ++ name_of y))))

each_item : (is : List WrittenItem) → AllByRecursion (Notes [] in_item) (map item_of is)
each_item [] = tt
each_item (i ∷ is) = (item_notes i, each_item is)

projection_notes : (p : WrittenProjection) → Notes [] in_projection (projection_of p)
unfolding projection_of
projection_notes written_projection.All = ends projection.All (none [])
projection_notes (written_projection.Items is) = makes (all (map item_of is)) projection.Items (each in_item (map item_of is) (each_item is)) (λ xs. same (flat_map in_item xs))

abbrev in_select : Select → List Name
in_select s = in_projection s.projection ++ in_group s.pattern ++ in_keys s.modifiers

select_notes : (q : WrittenSelect) → Notes [] in_select (select q)
unfolding select
select_notes q =
    goes_on (projection_of q.projection) _ (projection_notes q.projection) (λ p.
    reads (in_projection p) (group_of q.pattern) _ (group_notes q.pattern) (λ g.
    reads (in_projection p ++ in_group g) (modifiers q.modifiers) _ (modifiers_note q.modifiers) (λ m.
    ends (record { duplicates = q.duplicates; projection = p; pattern = g; modifiers = m }) (same _))))

abbrev in_construct : Construct → List Name
in_construct c = found_in c.template ++ in_option in_group c.pattern ++ in_keys c.modifiers

construct_notes : (q : WrittenConstruct) → Notes [] in_construct (construct q)
unfolding construct
construct_notes q =
    goes_on (triples_after [] q.template) _ (triples_note [] q.template) (λ t.
    reads (found_in t) (optional group_of q.pattern) _ (maybe in_group group_of q.pattern group_notes) (λ g.
    reads (found_in t ++ in_option in_group g) (modifiers q.modifiers) _ (modifiers_note q.modifiers) (λ m.
    ends (record { template = t; pattern = g; modifiers = m }) (same _))))

abbrev in_ask : Ask → List Name
in_ask a = in_group a.pattern ++ in_keys a.modifiers

ask_notes : (q : WrittenAsk) → Notes [] in_ask (ask q)
unfolding ask
ask_notes q =
    goes_on (group_of q.pattern) _ (group_notes q.pattern) (λ g.
    reads (in_group g) (modifiers q.modifiers) _ (modifiers_note q.modifiers) (λ m. ends (record { pattern = g; modifiers = m }) (same _)))

form_notes : (f : WrittenForm) → Notes [] in_form (form_of f)
unfolding form_of
form_notes (written_form.Select q) = makes (select q) form.Select (select_notes q) (λ s. same (in_select s))
form_notes (written_form.Construct q) = makes (construct q) form.Construct (construct_notes q) (λ c. same (in_construct c))
form_notes (written_form.Ask q) = makes (ask q) form.Ask (ask_notes q) (λ a. same (in_ask a))

-- ---- queries

abbrev IsListed : Query → Type 0
IsListed q = Among (in_query q) (names_of q.variables)

query_lists : (q : WrittenQuery) → Takes (Since [] []) (λ a s. IsListed a) (query q)
unfolding query
query_lists q =
    followed_by (prologue q.prologue) _ ((prologue_notes q.prologue).takes [] []) (λ u.
    followed_by (form_of q.form) _ ((form_notes q.form).takes [] []) (λ f.
    followed_by (optional inline_data q.values) _ ((maybe column_names inline_data q.values data_note).takes [] (in_form f ++ [])) (λ v.
    lists [] (trailing_names v ++ (in_form f ++ [])) (λ vs. record { form = f; values = v; variables = vs }) IsListed (λ vs h.
    through (search placing) h))))

-- ---- the query of a text

abbrev IsListedIfAny : Outcome (Option Query) → Type 0
IsListedIfAny (Ok (Some q)) = IsListed q
IsListedIfAny (Ok None) = Unit {0}
IsListedIfAny (Err e) = Unit {0}

if_lawful_listed : (q : Query) (b : Bool) → IsListed q → IsListedIfAny (Ok (if b then Some q else None))
if_lawful_listed q true h = h
if_lawful_listed q false h = tt

found_listed : (o : Outcome (Query × Resolver)) → Found (λ a s. IsListed a) o → IsListedIfAny (and_then o (λ r. Ok (if_lawful r.0 r.1)))
found_listed (Ok r) h = if_lawful_listed r.0 r.1.lawful h
found_listed (Err e) h = tt

resolved_listed : (text : List ℕ) (tree : WrittenQuery) → IsListedIfAny (resolved_query text tree)
unfolding resolved_query
resolved_listed text tree =
    let first = start (nothing_declared text) in
    found_listed (query tree first) ((query_lists tree).runs first (since_here first))

pub query_is_listed : (text : List ℕ) (tree : WrittenQuery) (q : Query) → resolved_query text tree ≡ Ok (Some q) → AreListed q.variables (in_query q)
query_is_listed text tree q e = (subst IsListedIfAny e (resolved_listed text tree)).each
