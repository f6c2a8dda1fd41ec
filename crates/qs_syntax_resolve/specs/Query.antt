-- Queries with their names resolved (SPARQL 1.1 Query, 15 and 16).
use Rattle.std.specs.Prelude.{ℕ, List, [], ◌∷◌, map, Ok}
use Rattle.qs_syntax_tree.specs.declared.query.PrefixDeclaration.{PrefixDeclaration}
use Rattle.qs_syntax_tree.specs.declared.query.Ask.{Ask as WrittenAsk}
use Rattle.qs_syntax_tree.specs.declared.query.Construct.{Construct as WrittenConstruct}
use Rattle.qs_syntax_tree.specs.declared.query.OrderCondition.{OrderCondition as WrittenOrder}
use Rattle.qs_syntax_tree.specs.declared.query.Projection.{Projection as WrittenProjection}
use Rattle.qs_syntax_tree.specs.declared.query.Projection.TheVariants as written_projection
use Rattle.qs_syntax_tree.specs.declared.query.Query.{Query as WrittenQuery}
use Rattle.qs_syntax_tree.specs.declared.query.QueryForm.{QueryForm as WrittenForm}
use Rattle.qs_syntax_tree.specs.declared.query.QueryForm.TheVariants as written_form
use Rattle.qs_syntax_tree.specs.declared.query.Select.{Select as WrittenSelect}
use Rattle.qs_syntax_tree.specs.declared.query.SelectItem.{SelectItem as WrittenItem}
use Rattle.qs_syntax_tree.specs.declared.query.SelectItem.TheVariants as written_item
use Rattle.qs_syntax_tree.specs.declared.query.SolutionModifiers as written
use Rattle.qs_syntax_tree.specs.declared.token.Span.{Span}
use Rattle.qs_syntax_ast.specs.declared.query.Ask.{Ask}
use Rattle.qs_syntax_ast.specs.declared.query.Construct.{Construct}
use Rattle.qs_syntax_ast.specs.declared.query.OrderCondition.{OrderCondition}
use Rattle.qs_syntax_ast.specs.declared.query.Projection.{Projection}
use Rattle.qs_syntax_ast.specs.declared.query.Projection.TheVariants as projection
use Rattle.qs_syntax_ast.specs.declared.query.Query.{Query}
use Rattle.qs_syntax_ast.specs.declared.query.QueryForm.{QueryForm}
use Rattle.qs_syntax_ast.specs.declared.query.QueryForm.TheVariants as form
use Rattle.qs_syntax_ast.specs.declared.query.Select.{Select}
use Rattle.qs_syntax_ast.specs.declared.query.SelectItem.{SelectItem}
use Rattle.qs_syntax_ast.specs.declared.query.SelectItem.TheVariants as item
use Rattle.qs_syntax_ast.specs.declared.query.SolutionModifiers.{SolutionModifiers}
use Rattle.qs_syntax_resolve.specs.Names as of
use Rattle.qs_syntax_resolve.specs.Data.{inline_data}
use Rattle.qs_syntax_resolve.specs.Expression.{expression_of}
use Rattle.qs_syntax_resolve.specs.Leaves.{variable, variables_since}
use Rattle.qs_syntax_resolve.specs.Pattern.{group_of}
use Rattle.qs_terms.specs.Outcome.{and_then}
use Rattle.qs_syntax_resolve.specs.Resolving.{Resolving, ◌>>=◌, ◌<$>◌, pure, all, optional}
use Rattle.qs_syntax_resolve.specs.Triples.{triples_after}

-- ---- prefixes

-- a declaration holds for what follows it; a later one of the same prefix replaces the earlier
abbrev pub declaration : PrefixDeclaration → Resolving (Unit {0})
declaration d = λ s. and_then (of.declare s.names d) (λ names. Ok (tt, record s { names = names }))

abbrev pub prologue : List PrefixDeclaration → Resolving (Unit {0})
prologue [] = pure tt
prologue (d ∷ ds) = declaration d >>= (λ _. prologue ds)

-- ---- modifiers

abbrev pub order_of : WrittenOrder → Resolving OrderCondition
order_of o = expression_of o.key >>= (λ key. pure (record { direction = o.direction; key = key }))

abbrev pub count : Span → Resolving ℕ
count span = λ s. Ok (of.count s.names span, s)

unfoldable pub modifiers : written.SolutionModifiers → Resolving SolutionModifiers
modifiers m =
    all (map order_of m.order) >>= (λ o. optional count m.limit >>= (λ l. optional count m.offset
    >>= (λ k. pure (record { order = o; limit = l; offset = k }))))

-- ---- forms

abbrev pub item_of : WrittenItem → Resolving SelectItem
item_of (written_item.Var v) = item.Variable <$> variable v
item_of (written_item.As e v) = expression_of e >>= (λ x. variable v >>= (λ y. pure (item.As x y)))

unfoldable pub projection_of : WrittenProjection → Resolving Projection
projection_of written_projection.All = pure projection.All
projection_of (written_projection.Items is) = projection.Items <$> all (map item_of is)

unfoldable pub select : WrittenSelect → Resolving Select
select q =
    projection_of q.projection
    >>= (λ p. group_of q.pattern >>= (λ g. modifiers q.modifiers >>= (λ m.
    pure (record { duplicates = q.duplicates; projection = p; pattern = g; modifiers = m }))))

unfoldable pub construct : WrittenConstruct → Resolving Construct
construct q =
    triples_after [] q.template >>= (λ t. optional group_of q.pattern >>= (λ g.
    modifiers q.modifiers >>= (λ m. pure (record { template = t; pattern = g; modifiers = m }))))

unfoldable pub ask : WrittenAsk → Resolving Ask
ask q =
    group_of q.pattern >>= (λ g. modifiers q.modifiers >>= (λ m.
    pure (record { pattern = g; modifiers = m })))

unfoldable pub form_of : WrittenForm → Resolving QueryForm
form_of (written_form.Select q) = form.Select <$> select q
form_of (written_form.Construct q) = form.Construct <$> construct q
form_of (written_form.Ask q) = form.Ask <$> ask q

-- the query, with the variables that were read
unfoldable pub query : WrittenQuery → Resolving Query
query q =
    prologue q.prologue >>= (λ _. form_of q.form >>= (λ f. optional inline_data q.values
    >>= (λ v. variables_since 0 >>= (λ variables.
    pure (record { form = f; values = v; variables = variables })))))
