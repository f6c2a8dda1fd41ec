-- Whole queries and updates.
use Rattle.std.proofs.Common.{ℕ, zero, suc, List}
use Rattle.qs_syntax_ast.specs.declared.pattern.Triple.{Triple}
use Rattle.qs_syntax_ast.specs.declared.term.TermPattern.{TermPattern}
use Rattle.qs_syntax_ast.specs.declared.update.Operation.{Operation as ResolvedOperation}
use Rattle.qs_syntax_grammar.specs.Grammar.{Spells, spelt_at}
use Rattle.qs_syntax_grammar.specs.Rule.{Spelt}
use Rattle.qs_syntax_tree.specs.Rules as rules
use Rattle.qs_syntax_tree.specs.inner.Procedures as procedures
use Rattle.qs_syntax_tree.specs.Sparql.{Name, Tree, group, triples, properties, path, expression, operations}
use Rattle.qs_syntax_tree.specs.Table.{grammar}
use Rattle.qs_syntax_tree.specs.inner.Table.{rule}
use Rattle.qs_syntax_tree.proofs.SameRules.{grammar_same, query_same, update_same}
use Rattle.qs_syntax_tree.specs.declared.query.Query.{Query}
use Rattle.qs_syntax_tree.specs.declared.token.Token.{Token}
use Rattle.qs_syntax_tree.specs.declared.triples.Form.{Form}
use Rattle.qs_syntax_tree.specs.declared.update.Update.{Update}
use Rattle.qs_syntax_resolve.specs.Expression.{expression_of}
use Rattle.qs_syntax_resolve.specs.Path.{path_of}
use Rattle.qs_syntax_resolve.specs.Pattern.{group_of}
use Rattle.qs_syntax_resolve.specs.Query.{query}
use Rattle.qs_syntax_resolve.specs.Triples.{triples_after, properties as properties_behind}
use Rattle.qs_syntax_resolve.specs.Update.{update}
use Rattle.qs_syntax_laws.proofs.Expressions.{expression_rule_meets}
use Rattle.qs_syntax_laws.proofs.Groups.{group_rule_meets}
use Rattle.qs_syntax_laws.proofs.Paths.{path_rule_meets}
use Rattle.qs_syntax_laws.proofs.Queries.{query_meets}
use Rattle.qs_syntax_laws.proofs.Triples.{triples_rule_meet, properties_rule_meet}
use Rattle.qs_syntax_laws.proofs.Updates.{operations as operations_behind, operations_rule_meet, update_meets}
use Rattle.qs_syntax_laws.proofs.Walks.{Meets}
use Rattle.qs_syntax_laws.proofs.Ways.{Resolves}

-- the tree of a named rule is resolved as its tokens tell
Holds : (n : Name) → List Token → Tree n → Type 0
Holds group ts x = Meets (group_of x) ts
Holds (triples f) ts x = (found : List Triple) → Meets (triples_after found x) ts
Holds (properties f) ts x = (subject : TermPattern) (found : List Triple) → Meets (properties_behind subject found x) ts
Holds path ts x = Meets (path_of x) ts
Holds expression ts x = Meets (expression_of x) ts
Holds operations ts x = (found : List ResolvedOperation) → Meets (operations_behind found x) ts

module _ {refs : (n : Name) → List Token → Tree n → Type 0} (known : (n : Name) (ts : List Token) (x : Tree n) → refs n ts x → Holds n ts x) where
  group_known : Resolves refs rules.group group_of
  unfolding Holds
  group_known = record { meets = λ ts x h. known group ts x h }

  triples_known : (f : Form) (found : List Triple) → Resolves refs (rules.triples f) (triples_after found)
  unfolding Holds
  triples_known f found = record { meets = λ ts x h. known (triples f) ts x h found }

  properties_known : (f : Form) (subject : TermPattern) (found : List Triple) → Resolves refs (rules.properties f) (properties_behind subject found)
  unfolding Holds
  properties_known f subject found = record { meets = λ ts x h. known (properties f) ts x h subject found }

  path_known : Resolves refs rules.path path_of
  unfolding Holds
  path_known = record { meets = λ ts x h. known path ts x h }

  expression_known : Resolves refs rules.expression expression_of
  unfolding Holds
  expression_known = record { meets = λ ts x h. known expression ts x h }

  operations_known : (found : List ResolvedOperation) → Resolves refs rules.operations (operations_behind found)
  unfolding Holds
  operations_known found = record { meets = λ ts x h. known operations ts x h found }

  by_rule : (n : Name) (ts : List Token) (x : Tree n) → Spelt refs (rule n) ts x → Holds n ts x
  unfolding rule Holds
  by_rule group ts x h = (group_rule_meets expression_known group_known triples_known).meets ts x h
  by_rule (triples f) ts x h = λ found. (triples_rule_meet path_known properties_known triples_known f found).meets ts x h
  by_rule (properties f) ts x h = λ subject found. (properties_rule_meet path_known properties_known triples_known f subject found).meets ts x h
  by_rule path ts x h = (path_rule_meets path_known).meets ts x h
  by_rule expression ts x h = (expression_rule_meets expression_known).meets ts x h
  by_rule operations ts x h = λ found. (operations_rule_meet expression_known group_known triples_known operations_known found).meets ts x h

  whole_query : Resolves refs procedures.query query
  whole_query = query_meets expression_known group_known triples_known

  whole_update : Resolves refs procedures.update update
  whole_update = update_meets expression_known group_known triples_known operations_known

each_holds : (d : ℕ) (n : Name) (ts : List Token) (x : Tree n) → spelt_at rule d n ts x → Holds n ts x
each_holds zero n ts x h = absurd h
each_holds (suc d) n ts x h = by_rule (each_holds d) n ts x h

pub query_is_met : (tokens : List Token) (tree : Query) → Spells grammar rules.query tokens tree → Meets (query tree) tokens
query_is_met tokens tree h =
    let by_parts : Spells rule procedures.query tokens tree = rw (grammar_same, query_same) at h in
    (whole_query (each_holds by_parts.0)).meets tokens tree by_parts.1

pub update_is_met : (tokens : List Token) (tree : Update) → Spells grammar rules.update tokens tree → Meets (update tree) tokens
update_is_met tokens tree h =
    let by_parts : Spells rule procedures.update tokens tree = rw (grammar_same, update_same) at h in
    (whole_update (each_holds by_parts.0)).meets tokens tree by_parts.1
