-- What some rules begin with.
use Rattle.std.proofs.Common.{◌≡◌, false, [], ◌∷◌, refl}
use Rattle.qs_syntax_grammar.specs.inner.Reading.{first, nullable}
use Rattle.qs_syntax_tree.specs.declared.kind.Kind.TheVariants as k
use Rattle.qs_syntax_tree.specs.inner.Table.{firsts}
use Rattle.qs_syntax_tree.specs.Rules.{template_braces}
use Rattle.qs_syntax_tree.specs.inner.Procedures.{clear, construct, create, delete, drop_graph, from_graph_to_graph, graph_operation, insert, item, long_construct, named_expression, operation, operations_rule, select, select_clause, values, with_clause, with_graph}

pub first_item : first firsts item ≡ k.Var ∷ k.LeftParen ∷ []
unfolding item named_expression
first_item = refl

pub first_select : first firsts select ≡ k.Select ∷ []
unfolding select select_clause
first_select = refl

pub first_long_construct : first firsts long_construct ≡ k.LeftBrace ∷ []
unfolding long_construct template_braces
first_long_construct = refl

pub first_construct : first firsts construct ≡ k.Construct ∷ []
unfolding construct
first_construct = refl

pub first_values : first firsts values ≡ k.Values ∷ []
unfolding values
first_values = refl

pub first_insert : first firsts insert ≡ k.Insert ∷ []
unfolding insert
first_insert = refl

pub first_delete : first firsts delete ≡ k.Delete ∷ []
unfolding delete
first_delete = refl

pub first_with_graph : first firsts with_graph ≡ k.With ∷ []
unfolding with_graph with_clause
first_with_graph = refl

pub first_clear : first firsts clear ≡ k.Clear ∷ []
unfolding clear
first_clear = refl

pub first_drop_graph : first firsts drop_graph ≡ k.Drop ∷ []
unfolding drop_graph
first_drop_graph = refl

pub first_create : first firsts create ≡ k.Create ∷ []
unfolding create
first_create = refl

pub first_operations_rule : first firsts operations_rule ≡ k.Insert ∷ k.Delete ∷ k.With ∷ k.Clear ∷ k.Drop ∷ k.Create ∷ k.Add ∷ k.Move ∷ k.Copy ∷ []
unfolding operations_rule operation insert delete with_graph with_clause graph_operation clear drop_graph create from_graph_to_graph
first_operations_rule = refl

-- ---- rules that take at least one token

pub nullable_item : nullable item ≡ false
unfolding item named_expression
nullable_item = refl
