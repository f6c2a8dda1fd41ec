-- The grammar passes the test of one token ahead, and each named rule spells something.
use Rattle.std.proofs.Common.{◌≡◌, true, Option, None, is_some, refl, rules}
use denote.Enum.Bare.{same_true, true_same}
use Rattle.qs_syntax_grammar.specs.Grammar.{spelt_at}
use Rattle.qs_syntax_grammar.specs.inner.Grammar.{passes, is_start}
use Rattle.qs_syntax_grammar.proofs.Laws.{Lawful}
use Rattle.qs_syntax_grammar.proofs.Viable.{Example, find, the}
use Rattle.qs_syntax_tree.specs.contracts.kind.Kind.{the_type}
use Rattle.qs_syntax_tree.specs.declared.kind.Kind.{Kind}
use Rattle.qs_syntax_tree.specs.declared.triples.Form.TheVariants as form
use Rattle.qs_syntax_tree.specs.Sparql.{Name, group, triples, properties, path, expression, operations, same_kind, sparql}
use Rattle.qs_syntax_tree.specs.Rules.{slice, iri, var_or_iri, annotation, literal, term, predicate, negated_one, repetition, object, parenthesized, unary_function, binary_function, comparison, data_value, block, where_clause, limit, offset, template_braces, silent, target, graph_or_default, transfer}
use Rattle.qs_syntax_tree.specs.inner.Procedures.{more_negated, negated_all, negated, path_primary, path_element, more_elements, path_sequence, more_sequences, path_rule, verb, more_objects, objects, property, next_property, more_properties, properties_rule, anonymous_subject, property_subject, bracketed_subject, same_subject, triples_rule, next_argument, two_expressions, three_expressions, bound_var, two_arguments, three_arguments, more_expressions, list, call, operand_term, atom, unary, more_factors, product, signed_product, addend, addends, additive, relation, relational, more_relationals, conjunction, more_conjunctions, expression_rule, constraint, variables, data_values, data_row, data_rows, variable_list, value_block, row_block, column, table, values, more_groups, groups, expression_as_var, named_expression, element, dotted_element, group_step, group_steps, elements, group_rule, prefix_declaration, prologue, order, orders, order_list, order_clause, modifiers, item, items, duplicates, projection, select_clause, where_modifiers, select, long_construct, short_construct, construct, ask, query_form, query, quads_block, quads_graph, dotted_graph, quads_step, quads_steps, quads_elements, quads, where_group, insert_clause, insert, delete, changes, with_clause, with_graph, graph_operation, clear, drop_graph, create, from_graph_to_graph, operation, operations_rule, update}
use Rattle.qs_syntax_tree.specs.inner.Table.{rule, guided}

pub passes_each : (n : Name) → passes guided n ≡ true
unfolding same_kind rule iri var_or_iri annotation literal term predicate negated_one more_negated negated_all negated path_primary repetition path_element more_elements path_sequence more_sequences path_rule verb object more_objects objects property next_property more_properties properties_rule anonymous_subject property_subject bracketed_subject same_subject triples_rule parenthesized next_argument two_expressions three_expressions bound_var two_arguments three_arguments more_expressions list unary_function binary_function call operand_term atom unary more_factors product signed_product addend addends additive comparison relation relational more_relationals conjunction more_conjunctions expression_rule constraint data_value variables data_values data_row data_rows variable_list value_block row_block column table values more_groups groups expression_as_var named_expression element block dotted_element group_step group_steps elements group_rule prefix_declaration prologue where_clause order limit offset slice orders order_list order_clause modifiers item items duplicates projection select_clause where_modifiers select template_braces long_construct short_construct construct ask query_form query quads_block quads_graph dotted_graph quads_step quads_steps quads_elements quads where_group insert_clause insert delete changes with_clause with_graph silent target graph_or_default transfer graph_operation clear drop_graph create from_graph_to_graph operation operations_rule update
passes_each group = refl
passes_each (triples form.Pattern) = refl
passes_each (triples form.Template) = refl
passes_each (properties form.Pattern) = refl
passes_each (properties form.Template) = refl
passes_each path = refl
passes_each expression = refl
passes_each operations = refl

pub query_starts : is_start guided query ≡ true
unfolding same_kind iri var_or_iri annotation literal term predicate negated_one more_negated negated_all negated path_primary repetition path_element more_elements path_sequence more_sequences path_rule verb object more_objects objects property next_property more_properties properties_rule anonymous_subject property_subject bracketed_subject same_subject triples_rule parenthesized next_argument two_expressions three_expressions bound_var two_arguments three_arguments more_expressions list unary_function binary_function call operand_term atom unary more_factors product signed_product addend addends additive comparison relation relational more_relationals conjunction more_conjunctions expression_rule constraint data_value variables data_values data_row data_rows variable_list value_block row_block column table values more_groups groups expression_as_var named_expression element block dotted_element group_step group_steps elements group_rule prefix_declaration prologue where_clause order limit offset slice orders order_list order_clause modifiers item items duplicates projection select_clause where_modifiers select template_braces long_construct short_construct construct ask query_form query quads_block quads_graph dotted_graph quads_step quads_steps quads_elements quads where_group insert_clause insert delete changes with_clause with_graph silent target graph_or_default transfer graph_operation clear drop_graph create from_graph_to_graph operation operations_rule update
query_starts = refl

pub update_starts : is_start guided update ≡ true
unfolding same_kind iri var_or_iri annotation literal term predicate negated_one more_negated negated_all negated path_primary repetition path_element more_elements path_sequence more_sequences path_rule verb object more_objects objects property next_property more_properties properties_rule anonymous_subject property_subject bracketed_subject same_subject triples_rule parenthesized next_argument two_expressions three_expressions bound_var two_arguments three_arguments more_expressions list unary_function binary_function call operand_term atom unary more_factors product signed_product addend addends additive comparison relation relational more_relationals conjunction more_conjunctions expression_rule constraint data_value variables data_values data_row data_rows variable_list value_block row_block column table values more_groups groups expression_as_var named_expression element block dotted_element group_step group_steps elements group_rule prefix_declaration prologue where_clause order limit offset slice orders order_list order_clause modifiers item items duplicates projection select_clause where_modifiers select template_braces long_construct short_construct construct ask query_form query quads_block quads_graph dotted_graph quads_step quads_steps quads_elements quads where_group insert_clause insert delete changes with_clause with_graph silent target graph_or_default transfer graph_operation clear drop_graph create from_graph_to_graph operation operations_rule update
update_starts = refl

pub same_kind-true : (a b : Kind) → same_kind a b ≡ true → a ≡ b
unfolding same_kind
same_kind-true a b e = same_true the_type (search rules) a b e

pub same_kind-refl : (a : Kind) → same_kind a a ≡ true
unfolding same_kind
same_kind-refl a = true_same the_type a a refl

abbrev pub lawful : Lawful sparql
lawful = record { same_true = same_kind-true; same_refl = same_kind-refl; sample = λ k. record { kind = k; span = record { start = 0; end = 0 } }; sample_kind = λ k. refl }

ones : (n : Name) → Option (Example (spelt_at rule 1 n))
ones n = find sparql lawful (spelt_at rule 0) (λ _. None) (rule n)

twos : (n : Name) → Option (Example (spelt_at rule 2 n))
twos n = find sparql lawful (spelt_at rule 1) ones (rule n)

has_example : (n : Name) → is_some (twos n) ≡ true
unfolding twos ones rule iri var_or_iri annotation literal term predicate negated_one more_negated negated_all negated path_primary repetition path_element more_elements path_sequence more_sequences path_rule verb object more_objects objects property next_property more_properties properties_rule anonymous_subject property_subject bracketed_subject same_subject triples_rule parenthesized next_argument two_expressions three_expressions bound_var two_arguments three_arguments more_expressions list unary_function binary_function call operand_term atom unary more_factors product signed_product addend addends additive comparison relation relational more_relationals conjunction more_conjunctions expression_rule constraint data_value variables data_values data_row data_rows variable_list value_block row_block column table values more_groups groups expression_as_var named_expression element block dotted_element group_step group_steps elements group_rule prefix_declaration prologue where_clause order limit offset slice orders order_list order_clause modifiers item items duplicates projection select_clause where_modifiers select template_braces long_construct short_construct construct ask query_form query quads_block quads_graph dotted_graph quads_step quads_steps quads_elements quads where_group insert_clause insert delete changes with_clause with_graph silent target graph_or_default transfer graph_operation clear drop_graph create from_graph_to_graph operation operations_rule update
has_example group = refl
has_example (triples form.Pattern) = refl
has_example (triples form.Template) = refl
has_example (properties form.Pattern) = refl
has_example (properties form.Template) = refl
has_example path = refl
has_example expression = refl
has_example operations = refl

pub examples : (n : Name) → Example (spelt_at rule 2 n)
examples n = the (twos n) (has_example n)
