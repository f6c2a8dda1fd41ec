-- Rows of the grammar: what some lists of tokens are read as.
use Rattle.std.proofs.Common.{◌≡◌, ◌+◌, ℕ, List, [], ◌∷◌, Ok, Err, None, refl}
use Rattle.qs_syntax_grammar.specs.declared.fault.Fault.TheVariants.{Syntax}
use Rattle.qs_syntax_grammar.specs.inner.Grammar.{read, whole}
use Rattle.qs_syntax_tree.specs.declared.kind.Kind.{Kind}
use Rattle.qs_syntax_tree.specs.declared.kind.Kind.TheVariants as k
use Rattle.qs_syntax_tree.specs.declared.token.Token.{Token}
use Rattle.qs_syntax_tree.specs.declared.token.Span.{Span}
use Rattle.qs_syntax_tree.specs.declared.term.Literal.TheVariants as literal_tree
use Rattle.qs_syntax_tree.specs.declared.term.Term.TheVariants as term_tree
use Rattle.qs_syntax_tree.specs.declared.path.Predicate.TheVariants as predicate_tree
use Rattle.qs_syntax_tree.specs.declared.path.Path.TheVariants as path_tree
use Rattle.qs_syntax_tree.specs.declared.path.Verb.TheVariants as verb_tree
use Rattle.qs_syntax_tree.specs.declared.path.Repetition.TheVariants as repetition_tree
use Rattle.qs_syntax_tree.specs.declared.term.Iri.TheVariants as iri_tree
use Rattle.qs_syntax_tree.specs.declared.triples.GraphNode.TheVariants as node_tree
use Rattle.qs_syntax_tree.specs.declared.expression.Expression.{Expression}
use Rattle.qs_syntax_tree.specs.declared.expression.Expression.TheVariants as expression_tree
use Rattle.qs_syntax_tree.specs.declared.expression.Sign.TheVariants as sign_tree
use Rattle.qs_syntax_tree.specs.declared.pattern.GraphPattern.TheVariants as pattern_tree
use Rattle.qs_syntax_tree.specs.declared.query.QueryForm.TheVariants as form_tree
use Rattle.qs_syntax_tree.specs.Sparql.{same_kind}
use Rattle.qs_syntax_tree.specs.Trees.{operand_of, addend_of, element_of, group_of, property_of}
use Rattle.qs_syntax_tree.specs.Rules.{slice, iri, var_or_iri, annotation, literal, term, predicate, negated_one, repetition, object, parenthesized, unary_function, binary_function, comparison, data_value, block, where_clause, limit, offset, template_braces, silent, target, graph_or_default, transfer}
use Rattle.qs_syntax_tree.specs.inner.Procedures.{more_negated, negated_all, negated, path_primary, path_element, more_elements, path_sequence, more_sequences, path_rule, verb, more_objects, objects, property, next_property, more_properties, properties_rule, anonymous_subject, property_subject, bracketed_subject, same_subject, triples_rule, next_argument, two_expressions, three_expressions, bound_var, two_arguments, three_arguments, more_expressions, list, call, operand_term, atom, unary, more_factors, product, signed_product, addend, addends, additive, relation, relational, more_relationals, conjunction, more_conjunctions, expression_rule, constraint, variables, data_values, data_row, data_rows, variable_list, value_block, row_block, column, table, values, more_groups, groups, expression_as_var, named_expression, element, dotted_element, group_step, group_steps, elements, group_rule, prefix_declaration, prologue, order, orders, order_list, order_clause, modifiers, item, items, duplicates, projection, select_clause, where_modifiers, select, long_construct, short_construct, construct, ask, query_form, query, quads_block, quads_graph, dotted_graph, quads_step, quads_steps, quads_elements, quads, where_group, insert_clause, insert, delete, changes, with_clause, with_graph, graph_operation, clear, drop_graph, create, from_graph_to_graph, operation, operations_rule, update}
use Rattle.qs_syntax_tree.specs.inner.Table.{rule, guided}

-- tokens of these kinds, each one byte long
tokens : ℕ → List Kind → List Token
tokens n [] = []
tokens n (j ∷ js) = record { kind = j; span = record { start = n; end = n + 1 } } ∷ tokens (n + 1) js

at : ℕ → Span
at n = record { start = n; end = n + 1 }

number : ℕ → Expression
number n = expression_tree.Literal (literal_tree.Integer (at n))

-- 1 -2*3 is 1 + ((-2)*3)
signed_term : whole (read guided 1 expression_rule (tokens 0 (k.Integer ∷ k.Signed ∷ k.Star ∷ k.Integer ∷ [])))
    ≡ Ok (expression_tree.Sum (operand_of (0, number 0))
    (addend_of sign_tree.Plus (operand_of (1, expression_tree.Product (operand_of (1, number 1) ∷ operand_of (3, number 3) ∷ []))) ∷ []))
unfolding tokens at number same_kind rule iri var_or_iri annotation literal term predicate negated_one more_negated negated_all negated path_primary repetition path_element more_elements path_sequence more_sequences path_rule verb object more_objects objects property next_property more_properties properties_rule anonymous_subject property_subject bracketed_subject same_subject triples_rule parenthesized next_argument two_expressions three_expressions bound_var two_arguments three_arguments more_expressions list unary_function binary_function call operand_term atom unary more_factors product signed_product addend addends additive comparison relation relational more_relationals conjunction more_conjunctions expression_rule constraint data_value variables data_values data_row data_rows variable_list value_block row_block column table values more_groups groups expression_as_var named_expression element block dotted_element group_step group_steps elements group_rule prefix_declaration prologue where_clause order limit offset slice orders order_list order_clause modifiers item items duplicates projection select_clause where_modifiers select template_braces long_construct short_construct construct ask query_form query quads_block quads_graph dotted_graph quads_step quads_steps quads_elements quads where_group insert_clause insert delete changes with_clause with_graph silent target graph_or_default transfer graph_operation clear drop_graph create from_graph_to_graph operation operations_rule update
signed_term = refl

-- ^p* is the inverse of p*
inverse_of_closure : whole (read guided 1 path_rule (tokens 0 (k.Caret ∷ k.PnameLn ∷ k.Star ∷ [])))
    ≡ Ok (path_tree.Inverse (path_tree.Repeated (path_tree.Predicate (predicate_tree.Iri (iri_tree.Prefixed (at 1)))) repetition_tree.ZeroOrMore))
unfolding tokens at number same_kind rule iri var_or_iri annotation literal term predicate negated_one more_negated negated_all negated path_primary repetition path_element more_elements path_sequence more_sequences path_rule verb object more_objects objects property next_property more_properties properties_rule anonymous_subject property_subject bracketed_subject same_subject triples_rule parenthesized next_argument two_expressions three_expressions bound_var two_arguments three_arguments more_expressions list unary_function binary_function call operand_term atom unary more_factors product signed_product addend addends additive comparison relation relational more_relationals conjunction more_conjunctions expression_rule constraint data_value variables data_values data_row data_rows variable_list value_block row_block column table values more_groups groups expression_as_var named_expression element block dotted_element group_step group_steps elements group_rule prefix_declaration prologue where_clause order limit offset slice orders order_list order_clause modifiers item items duplicates projection select_clause where_modifiers select template_braces long_construct short_construct construct ask query_form query quads_block quads_graph dotted_graph quads_step quads_steps quads_elements quads where_group insert_clause insert delete changes with_clause with_graph silent target graph_or_default transfer graph_operation clear drop_graph create from_graph_to_graph operation operations_rule update
inverse_of_closure = refl

-- ASK { ?s a [] . }
dot_at_the_end : whole (read guided 4 query (tokens 0 (k.Ask ∷ k.LeftBrace ∷ k.Var ∷ k.A ∷ k.LeftBracket ∷ k.RightBracket ∷ k.Dot ∷ k.RightBrace ∷ [])))
    ≡ Ok (record {
      prologue = [];
      form = form_tree.Ask (record {
        pattern = group_of (
          1,
          element_of (
            2,
            pattern_tree.Triples (record {
              subject = node_tree.Term (term_tree.Var (at 2));
              properties = property_of (verb_tree.Path (path_tree.Predicate predicate_tree.RdfType), node_tree.Term term_tree.Anonymous ∷ []) ∷ [];
            } ∷ []),
          ) ∷ [],
        );
        modifiers = record { order = []; limit = None; offset = None };
      });
      values = None;
    })
unfolding tokens at number same_kind rule iri var_or_iri annotation literal term predicate negated_one more_negated negated_all negated path_primary repetition path_element more_elements path_sequence more_sequences path_rule verb object more_objects objects property next_property more_properties properties_rule anonymous_subject property_subject bracketed_subject same_subject triples_rule parenthesized next_argument two_expressions three_expressions bound_var two_arguments three_arguments more_expressions list unary_function binary_function call operand_term atom unary more_factors product signed_product addend addends additive comparison relation relational more_relationals conjunction more_conjunctions expression_rule constraint data_value variables data_values data_row data_rows variable_list value_block row_block column table values more_groups groups expression_as_var named_expression element block dotted_element group_step group_steps elements group_rule prefix_declaration prologue where_clause order limit offset slice orders order_list order_clause modifiers item items duplicates projection select_clause where_modifiers select template_braces long_construct short_construct construct ask query_form query quads_block quads_graph dotted_graph quads_step quads_steps quads_elements quads where_group insert_clause insert delete changes with_clause with_graph silent target graph_or_default transfer graph_operation clear drop_graph create from_graph_to_graph operation operations_rule update
dot_at_the_end = refl

-- CONSTRUCT { ?s ^:p ?o } ..: a template takes no paths, and 6 tokens are left from the ^ on
no_path_in_template : whole (read guided 9 query (tokens 0 (k.Construct ∷ k.LeftBrace ∷ k.Var ∷ k.Caret ∷ k.PnameLn ∷ k.Var ∷ k.RightBrace ∷ k.LeftBrace ∷ k.RightBrace ∷ []))) ≡ Err (Syntax 6)
unfolding tokens at number same_kind rule iri var_or_iri annotation literal term predicate negated_one more_negated negated_all negated path_primary repetition path_element more_elements path_sequence more_sequences path_rule verb object more_objects objects property next_property more_properties properties_rule anonymous_subject property_subject bracketed_subject same_subject triples_rule parenthesized next_argument two_expressions three_expressions bound_var two_arguments three_arguments more_expressions list unary_function binary_function call operand_term atom unary more_factors product signed_product addend addends additive comparison relation relational more_relationals conjunction more_conjunctions expression_rule constraint data_value variables data_values data_row data_rows variable_list value_block row_block column table values more_groups groups expression_as_var named_expression element block dotted_element group_step group_steps elements group_rule prefix_declaration prologue where_clause order limit offset slice orders order_list order_clause modifiers item items duplicates projection select_clause where_modifiers select template_braces long_construct short_construct construct ask query_form query quads_block quads_graph dotted_graph quads_step quads_steps quads_elements quads where_group insert_clause insert delete changes with_clause with_graph silent target graph_or_default transfer graph_operation clear drop_graph create from_graph_to_graph operation operations_rule update
no_path_in_template = refl

-- ; ; is no update
one_semicolon : whole (read guided 4 update (tokens 0 (k.Create ∷ k.Graph ∷ k.IriRef ∷ k.Semicolon ∷ k.Semicolon ∷ []))) ≡ Err (Syntax 1)
unfolding tokens at number same_kind rule iri var_or_iri annotation literal term predicate negated_one more_negated negated_all negated path_primary repetition path_element more_elements path_sequence more_sequences path_rule verb object more_objects objects property next_property more_properties properties_rule anonymous_subject property_subject bracketed_subject same_subject triples_rule parenthesized next_argument two_expressions three_expressions bound_var two_arguments three_arguments more_expressions list unary_function binary_function call operand_term atom unary more_factors product signed_product addend addends additive comparison relation relational more_relationals conjunction more_conjunctions expression_rule constraint data_value variables data_values data_row data_rows variable_list value_block row_block column table values more_groups groups expression_as_var named_expression element block dotted_element group_step group_steps elements group_rule prefix_declaration prologue where_clause order limit offset slice orders order_list order_clause modifiers item items duplicates projection select_clause where_modifiers select template_braces long_construct short_construct construct ask query_form query quads_block quads_graph dotted_graph quads_step quads_steps quads_elements quads where_group insert_clause insert delete changes with_clause with_graph silent target graph_or_default transfer graph_operation clear drop_graph create from_graph_to_graph operation operations_rule update
one_semicolon = refl
