-- The rules of the procedures are the grammar's.
use Rattle.std.proofs.Common.{◌≡◌, refl}
use Rattle.qs_syntax_tree.specs.declared.triples.Form.TheVariants as form
use Rattle.qs_syntax_tree.specs.Rules as rules
use Rattle.qs_syntax_tree.specs.Sparql.{Name, group, triples, properties, path, expression, operations}
use Rattle.qs_syntax_tree.specs.Table.{grammar}
use Rattle.qs_syntax_tree.specs.inner.Procedures as procedures
use Rattle.qs_syntax_tree.specs.inner.Table.{rule}

pub query_same : rules.query ≡ procedures.query
unfolding rules.iri rules.var_or_iri rules.annotation rules.literal rules.term rules.predicate rules.negated_one rules.negated rules.path_primary rules.repetition rules.path_element rules.path_sequence rules.path_rule rules.verb rules.object rules.objects rules.property rules.properties_rule rules.same_subject rules.triples_rule rules.parenthesized rules.list rules.unary_function rules.binary_function rules.call rules.atom rules.unary rules.product rules.additive rules.comparison rules.relational rules.conjunction rules.expression_rule rules.constraint rules.data_value rules.values rules.named_expression rules.element rules.block rules.group_rule rules.prologue rules.where_clause rules.order rules.limit rules.offset rules.slice rules.modifiers rules.item rules.select rules.template_braces rules.construct rules.ask rules.query rules.quads_block rules.quads rules.changes rules.silent rules.target rules.graph_or_default rules.transfer rules.operation rules.operations_rule rules.update procedures.more_negated procedures.negated_all procedures.negated procedures.path_primary procedures.path_element procedures.more_elements procedures.path_sequence procedures.more_sequences procedures.path_rule procedures.verb procedures.more_objects procedures.objects procedures.property procedures.next_property procedures.more_properties procedures.properties_rule procedures.anonymous_subject procedures.property_subject procedures.bracketed_subject procedures.same_subject procedures.triples_rule procedures.next_argument procedures.two_expressions procedures.three_expressions procedures.bound_var procedures.two_arguments procedures.three_arguments procedures.more_expressions procedures.list procedures.call procedures.operand_term procedures.atom procedures.unary procedures.more_factors procedures.product procedures.signed_product procedures.addend procedures.addends procedures.additive procedures.relation procedures.relational procedures.more_relationals procedures.conjunction procedures.more_conjunctions procedures.expression_rule procedures.constraint procedures.variables procedures.data_values procedures.data_row procedures.data_rows procedures.variable_list procedures.value_block procedures.row_block procedures.column procedures.table procedures.values procedures.more_groups procedures.groups procedures.expression_as_var procedures.named_expression procedures.element procedures.dotted_element procedures.group_step procedures.group_steps procedures.elements procedures.group_rule procedures.prefix_declaration procedures.prologue procedures.order procedures.orders procedures.order_list procedures.order_clause procedures.modifiers procedures.item procedures.items procedures.duplicates procedures.projection procedures.select_clause procedures.where_modifiers procedures.select procedures.long_construct procedures.short_construct procedures.construct procedures.ask procedures.query_form procedures.query procedures.quads_block procedures.quads_graph procedures.dotted_graph procedures.quads_step procedures.quads_steps procedures.quads_elements procedures.quads procedures.where_group procedures.insert_clause procedures.insert procedures.delete procedures.changes procedures.with_clause procedures.with_graph procedures.clear procedures.drop_graph procedures.create procedures.from_graph_to_graph procedures.graph_operation procedures.operation procedures.operations_rule procedures.update
query_same = refl

pub update_same : rules.update ≡ procedures.update
unfolding rules.iri rules.var_or_iri rules.annotation rules.literal rules.term rules.predicate rules.negated_one rules.negated rules.path_primary rules.repetition rules.path_element rules.path_sequence rules.path_rule rules.verb rules.object rules.objects rules.property rules.properties_rule rules.same_subject rules.triples_rule rules.parenthesized rules.list rules.unary_function rules.binary_function rules.call rules.atom rules.unary rules.product rules.additive rules.comparison rules.relational rules.conjunction rules.expression_rule rules.constraint rules.data_value rules.values rules.named_expression rules.element rules.block rules.group_rule rules.prologue rules.where_clause rules.order rules.limit rules.offset rules.slice rules.modifiers rules.item rules.select rules.template_braces rules.construct rules.ask rules.query rules.quads_block rules.quads rules.changes rules.silent rules.target rules.graph_or_default rules.transfer rules.operation rules.operations_rule rules.update procedures.more_negated procedures.negated_all procedures.negated procedures.path_primary procedures.path_element procedures.more_elements procedures.path_sequence procedures.more_sequences procedures.path_rule procedures.verb procedures.more_objects procedures.objects procedures.property procedures.next_property procedures.more_properties procedures.properties_rule procedures.anonymous_subject procedures.property_subject procedures.bracketed_subject procedures.same_subject procedures.triples_rule procedures.next_argument procedures.two_expressions procedures.three_expressions procedures.bound_var procedures.two_arguments procedures.three_arguments procedures.more_expressions procedures.list procedures.call procedures.operand_term procedures.atom procedures.unary procedures.more_factors procedures.product procedures.signed_product procedures.addend procedures.addends procedures.additive procedures.relation procedures.relational procedures.more_relationals procedures.conjunction procedures.more_conjunctions procedures.expression_rule procedures.constraint procedures.variables procedures.data_values procedures.data_row procedures.data_rows procedures.variable_list procedures.value_block procedures.row_block procedures.column procedures.table procedures.values procedures.more_groups procedures.groups procedures.expression_as_var procedures.named_expression procedures.element procedures.dotted_element procedures.group_step procedures.group_steps procedures.elements procedures.group_rule procedures.prefix_declaration procedures.prologue procedures.order procedures.orders procedures.order_list procedures.order_clause procedures.modifiers procedures.item procedures.items procedures.duplicates procedures.projection procedures.select_clause procedures.where_modifiers procedures.select procedures.long_construct procedures.short_construct procedures.construct procedures.ask procedures.query_form procedures.query procedures.quads_block procedures.quads_graph procedures.dotted_graph procedures.quads_step procedures.quads_steps procedures.quads_elements procedures.quads procedures.where_group procedures.insert_clause procedures.insert procedures.delete procedures.changes procedures.with_clause procedures.with_graph procedures.clear procedures.drop_graph procedures.create procedures.from_graph_to_graph procedures.graph_operation procedures.operation procedures.operations_rule procedures.update
update_same = refl

rule_same : (n : Name) → grammar n ≡ rule n
unfolding grammar rule rules.iri rules.var_or_iri rules.annotation rules.literal rules.term rules.predicate rules.negated_one rules.negated rules.path_primary rules.repetition rules.path_element rules.path_sequence rules.path_rule rules.verb rules.object rules.objects rules.property rules.properties_rule rules.same_subject rules.triples_rule rules.parenthesized rules.list rules.unary_function rules.binary_function rules.call rules.atom rules.unary rules.product rules.additive rules.comparison rules.relational rules.conjunction rules.expression_rule rules.constraint rules.data_value rules.values rules.named_expression rules.element rules.block rules.group_rule rules.prologue rules.where_clause rules.order rules.limit rules.offset rules.slice rules.modifiers rules.item rules.select rules.template_braces rules.construct rules.ask rules.query rules.quads_block rules.quads rules.changes rules.silent rules.target rules.graph_or_default rules.transfer rules.operation rules.operations_rule rules.update procedures.more_negated procedures.negated_all procedures.negated procedures.path_primary procedures.path_element procedures.more_elements procedures.path_sequence procedures.more_sequences procedures.path_rule procedures.verb procedures.more_objects procedures.objects procedures.property procedures.next_property procedures.more_properties procedures.properties_rule procedures.anonymous_subject procedures.property_subject procedures.bracketed_subject procedures.same_subject procedures.triples_rule procedures.next_argument procedures.two_expressions procedures.three_expressions procedures.bound_var procedures.two_arguments procedures.three_arguments procedures.more_expressions procedures.list procedures.call procedures.operand_term procedures.atom procedures.unary procedures.more_factors procedures.product procedures.signed_product procedures.addend procedures.addends procedures.additive procedures.relation procedures.relational procedures.more_relationals procedures.conjunction procedures.more_conjunctions procedures.expression_rule procedures.constraint procedures.variables procedures.data_values procedures.data_row procedures.data_rows procedures.variable_list procedures.value_block procedures.row_block procedures.column procedures.table procedures.values procedures.more_groups procedures.groups procedures.expression_as_var procedures.named_expression procedures.element procedures.dotted_element procedures.group_step procedures.group_steps procedures.elements procedures.group_rule procedures.prefix_declaration procedures.prologue procedures.order procedures.orders procedures.order_list procedures.order_clause procedures.modifiers procedures.item procedures.items procedures.duplicates procedures.projection procedures.select_clause procedures.where_modifiers procedures.select procedures.long_construct procedures.short_construct procedures.construct procedures.ask procedures.query_form procedures.query procedures.quads_block procedures.quads_graph procedures.dotted_graph procedures.quads_step procedures.quads_steps procedures.quads_elements procedures.quads procedures.where_group procedures.insert_clause procedures.insert procedures.delete procedures.changes procedures.with_clause procedures.with_graph procedures.clear procedures.drop_graph procedures.create procedures.from_graph_to_graph procedures.graph_operation procedures.operation procedures.operations_rule procedures.update
rule_same group = refl
rule_same (triples form.Pattern) = refl
rule_same (triples form.Template) = refl
rule_same (properties form.Pattern) = refl
rule_same (properties form.Template) = refl
rule_same path = refl
rule_same expression = refl
rule_same operations = refl

pub grammar_same : grammar ≡ rule
grammar_same = λ i n. rule_same n i
