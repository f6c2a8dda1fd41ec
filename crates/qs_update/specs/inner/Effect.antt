-- Definitions over those of `Effect`, for proofs and the layers between.
use Rattle.std.specs.Prelude.{ℕ, List, [], None, option_map}
use Rattle.qs_terms.specs.Outcome.{Outcome}
use Rattle.qs_terms.specs.Statement.{Statement}
use Rattle.qs_terms.specs.declared.term.Term.TheVariants as value
use Rattle.qs_syntax_ast.specs.declared.term.Variable.{Variable}
use Rattle.qs_syntax_ast.specs.declared.update.Modify.{Modify}
use Rattle.qs_syntax_ast.specs.declared.update.QuadBlock.{QuadBlock}
use Rattle.qs_syntax_scope.specs.Firsts.{names_of}
use Rattle.qs_query_template.specs.Template.{template_of_blocks, template_in}
use Rattle.qs_query_template.specs.declared.template.Template.{Template}
use Rattle.qs_algebra.specs.Translation.{translated_where, translated_blocks}
use Rattle.qs_store.specs.declared.default_graph.DefaultGraph.{DefaultGraph}
use Rattle.qs_update.specs.Effect.{solutions, IsModified}
use Rattle.qs_update.specs.declared.effect.Effect.{Effect}

-- a template of quads to remove takes no fresh blank nodes: none stands in it
abbrev pub deletion : Template → Template
deletion t = record { quads = t.quads; blanks = 0 }

-- DELETE WHERE (SPARQL 1.1 Update, 3.1.3.3) with these variables
abbrev pub IsDeletedWhere : ℕ → List Variable → DefaultGraph → List QuadBlock → List Statement → ℕ
    → Outcome Effect → Type 0
IsDeletedWhere max_rows variables default blocks quads next outcome =
    IsModified max_rows (template_of_blocks (names_of variables) blocks)
    (template_of_blocks (names_of variables) []) next
    (solutions (translated_blocks variables blocks) default None quads) outcome

-- DELETE and INSERT with a WHERE (SPARQL 1.1 Update, 3.1.3) and these variables
abbrev pub IsModifiedWhere : ℕ → List Variable → DefaultGraph → Modify → List Statement → ℕ
    → Outcome Effect → Type 0
IsModifiedWhere max_rows variables default m quads next outcome =
    IsModified max_rows (template_in m.with (template_of_blocks (names_of variables) m.delete))
    (template_in m.with (template_of_blocks (names_of variables) m.insert)) next
    (solutions (translated_where variables m.pattern) default (option_map value.Iri m.with) quads)
    outcome
