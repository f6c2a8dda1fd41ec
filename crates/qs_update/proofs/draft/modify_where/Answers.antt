use Rattle.std.proofs.Common.{Err, List, ap, subst, IsTrue}
use Rattle.std.specs.Option.{option_map}
use Rattle.std.proofs.lemmas.Result.{err_from_is_err_and}
use Rattle.qs_terms.specs.Dataset.{is_above_blanks}
use Rattle.qs_terms.specs.declared.term.Term.TheVariants as value
use Rattle.qs_syntax_ast.specs.declared.update.Operation.TheVariants as operation
use Rattle.qs_syntax_ast.specs.declared.update.QuadBlock.{QuadBlock}
use Rattle.qs_syntax_scope.specs.Firsts.{names_of}
use Rattle.qs_algebra.specs.Translation.{translated_where}
use Rattle.qs_query_template.specs.Template.{template_in, template_of_blocks}
use Rattle.qs_query_template.specs.declared.template.Template.{Template}
use Rattle.qs_update.specs.Effect.{modified, solutions}
use Rattle.qs_update.proofs.ByEffect.{changed, done, refused}
use Rattle.qs_update.proofs.Under.{denoted_by, not_under, same_becomes, still_lawful, under}
use Rattle.qs_update.proofs.draft.modify_where.Goals as goal

pub change_by-requires-clause-lawful : goal.change_by-requires-clause-lawful
change_by-requires-clause-lawful c =
    let held = c.args.draft.now.store.now in
    let variables = c.args.variables.now in
    let m = c.args.modify.now in
    let found = c.in_ok-found.found in
    let made : List QuadBlock → Template = λ blocks. template_in m.with (template_of_blocks (names_of variables) blocks) in
    let rows = denoted_by held.draft.known found in
    let effect = modified (made m.delete) (made m.insert) held.draft.next rows in
    let all = solutions (translated_where variables m.pattern) held.default_graph (option_map value.Iri m.with) held.draft.quads in
    still_lawful _ (made m.delete) _ (made m.insert) held.draft.next rows (ap made c.as_slice.ensures) (ap made c.as_slice-2.ensures)
    (c.effects_are_lawful.ensures.of_operation c.args.max_rows held.default_graph (operation.Modify m) held.draft.quads held.draft.next effect
    (subst (λ n. IsTrue (is_above_blanks n held.draft.quads)) c.next_blank.ensures.next c.next_blank.ensures.above) c.next_blank.ensures.predicates c.requires.values
    (changed c.args.max_rows held variables m effect c.requires.variables (under c.args.max_rows (made m.delete) (made m.insert) held.draft.next held.draft.known all found c.in_ok-found.ensures)))

pub returns-clause-outcome : goal.returns-clause-outcome
returns-clause-outcome c =
    let held = c.args.draft.now.store.now in
    let variables = c.args.variables.now in
    let m = c.args.modify.now in
    let found = c.in_ok-found.found in
    let made : List QuadBlock → Template = λ blocks. template_in m.with (template_of_blocks (names_of variables) blocks) in
    let rows = denoted_by held.draft.known found in
    let effect = modified (made m.delete) (made m.insert) held.draft.next rows in
    let all = solutions (translated_where variables m.pattern) held.default_graph (option_map value.Iri m.with) held.draft.quads in
    done c.args.max_rows held (operation.Modify m) effect c.change_by.result c.change_by.new.draft.store.now.draft
    (changed c.args.max_rows held variables m effect c.requires.variables (under c.args.max_rows (made m.delete) (made m.insert) held.draft.next held.draft.known all found c.in_ok-found.ensures))
    (same_becomes _ (made m.delete) _ (made m.insert) held.draft.next rows (ap made c.as_slice.ensures) (ap made c.as_slice-2.ensures) held.limit held.draft c.change_by.result c.change_by.new.draft.store.now.draft c.change_by.ensures.outcome)

pub returns-in_err-found-clause-outcome : goal.returns-in_err-found-clause-outcome
returns-in_err-found-clause-outcome c =
    let held = c.args.draft.now.store.now in
    let variables = c.args.variables.now in
    let m = c.args.modify.now in
    let f = c.in_err-found.field-0.0 in
    let made : List QuadBlock → Template = λ blocks. template_in m.with (template_of_blocks (names_of variables) blocks) in
    let all = solutions (translated_where variables m.pattern) held.default_graph (option_map value.Iri m.with) held.draft.quads in
    let p = err_from_is_err_and c.from_residual.result c.from_residual.ensures.1 in
    rw (p.1, p.2) (refused c.args.max_rows held (operation.Modify m) f held.draft
    (λ n. changed c.args.max_rows held variables m (Err f) c.requires.variables (not_under c.args.max_rows (made m.delete) (made m.insert) held.draft.next held.draft.known all f c.in_err-found.ensures n)))
