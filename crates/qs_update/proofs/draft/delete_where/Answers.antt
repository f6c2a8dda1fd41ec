use Rattle.std.proofs.Common.{[], None, Err, subst, IsTrue, refl}
use Rattle.std.proofs.lemmas.Result.{err_from_is_err_and}
use Rattle.qs_terms.specs.Dataset.{is_above_blanks}
use Rattle.qs_syntax_ast.specs.declared.update.Operation.TheVariants as operation
use Rattle.qs_syntax_scope.specs.Firsts.{names_of}
use Rattle.qs_algebra.specs.Translation.{translated_blocks}
use Rattle.qs_query_template.specs.Template.{template_of_blocks}
use Rattle.qs_update.specs.Effect.{modified, solutions}
use Rattle.qs_update.proofs.ByEffect.{deleted, done, refused}
use Rattle.qs_update.proofs.Under.{denoted_by, not_under, under}
use Rattle.qs_update.proofs.draft.delete_where.Goals as goal

pub change_by-requires-clause-lawful : goal.change_by-requires-clause-lawful
change_by-requires-clause-lawful c =
    let held = c.args.draft.now.store.now in
    let variables = c.args.variables.now in
    let d = c.args.delete.now in
    let blocks = c.as_slice-blocks.result.now in
    let found = c.in_ok-found.found in
    let delete = template_of_blocks (names_of variables) blocks in
    let insert = template_of_blocks (names_of variables) [] in
    let effect = modified delete insert held.draft.next (denoted_by held.draft.known found) in
    let all = solutions (translated_blocks variables blocks) held.default_graph None held.draft.quads in
    c.effects_are_lawful.ensures.of_operation c.args.max_rows held.default_graph (operation.DeleteWhere d) held.draft.quads held.draft.next effect
    (subst (λ n. IsTrue (is_above_blanks n held.draft.quads)) c.next_blank.ensures.next c.next_blank.ensures.above) c.next_blank.ensures.predicates refl
    (deleted c.args.max_rows held variables blocks d effect c.requires c.as_slice-blocks.ensures (under c.args.max_rows delete insert held.draft.next held.draft.known all found c.in_ok-found.ensures))

pub returns-clause-outcome : goal.returns-clause-outcome
returns-clause-outcome c =
    let held = c.args.draft.now.store.now in
    let variables = c.args.variables.now in
    let d = c.args.delete.now in
    let blocks = c.as_slice-blocks.result.now in
    let found = c.in_ok-found.found in
    let delete = template_of_blocks (names_of variables) blocks in
    let insert = template_of_blocks (names_of variables) [] in
    let effect = modified delete insert held.draft.next (denoted_by held.draft.known found) in
    let all = solutions (translated_blocks variables blocks) held.default_graph None held.draft.quads in
    done c.args.max_rows held (operation.DeleteWhere d) effect c.change_by.result c.change_by.new.draft.store.now.draft
    (deleted c.args.max_rows held variables blocks d effect c.requires c.as_slice-blocks.ensures (under c.args.max_rows delete insert held.draft.next held.draft.known all found c.in_ok-found.ensures))
    c.change_by.ensures.outcome

pub returns-in_err-found-clause-outcome : goal.returns-in_err-found-clause-outcome
returns-in_err-found-clause-outcome c =
    let held = c.args.draft.now.store.now in
    let variables = c.args.variables.now in
    let d = c.args.delete.now in
    let blocks = c.as_slice-blocks.result.now in
    let f = c.in_err-found.field-0.0 in
    let delete = template_of_blocks (names_of variables) blocks in
    let insert = template_of_blocks (names_of variables) [] in
    let all = solutions (translated_blocks variables blocks) held.default_graph None held.draft.quads in
    let p = err_from_is_err_and c.from_residual.result c.from_residual.ensures.1 in
    rw (p.1, p.2) (refused c.args.max_rows held (operation.DeleteWhere d) f held.draft
    (λ n. deleted c.args.max_rows held variables blocks d (Err f) c.requires c.as_slice-blocks.ensures (not_under c.args.max_rows delete insert held.draft.next held.draft.known all f c.in_err-found.ensures n)))
