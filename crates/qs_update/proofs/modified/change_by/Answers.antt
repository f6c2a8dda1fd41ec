use Rattle.std.proofs.Common.{◌∙◌, ap}
use Rattle.qs_query_template.specs.Template.{template_in, template_of_blocks}
use Rattle.qs_update.proofs.Under.{denoted_by, same_becomes, still_lawful}
use Rattle.qs_update.proofs.modified.change_by.Goals as goal

pub change_by_templates-requires-clause-lawful : goal.change_by_templates-requires-clause-lawful
change_by_templates-requires-clause-lawful c =
    let draft = c.args.draft.now.store.now.draft in
    still_lawful _ _ _ _ draft.next (denoted_by draft.known c.args.found.now)
    (c.in_ok-delete.ensures ∙ ap (λ ns. template_in c.args.with.now (template_of_blocks ns c.args.delete.now)) c.in_ok-names.ensures)
    (c.in_ok-insert.ensures ∙ ap (λ ns. template_in c.args.with.now (template_of_blocks ns c.args.insert.now)) c.in_ok-names.ensures)
    c.requires.lawful

pub returns-clause-outcome : goal.returns-clause-outcome
returns-clause-outcome c =
    let held = c.args.draft.now.store.now in
    same_becomes _ _ _ _ held.draft.next (denoted_by held.draft.known c.args.found.now)
    (c.in_ok-delete.ensures ∙ ap (λ ns. template_in c.args.with.now (template_of_blocks ns c.args.delete.now)) c.in_ok-names.ensures)
    (c.in_ok-insert.ensures ∙ ap (λ ns. template_in c.args.with.now (template_of_blocks ns c.args.insert.now)) c.in_ok-names.ensures)
    held.limit held.draft c.change_by_templates.result c.change_by_templates.new.draft.store.now.draft c.change_by_templates.ensures.outcome
