use Rattle.std.proofs.Common.{length, subst, ◌∙◌}
use Rattle.std.proofs.lemmas.Result.{err_from_is_err_and}
use Rattle.std.specs.Option.{option_copied}
use Rattle.qs_store.specs.inner.Change.{IsFullAt}
use Rattle.qs_store.specs.inner.Entries.{statement_of}
use Rattle.qs_store.proofs.Copied.{copied_said, held_quad}
use Rattle.qs_store.proofs.CopiedTerms.{terms_copied}
use Rattle.qs_store.proofs.GraphsSaid.{have_four}
use Rattle.qs_store.proofs.whole_graphs.entries_copied.Goals as goal

pub returns-in_err-to-clause-full : goal.returns-in_err-to-clause-full
returns-in_err-to-clause-full c =
    let terms = c.args.dict.now.terms in
    let entries = c.args.layers.now.draft in
    let from = option_copied c.args.from in
    let to = option_copied c.args.to in
    let h = c.in-Some.ensures.held in
    let quad = held_quad terms c.in-Some.ensures.lawful.distinct entries c.requires.known from c.in-Some.from c.in-Some.ensures.number h in
    let later = subst (λ ts. IsFullAt c.in_err-to.field-0.0 c.args.dict.now.limit (length ts)) (terms_copied terms entries from to (statement_of terms h.entry) c.requires.known quad) c.in_err-to.ensures.full in
    let p = err_from_is_err_and c.from_residual.result c.from_residual.ensures.1 in
    rw (p.1, p.2) later

pub draft_copies-requires : goal.draft_copies-requires
draft_copies-requires c = have_four c.args.dict.now.terms c.args.layers.now.draft c.requires.known

pub returns-clause-entries : goal.returns-clause-entries
returns-clause-entries c =
    copied_said c.args.dict.now.terms c.put_graph.new.dict.terms c.put_graph.ensures.front c.len-count.ensures.lawful.distinct c.args.layers.now.draft c.requires.known
    c.in_ok-draft_copies.field-0.items (option_copied c.args.from) (option_copied c.args.to) c.in-Some.from c.in_ok-to.to
    c.in-Some.ensures.number c.in_ok-to.ensures.number c.requires.lawful c.in_ok-draft_copies.ensures

pub returns-clause-terms : goal.returns-clause-terms
returns-clause-terms c =
    let terms = c.args.dict.now.terms in
    let entries = c.args.layers.now.draft in
    let from = option_copied c.args.from in
    let h = c.in-Some.ensures.held in
    c.in_ok-to.ensures.terms ∙ terms_copied terms entries from (option_copied c.args.to) (statement_of terms h.entry) c.requires.known (held_quad terms c.in-Some.ensures.lawful.distinct entries c.requires.known from c.in-Some.from c.in-Some.ensures.number h)
