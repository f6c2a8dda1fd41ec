use Rattle.std.proofs.Common.{◌≡◌, List, [], ◌∷◌, ◌++◌, sym, ◌∙◌, subst}
use Rattle.qs_terms.specs.Statement.{Statement}
use Rattle.qs_terms.specs.declared.term.Term.{Term}
use Rattle.qs_store.specs.inner.References.{referred_quad}
use Rattle.qs_store.specs.inner.Store.{IsFront}
use Rattle.qs_update_entries.specs.inner.Refers.{if_lawful}
use Rattle.qs_update_entries.specs.inner.Say.{Say}
use Rattle.qs_update_entries.proofs.Saying.{front_of_one, ok_then, on_ok, one_lawful, one_said}
use Rattle.qs_update_entries.proofs.added.put_added.Goals as goal

pub returns-clause-front : goal.returns-clause-front
returns-clause-front c =
    let old = c.args.draft.now.store.now.draft.known in
    let new = c.number_ref.new.self.store.now.draft.known in
    on_ok c.push.result (IsFront old new) (front_of_one old new (referred_quad old c.args.quad) c.in_ok-entry.ensures.known)

pub returns-clause-say : goal.returns-clause-say
returns-clause-say c =
    let old = c.args.draft.now.store.now.draft.known in
    let new = c.number_ref.new.self.store.now.draft.known in
    let entries = c.args.entries.now.items in
    let more = c.push.new.entries.items in
    let entry = c.in_ok-entry.entry in
    let q = referred_quad old c.args.quad in
    ok_then c.push.result (more ≡ entries ++ entry ∷ [])
    ((first : List Term) (quads : List Statement) → Say first old entries quads → Say first new more (quads ++ if_lawful q)) c.push.ensures.pushed
    (λ pushed first quads s.
    subst (λ one. Say first new more (quads ++ one)) (sym (one_lawful q (sym c.fits.ensures ∙ c.if-not-fits.false)))
    (one_said first old new entries more entry quads q pushed c.in_ok-entry.ensures.said c.in_ok-entry.ensures.known s))
