use Rattle.std.proofs.Common.{◌↔◌, IsTrue, subst, sym, ◌∙◌, false}
use Rattle.std.specs.List.{Contains}
use Rattle.std.proofs.lemmas.Bool.{false≢true}
use Rattle.qs_store.proofs.Entries.{said_exactly, not_said}
use Rattle.qs_store.proofs.store.Store.draft_contains.Goals as goal

pub returns-in-None : goal.returns-in-None
returns-in-None c =
    let i = c.self.invariant in
    let s = c.self.inside in
    subst (λ v. IsTrue false ↔ Contains v.draft.quads c.args.quad.now) c.self.view_is
    (λ h. absurd (false≢true h), λ m. absurd (not_said s.dict.terms s.layers.draft c.args.quad.now i.distinct i.known_draft (sym c.entry_of.ensures ∙ c.in-None.is) m))

pub returns-in-Some : goal.returns-in-Some
returns-in-Some c =
    let i = c.self.invariant in
    let s = c.self.inside in
    let same = said_exactly s.dict.terms s.layers.draft c.args.quad.now c.in-Some.entry i.distinct i.known_draft (sym c.entry_of.ensures ∙ c.in-Some.is) in
    subst (λ v. IsTrue c.draft_contains.result ↔ Contains v.draft.quads c.args.quad.now) c.self.view_is
    (λ h. same.0 (c.draft_contains.ensures.0 h), λ m. c.draft_contains.ensures.1 (same.1 m))
