use Rattle.std.proofs.Common.{◌↔◌, IsTrue, subst, sym, ◌∙◌, false}
use Rattle.std.specs.List.{Contains}
use Rattle.std.proofs.lemmas.Bool.{false≢true}
use Rattle.qs_store.proofs.Entries.{said_exactly, not_said, whole_entries}
use Rattle.qs_store.proofs.store.Store.contains.Goals as goal

pub returns-in-None : goal.returns-in-None
returns-in-None c =
    let i = c.self.invariant in
    let s = c.self.inside in
    let all = whole_entries s.dict.terms s.known s.layers.base i.within i.known_base in
    subst (λ v. IsTrue false ↔ Contains v.base.quads c.args.quad.now) c.self.view_is
    (λ h. absurd (false≢true h), λ m. absurd (not_said s.dict.terms s.layers.base c.args.quad.now i.distinct all (sym c.entry_of.ensures ∙ c.in-None.is) m))

pub returns-in-Some : goal.returns-in-Some
returns-in-Some c =
    let i = c.self.invariant in
    let s = c.self.inside in
    let all = whole_entries s.dict.terms s.known s.layers.base i.within i.known_base in
    let same = said_exactly s.dict.terms s.layers.base c.args.quad.now c.in-Some.entry i.distinct all (sym c.entry_of.ensures ∙ c.in-Some.is) in
    subst (λ v. IsTrue c.contains.result ↔ Contains v.base.quads c.args.quad.now) c.self.view_is
    (λ h. same.0 (c.contains.ensures.0 h), λ m. c.contains.ensures.1 (same.1 m))
