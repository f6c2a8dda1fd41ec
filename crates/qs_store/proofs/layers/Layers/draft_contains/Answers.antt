use Rattle.std.proofs.Common.{◌↔◌, true, not, IsTrue, Contains, refl, subst}
use Rattle.std.proofs.lemmas.Bool.{false≢true}
use Rattle.qs_store.proofs.Drafted.{is_added, kept_exactly, not_drafted}
use Rattle.qs_store.proofs.layers.Layers.draft_contains.Goals as goal

pub returns-then-contains : goal.returns-then-contains
returns-then-contains c =
    let s = c.self.inside in
    let x = c.args.entry.now in
    subst (λ v. IsTrue true ↔ Contains v.draft x) c.self.view_is (λ h. is_added s.index.entries s.removed.entries s.added.entries x (c.if-contains.ensures.0 refl), λ m. refl)

pub returns-then-contains-2 : goal.returns-then-contains-2
returns-then-contains-2 c =
    let s = c.self.inside in
    let x = c.args.entry.now in
    subst (λ v. IsTrue (not c.contains-then-contains-2.result) ↔ Contains v.draft x) c.self.view_is
    (kept_exactly s.index.entries s.removed.entries s.added.entries x c.contains-then-contains-2.result (c.if-contains-2.ensures.0 refl) (λ m. false≢true (c.if-contains.ensures.1 m)) c.contains-then-contains-2.ensures)

pub returns-else-contains-2 : goal.returns-else-contains-2
returns-else-contains-2 c =
    let s = c.self.inside in
    let x = c.args.entry.now in
    subst (λ v. IsTrue c.contains-2.result ↔ Contains v.draft x) c.self.view_is
    (not_drafted s.index.entries s.removed.entries s.added.entries x c.contains-2.result (λ m. false≢true (c.if-contains.ensures.1 m)) c.contains-2.ensures c.if-contains-2.false)
