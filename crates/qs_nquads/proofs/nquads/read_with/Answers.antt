use Rattle.std.proofs.Common.{ℕ, List, subst, sym}
use Rattle.qs_terms.specs.Statement.{Statement}
use Rattle.qs_nquads.specs.Nquads.{IsNquads, IsFault}
use Rattle.qs_nquads.specs.inner.Unread.{HasRead}
use Rattle.qs_nquads.proofs.nquads.read_with.Goals as goal

pub returns-in-Err : goal.returns-in-Err
returns-in-Err c = λ first is. (c.in-Err.ensures.fault first).1

pub returns-in-Ok-outcome : goal.returns-in-Ok-outcome
returns-in-Ok-outcome c = λ first is.
    let begun : HasRead first c.new-quads.result.items c.in-Ok.reader = subst (λ (l : List Statement). HasRead first l c.in-Ok.reader) (sym c.new-quads.ensures.items) (c.in-Ok.ensures.read first is) in
    subst (λ (b : List ℕ). IsNquads b first c.read_into-outcome.new.quads.items c.in-Ok-outcome.next) c.in-Ok.ensures.bytes (c.in-Ok-outcome.ensures first begun)

pub returns-in-Err-outcome : goal.returns-in-Err-outcome
returns-in-Err-outcome c = λ first is.
    let begun : HasRead first c.new-quads.result.items c.in-Ok.reader = subst (λ (l : List Statement). HasRead first l c.in-Ok.reader) (sym c.new-quads.ensures.items) (c.in-Ok.ensures.read first is) in
    subst (λ (b : List ℕ). IsFault b first c.in-Err-outcome.fault.kind c.in-Err-outcome.fault.line) c.in-Ok.ensures.bytes (c.in-Err-outcome.ensures first begun)
