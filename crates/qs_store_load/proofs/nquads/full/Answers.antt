use Rattle.std.proofs.Common.{◌++◌, subst, ◌∙◌}
use Rattle.qs_nquads.specs.Nquads.{IsNquads}
use Rattle.qs_store_load.specs.inner.Loading.{HasReadMore}
use Rattle.qs_store_load.proofs.nquads.full.Goals as goal

pub returns-in-Ok-None : goal.returns-in-Ok-None
returns-in-Ok-None c = λ first quads h.
    let r : HasReadMore first quads c.statements.reader = c.statements.invariant.read first quads h in
    let ended = rw c.in-Ok-None.field-0-is at (c.in-Ok-None.ensures.next first (quads ++ r.more) r.read) in
    record {
      more = r.more;
      next = c.next.new.self.labels.next;
      reads = subst (λ b. IsNquads b first (quads ++ r.more) c.next.new.self.labels.next) (c.in-Ok-None.ensures.bytes ∙ c.statements.invariant.bytes) ended.1;
    }
