use Rattle.std.proofs.Common.{◌≡◌, ◌+◌, ◌-◌, length, ap, ◌∙◌}
use Rattle.qs_nquads.specs.Nquads.{line_at}
use Rattle.qs_nquads.specs.inner.Unread.{Unread, HasRead, state}
use Rattle.qs_nquads.specs.declared.fault.NqFaultKind.TheVariants.{Memory}
use Rattle.qs_nquads.proofs.AfterStatement.{after_statement}
use Rattle.qs_nquads.proofs.HandedOut.{fails}
use Rattle.qs_nquads.proofs.reader.Reader.out_of_memory.Goals as goal

pub returns-clause-fault : goal.returns-clause-fault
returns-clause-fault c = λ first quads h done.
    let u : Unread = c.args.self.now in
    let read : HasRead first quads u = h in
    let line : c.line.result ≡ line_at u.bytes (length u.bytes - (length u.rest + 1)) = c.line.ensures ∙ ap (λ (z : Unread). line_at u.bytes (length u.bytes - (length z.rest + 1))) c.self.view_is in
    fails first quads u read Memory (length u.rest + 1) c.line.result (after_statement u.bytes first read.0 (state u.place u.labels u.rest quads) read.1 done) line
