use Rattle.std.proofs.Common.{◌≡◌, ◌-◌, length, subst, sym, ap, ◌∙◌}
use Rattle.qs_nquads.specs.Nquads.{line_at}
use Rattle.qs_nquads.specs.inner.Outcome.{IsStop}
use Rattle.qs_nquads.specs.inner.Reading.{start}
use Rattle.qs_nquads.specs.inner.Unread.{Unread, HasRead}
use Rattle.qs_nquads.proofs.HandedOut.{handed_out, fails}
use Rattle.qs_nquads.proofs.reader.Reader.next.Goals as goal

pub returns-in-Ok-clause-next : goal.returns-in-Ok-clause-next
returns-in-Ok-clause-next c = λ first quads h.
    let old : Unread = record { bytes = c.self.inside.text.now; place = c.self.inside.place; labels = c.self.inside.labels; rest = c.self.inside.rest.now } in
    let k : HasRead first quads old = subst (λ (z : Unread). HasRead first quads z) (sym c.self.view_is) h in
    handed_out first quads old k c.in-Ok.next c.read_statement.new.place c.read_statement.new.labels c.in-Ok.rest.now (c.in-Ok.ensures.read (start first old.bytes) quads k.1)

pub returns-in-Err-clause-fault : goal.returns-in-Err-clause-fault
returns-in-Err-clause-fault c = λ first quads h.
    let now : Unread = c.args.self.now in
    let old : Unread = record { bytes = c.self.inside.text.now; place = c.self.inside.place; labels = c.self.inside.labels; rest = c.self.inside.rest.now } in
    let k : HasRead first quads old = subst (λ (z : Unread). HasRead first quads z) (sym c.self.view_is) h in
    let line : c.line.result ≡ line_at now.bytes (length now.bytes - c.in-Err.stop.left) = c.line.ensures ∙ ap (λ (z : Unread). line_at z.bytes (length z.bytes - c.in-Err.stop.left)) c.self.view_is in
    fails first quads now h c.in-Err.stop.kind c.in-Err.stop.left c.line.result
    (subst (λ (z : Unread). IsStop (start first z.bytes) c.in-Err.stop.kind c.in-Err.stop.left) c.self.view_is (c.in-Err.ensures.read (start first old.bytes) quads k.1))
    line
