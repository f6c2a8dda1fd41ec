use Rattle.std.proofs.Common.{sym}
use Rattle.qs_store.proofs.Merging.{kept_step}
use Rattle.qs_store.proofs.kept.Kept.next.Goals as goal

pub returns-then-not-is_entry : goal.returns-then-not-is_entry
returns-then-not-is_entry c =
    let s = c.entries.self-inside in
    kept_step c.args.self.now s.entries.rest c.in-Some.entry c.next.new.self.rest s.next_removed s.removed.rest c.entries.invariant c.in-Some.ensures.steps.0 (sym c.if-not-is_entry.ensures)
