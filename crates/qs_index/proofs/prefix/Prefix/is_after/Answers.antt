use Rattle.std.proofs.Common.{◌≡◌, length, rules, ap, ◌∙◌}
use Rattle.qs_index.specs.inner.Entry.{is_before}
use Rattle.qs_index.proofs.Prefixes.{before_filled}
use Rattle.qs_index.proofs.prefix.Prefix.is_after.Goals as goal

pub returns : goal.returns
returns c =
    let same : length c.args.entry.now ≡ length c.self.inside.filled = search rules in
    c.is_less.ensures ∙ before_filled c.args.entry.now c.self.inside.filled c.self.inside.given same c.self.invariant.zeros ∙ ap (is_before c.args.entry.now) c.self.view_is
