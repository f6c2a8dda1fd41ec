use Rattle.std.proofs.Common.{◌≡◌, None, take, fold}
use Rattle.qs_syntax_limits.specs.Large as spec
use Rattle.qs_syntax_limits.specs.inner.Parts.{further}
use Rattle.qs_syntax_limits.proofs.query.in_select_items.Given as goal

abbrev pub invariant-loop-item : goal.invariant-loop-item
invariant-loop-item l = l.found ≡ fold (further spec.select_item) None (take l.item-index l.all)
