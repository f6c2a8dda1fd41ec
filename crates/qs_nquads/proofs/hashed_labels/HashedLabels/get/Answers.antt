-- The map finds what contracts see of it.
use Rattle.std.proofs.Common.{◌∙◌}
use Rattle.std.specs.Prelude.{string_bytes}
use Rattle.qs_nquads.proofs.Numbers.{looked_up}
use Rattle.qs_nquads.proofs.hashed_labels.HashedLabels.get.Goals as goal

pub returns : goal.returns
returns c = rw (← c.self.view_is) (c.copied.ensures ∙ (c.get.ensures.value ∙ looked_up string_bytes c.args.label.now c.self.inside.map.entries))
