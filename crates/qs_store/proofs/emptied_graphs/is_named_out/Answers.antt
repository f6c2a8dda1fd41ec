use Rattle.std.proofs.Common.{sym, ◌∙◌}
use Rattle.std.proofs.lemmas.Bool.{eqb-true}
use Rattle.qs_store.proofs.Out.{named_out}
use Rattle.qs_store.proofs.emptied_graphs.is_named_out.Goals as goal

pub returns : goal.returns
returns c =
    λ h. named_out c.args.index.now.entries c.args.removed.now.entries c.requires (sym c.named_len.ensures.count ∙ eqb-true c.named_len.result c.named_len-2.result h ∙ c.named_len-2.ensures.count)
