use Rattle.std.proofs.Common.{sym, ◌∙◌}
use Rattle.std.proofs.lemmas.Bool.{eqb-true}
use Rattle.qs_store.proofs.Out.{all_out}
use Rattle.qs_store.proofs.emptied_graphs.is_all_out.Goals as goal

pub returns : goal.returns
returns c =
    λ h. all_out c.args.index.now.entries c.args.removed.now.entries c.requires (sym c.len.ensures.count ∙ eqb-true c.len.result c.len-2.result h ∙ c.len-2.ensures.count)
