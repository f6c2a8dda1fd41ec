use Rattle.std.proofs.Common.{◌+◌, arith}
use Rattle.std.proofs.lemmas.Bool.{eqb-true}
use Rattle.qs_store.proofs.Out.{default_out}
use Rattle.qs_store.proofs.emptied_graphs.is_default_out.Goals as goal

pub returns : goal.returns
returns c =
    λ h.
    let same = eqb-true (c.len.result + c.named_len.result) (c.len-2.result + c.named_len-2.result) h in
    default_out c.args.index.now.entries c.args.removed.now.entries c.requires (omega (arith, same, c.len.ensures.count, c.named_len.ensures.count, c.len-2.ensures.count, c.named_len-2.ensures.count))
