use Rattle.qs_store.proofs.Out.{removal}
use Rattle.qs_store.proofs.layers.Layers.draft.Goals as goal

pub kept-requires : goal.kept-requires
kept-requires c =
    let s = c.self.inside in
    removal s.index.entries s.removed.entries s.added.entries c.self.invariant.parted
