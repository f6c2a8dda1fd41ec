use Rattle.std.proofs.Common.{refl}
use Rattle.qs_store.proofs.Out.{noted, removal}
use Rattle.qs_store.proofs.layers.Layers.note.Goals as goal

pub are_out-requires-clause-removal : goal.are_out-requires-clause-removal
are_out-requires-clause-removal c =
    let s = c.self.inside in
    removal s.index.entries s.removed.entries s.added.entries c.self.invariant.parted

pub invariant_of-self : goal.invariant_of-self
invariant_of-self c =
    let s = c.self.inside in
    let i = c.self.invariant in
    record {
      parted = i.parted;
      out = noted c.args.graph s.index.entries s.removed.entries s.emptied c.note.new.self c.note.result c.note.ensures.noted c.note.ensures.refused i.out (c.if-is_emptied.ensures refl);
      spare = i.spare;
      named_spare = i.named_spare;
      removed_room = i.removed_room;
      added_room = i.added_room;
    }
