use Rattle.std.proofs.Common.{length}
use Rattle.qs_paths.proofs.LinkLaws.{row_under}
use Rattle.qs_paths.proofs.links.Links.reached_from.Goals as goal

pub any_of-requires-clause-below : goal.any_of-requires-clause-below
any_of-requires-clause-below c =
    row_under (length c.args.reached.now.rounds.items) c.args.self.now.next.items c.args.place c.index.result.now c.as_slice.result.now c.requires.place c.index.ensures c.as_slice.ensures.value c.requires.below
