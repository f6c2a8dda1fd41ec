use Rattle.std.proofs.Common.{length}
use Rattle.qs_paths.proofs.LinkLaws.{row_under}
use Rattle.qs_paths.proofs.links.Links.lead_on.Goals as goal

pub add_all-requires-clause-below : goal.add_all-requires-clause-below
add_all-requires-clause-below c =
    row_under (length c.args.found.now.rounds.items) c.args.self.now.next.items c.args.place c.index.result.now c.as_slice.result.now c.requires.place c.index.ensures c.as_slice.ensures.value c.requires.below
