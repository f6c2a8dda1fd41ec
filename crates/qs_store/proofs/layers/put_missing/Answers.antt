use Rattle.std.proofs.Common.{take}
use Rattle.qs_store.proofs.Drafted.{all_put_in, put_in}
use Rattle.qs_store.proofs.layers.put_missing.Goals as goal

pub returns : goal.returns
returns c =
    let a = c.args in
    record {
      union = put_in a.index.now.entries a.removed.now.entries a.added.now.entries a.entries.now (take c.gather-count.result c.gather-count.new.batch) c.insert_all-2.new.self.entries c.gather-count.ensures.part c.insert_all-2.ensures.union;
    }

pub returns-then-are_missing : goal.returns-then-are_missing
returns-then-are_missing c =
    let a = c.args in
    record {
      union = all_put_in a.index.now.entries a.removed.now.entries a.added.now.entries a.entries.now c.insert_all.new.self.entries (c.requires.missing c.if-are_missing.true) c.insert_all.ensures.union;
    }
