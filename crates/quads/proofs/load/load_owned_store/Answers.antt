use Rattle.std.proofs.Common.{◌∙◌}
use Rattle.quads.specs.inner.Load.{BecomesStored}
use Rattle.quads.proofs.Loads.{becomes, stored_limit}
use Rattle.quads.proofs.load.load_owned_store.Goals as goal

pub returns-clause-becomes : goal.returns-clause-becomes
returns-clause-becomes c =
    let made = c.new_store-store.ensures in
    let done = c.load_owned-loaded.ensures in
    becomes c.new_store-store.result.limit c.args.file.items c.new_store-store.result.base made.limit made.base c.args.default_graph c.load_owned-loaded.new.store c.load_owned-loaded.result c.loaded_store.result
    done.loaded done.fault done.limit (done.default_graph ∙ made.default_graph) c.loaded_store.ensures

pub returns-clause-limit : goal.returns-clause-limit
returns-clause-limit c =
    let is : BecomesStored c.args.default_graph c.args.file.items c.loaded_store.result = returns-clause-becomes c in
    stored_limit c.args.default_graph c.args.file.items c.loaded_store.result is
