use Rattle.std.proofs.Common.{Some, map, ap, sym, ◌∙◌}
use Rattle.qs_store.proofs.Changed.{Turn, entries_after, quads_after}
use Rattle.qs_store.proofs.store.change.Goals as goal

pub returns-clause-quads : goal.returns-clause-quads
returns-clause-quads c =
    let t : Turn c.args.dict.now.terms c.numbered_all.new.dict.terms c.args.layers.now.draft c.change.new.self.draft c.as_mut_slice.result.now c.as_mut_slice-2.result.now c.args.remove.now c.args.add.now = record {
      front = c.numbered_all.ensures.front;
      distinct = c.in_ok-ins.ensures.lawful.distinct;
      known = c.requires;
      lawful = c.in_ok-ins.ensures.fits;
      outs_are = c.as_mut_slice.ensures.value ∙ c.in_ok-outs.ensures;
      ins_are = c.in_ok-ins.ensures.entries ∙ ap (map Some) (sym c.as_mut_slice-2.ensures.value);
      changed = c.in_ok-change.ensures.draft;
    } in
    quads_after c.args.dict.now.terms c.numbered_all.new.dict.terms c.args.layers.now.draft c.change.new.self.draft c.as_mut_slice.result.now c.as_mut_slice-2.result.now c.args.remove.now c.args.add.now t

pub returns-clause-entries : goal.returns-clause-entries
returns-clause-entries c =
    let t : Turn c.args.dict.now.terms c.numbered_all.new.dict.terms c.args.layers.now.draft c.change.new.self.draft c.as_mut_slice.result.now c.as_mut_slice-2.result.now c.args.remove.now c.args.add.now = record {
      front = c.numbered_all.ensures.front;
      distinct = c.in_ok-ins.ensures.lawful.distinct;
      known = c.requires;
      lawful = c.in_ok-ins.ensures.fits;
      outs_are = c.as_mut_slice.ensures.value ∙ c.in_ok-outs.ensures;
      ins_are = c.in_ok-ins.ensures.entries ∙ ap (map Some) (sym c.as_mut_slice-2.ensures.value);
      changed = c.in_ok-change.ensures.draft;
    } in
    entries_after c.args.dict.now.terms c.numbered_all.new.dict.terms c.args.layers.now.draft c.change.new.self.draft c.as_mut_slice.result.now c.as_mut_slice-2.result.now c.args.remove.now c.args.add.now t
