use Rattle.std.proofs.Common.{◌+◌, refl, arith}
use Rattle.qs_plan.proofs.Cutting.{cut_grows, cut_begins, cut_passes}
use Rattle.qs_plan.proofs.order.next_run.Goals as goal

pub put_run-requires-clause-scans : goal.put_run-requires-clause-scans
put_run-requires-clause-scans g c = c.requires.cut.scans

pub returns-then-is_scan : goal.returns-then-is_scan
returns-then-is_scan g c = (
  omega arith,
  cut_grows c.args.stages.now c.args.places.now.items c.args.run.register c.args.run.from c.args.run.count (c.args.run.from + c.args.run.count) c.index-stages-at.result refl c.requires.within c.index-stages-at.is (c.is_scan.ensures c.if-is_scan.true) c.requires.cut,
)

pub returns-then-is_scan-2 : goal.returns-then-is_scan-2
returns-then-is_scan-2 g c = (
  refl,
  cut_begins c.args.stages.now c.args.places.now.items c.put_run.new.places.items c.args.run.register c.register_from-register.result c.args.run.from c.args.run.count (c.args.run.from + c.args.run.count) c.index-stages-at.result refl c.requires.within c.index-stages-at.is (c.is_scan-2.ensures c.if-is_scan-2.true) c.requires.cut c.in_ok-put_run.ensures,
)

pub returns : goal.returns
returns g c = (
  omega arith,
  cut_passes c.args.stages.now c.args.places.now.items c.put_run.new.places.items c.put_place.new.places.items c.args.run.register c.args.run.from c.args.run.count (c.args.run.from + c.args.run.count) c.index-stages-at.result refl c.requires.within c.index-stages-at.is c.requires.cut c.in_ok-put_run.ensures c.in_ok-put_place.ensures,
)
