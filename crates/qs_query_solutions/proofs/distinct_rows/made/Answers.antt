use Rattle.std.proofs.Common.{length, map, sym, ◌∙◌}
use Rattle.std.specs.Option.{option_copied}
use Rattle.std.proofs.lemmas.List.{length-map}
use Rattle.qs_query_solutions.specs.inner.Distinct.{cell_of}
use Rattle.qs_query_solutions.proofs.Fronts.{solution_whole}
use Rattle.qs_query_solutions.proofs.Keys.{key_cell, key_more}
use Rattle.qs_query_solutions.proofs.distinct_rows.made.Goals as goal

pub term_of-requires : goal.term_of-requires
term_of-requires g c x e = c.requires.each c.loop-at.at x (key_cell c.args.keys.now c.loop-at.at ∙ (sym c.cell_of.ensures ∙ e))

pub loop-at-preserved : goal.loop-at-preserved
loop-at-preserved g c =
    key_more c.args.op.now.known c.args.op.now.table c.args.keys.now c.loop-at.at c.loop-at.solution c.bind.new.solution c.cell_of.result (option_copied c.term_of.result) c.loop-at-test.true c.loop-at.invariant c.cell_of.ensures c.term_of.ensures c.in_ok-bind.ensures

pub returns : goal.returns
returns g c =
    solution_whole c.args.op.now.known c.args.op.now.table (map cell_of c.args.keys.now) (length c.args.keys.now) c.loop-at.at c.loop-at.solution (sym (length-map c.args.keys.now cell_of)) c.loop-at.invariant c.loop-at.auto.at-end c.loop-at-test.false
