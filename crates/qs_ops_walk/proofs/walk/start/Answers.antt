use Rattle.std.proofs.Common.{◌∙◌, [], ap, ◌++◌, ◌∷◌, List}
use Rattle.qs_expr.specs.inner.Cell.{row_solution}
use Rattle.qs_ops_walk.specs.inner.Setting.{graph_in, known_of}
use Rattle.qs_ops_walk.specs.declared.source.Level.{Level}
use Rattle.qs_ops_walk.proofs.Begins.{first, first_low, first_rows, first_walk}
use Rattle.qs_ops_walk.proofs.walk.start.Goals as goal

pub returns-clause-walk : goal.returns-clause-walk
returns-clause-walk g c table fits =
    first_walk c.args.reader.now c.in_ok-places.places.items c.in_ok-program.program.code.items c.in_ok-program.program.start c.args.row c.in_ok-places.ensures.code c.push.new.self.items
    (c.in_ok-push.ensures.items ∙ ap (λ (l : List Level). l ++ first c.args.reader.now c.in_ok-places.places.items c.in_ok-program.program.code.items c.in_ok-program.program.start c.args.row c.in_ok-places.ensures.code ∷ []) c.new-levels.ensures.items)
    c.in_ok-program.ensures.forward table (c.in_ok-places.ensures.ready table) fits

pub returns-clause-rows : goal.returns-clause-rows
returns-clause-rows g c table =
    first_rows c.args.reader.now c.in_ok-places.places.items c.in_ok-program.program.code.items c.in_ok-program.program.start c.args.row c.in_ok-places.ensures.code c.push.new.self.items
    (c.in_ok-push.ensures.items ∙ ap (λ (l : List Level). l ++ first c.args.reader.now c.in_ok-places.places.items c.in_ok-program.program.code.items c.in_ok-program.program.start c.args.row c.in_ok-places.ensures.code ∷ []) c.new-levels.ensures.items)
    c.args.stages.now table (c.in_ok-program.ensures.makes c.args.reader.now.width c.args.reader.now.content.quads (graph_in c.args.reader.now) (row_solution (known_of c.args.reader.now) table c.args.row))

pub returns-clause-low : goal.returns-clause-low
returns-clause-low g c = first_low c.args.stages.now c.in_ok-places.places.items c.in_ok-program.program.code.items c.in_ok-places.ensures.code c.in_ok-program.ensures.low
