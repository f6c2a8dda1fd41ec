use Rattle.std.proofs.Common.{map, ap, ◌∙◌}
use Rattle.qs_paths.specs.inner.State.{turned_cells}
use Rattle.qs_paths.proofs.Rest.{all_rest}
use Rattle.qs_paths.proofs.stream.Pairs.rest_found.Goals as goal

pub returns-in_ok-rest-in-None-Whole : goal.returns-in_ok-rest-in-None-Whole
returns-in_ok-rest-in-None-Whole g c =
    all_rest g.V.View.content g.V.View.default_seen c.args.self.now c.in-None-Whole.rows c.in_ok-rest-in-None-Whole.rest.items c.in-None-Whole.is-0 c.in-None-Whole.is-1 (c.in_ok-rest-in-None-Whole.ensures ∙ ap (map (turned_cells c.args.self.now.turned)) c.rest_of.ensures)
