use Rattle.std.proofs.Common.{◌≡◌, map}
use Rattle.std.specs.List.{list_any}
use Rattle.form_urlencoded.specs.Parse.{raw_pairs_left}
use Rattle.qs_http.specs.Parameters.{has_graph}
use Rattle.qs_http.specs.inner.Parameters.{decoded_pair, is_graph_name}
use Rattle.qs_http.proofs.parameters.names_graph.Given as goal

abbrev pub invariant-loop-name : goal.invariant-loop-name
invariant-loop-name l = has_graph l.text ≡ list_any (λ p. is_graph_name p.0) (map decoded_pair (raw_pairs_left l.name-iterator))
