use Rattle.std.proofs.Common.{◌≡◌, ◌++◌, map, option_to_list, option_map}
use Rattle.form_urlencoded.specs.Parse.{raw_pairs_left}
use Rattle.qs_http.specs.Parameters.{decoded, only, only_value}
use Rattle.qs_http.specs.inner.Parameters.{decoded_pair, values_named}
use Rattle.qs_http.proofs.parameters.only_value.Given as goal

abbrev pub invariant-loop-label : goal.invariant-loop-label
invariant-loop-label l =
    only_value l.name l.text ≡ only (map decoded (option_to_list (option_map (λ v. v.now) l.found)) ++ values_named l.name (map decoded_pair (raw_pairs_left l.label-iterator)))
