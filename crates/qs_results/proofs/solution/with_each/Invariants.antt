use Rattle.std.proofs.Common.{◌≡◌, ◌++◌, map, drop}
use Rattle.json.specs.Tree.{items_tokens}
use Rattle.serde_json.specs.View.{items_of}
use Rattle.serde_json.specs.Written.{items_outline}
use Rattle.qs_results.specs.Json.{binding_data}
use Rattle.qs_results.proofs.solution.with_each.Given as goal

-- with those of the rows that are left the tokens become those of all rows
abbrev pub invariant-loop-row : goal.invariant-loop-row
invariant-loop-row l =
    (l.out.before ≡ l.fn.before.items)
    × (l.out.tokens ++ items_tokens (items_outline (items_of (map (binding_data l.vars) (drop l.row-index l.rows)))) ≡ items_tokens (items_outline (items_of (map (binding_data l.vars) l.rows))))
