use Rattle.std.proofs.Common.{◌≡◌, take}
use Rattle.serde_json.specs.Data.{no_members}
use Rattle.qs_results.specs.inner.Columns.{members_of}
use Rattle.qs_results.specs.Json.{with_bindings}
use Rattle.qs_results.proofs.Sorted.{AreBound}
use Rattle.qs_results.proofs.columns.bound_columns.Given as goal

-- the bound ones of the variables so far
abbrev pub invariant-loop-at : goal.invariant-loop-at
invariant-loop-at l = AreBound l.row l.columns.entries × (members_of l.columns.entries l.row ≡ with_bindings (take l.at l.vars) l.row no_members)
