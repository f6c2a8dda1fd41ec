use Rattle.std.proofs.Common.{◌≡◌, ◌++◌, ◌∷◌, drop}
use Rattle.json.specs.Token.{begin_object}
use Rattle.json.specs.Tree.{members_tokens}
use Rattle.serde_json.specs.Written.{members_outline}
use Rattle.qs_results.specs.inner.Columns.{members_of}
use Rattle.qs_results.proofs.solution.put_row.Given as goal

-- with those of the columns that are left the tokens become those of the row
abbrev pub invariant-loop-column : goal.invariant-loop-column
invariant-loop-column l =
    (l.out.before ≡ l.fn.out.before)
    × (l.out.tokens ++ members_tokens (members_outline (members_of (drop l.column-index l.columns) l.row)) ≡ l.fn.out.tokens ++ begin_object ∷ members_tokens (members_outline (members_of l.columns l.row)))
