use Rattle.std.proofs.Common.{ℕ, ◌-◌, ◌^◌, List}
use Rattle.qs_terms.specs.declared.term.Term.{Term}
use Rattle.qs_paths_meaning.specs.Pair.{Pair}
use Rattle.qs_paths.specs.inner.Nodes.{IsNaming}
use Rattle.qs_paths.specs.inner.State.{IsWalking}
use Rattle.qs_paths.proofs.walk.next_walked.Given as goal

abbrev pub invariant-nodes : goal.invariant-nodes
invariant-nodes g l = (name : ℕ → Term) → IsNaming (g.E.Source.known l.edges) name → (ps : List Pair) → IsWalking (g.E.Source.graph l.edges) name l.fn.walk ps → IsWalking (g.E.Source.graph l.edges) name l.walk ps

abbrev pub decreases-nodes : goal.decreases-nodes
decreases-nodes g l = 2 ^ 64 - l.walk.given
