use Rattle.std.proofs.Common.{ℕ, ◌≤◌, ◌≡◌, List, [], subst, arith}
use Rattle.std.specs.List.{All}
use Rattle.qs_index.specs.inner.Entry.{skip_before}
use Rattle.qs_index.specs.inner.Graph.{graph_of, IsNextGraph}
use Rattle.qs_index.proofs.Graphs.{none_later, next_later, none_above_all, if_none_from}
use Rattle.qs_index.proofs.index.Index.next_graph.Goals as goal

pub returns-in_err-from-clause-none : goal.returns-in_err-from-clause-none
returns-in_err-from-clause-none c =
    let P : List (List ℕ) → Type 0 = λ xs. All (λ entry. graph_of entry ≤ c.args.after) xs in
    if_none_from (P c.args.self.now.entries) c.from_residual.result c.from_residual.ensures
    (subst (λ s. P s.entries) c.self.view_is (none_above_all c.args.after c.self.inside.gspo.entries c.self.invariant.entries c.in_err-from.ensures))

pub returns-in_err-entry-clause-none : goal.returns-in_err-entry-clause-none
returns-in_err-entry-clause-none c =
    let P : List (List ℕ) → Type 0 = λ xs. All (λ entry. graph_of entry ≤ c.args.after) xs in
    if_none_from (P c.args.self.now.entries) c.from_residual-in_err-entry.result c.from_residual-in_err-entry.ensures
    (subst (λ s. P s.entries) c.self.view_is (none_later c.args.after c.in_ok-from.from c.self.inside.gspo.entries (omega (arith, c.in_ok-from.ensures)) (subst (λ p. skip_before p c.self.inside.gspo.entries ≡ []) c.new.ensures c.in_err-entry.ensures)))

pub returns-clause-next : goal.returns-clause-next
returns-clause-next c =
    subst (λ s. IsNextGraph s.entries c.args.after (graph_of c.in_ok-entry.entry)) c.self.view_is (next_later c.args.after c.in_ok-from.from c.in_ok-entry.entry c.self.inside.gspo.entries _ (omega (arith, c.in_ok-from.ensures)) c.self.invariant.by_subject.ascending (rw c.new.ensures at c.in_ok-entry.ensures))
