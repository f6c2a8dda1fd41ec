use Rattle.qs_terms.specs.Outcome.{and_then}
use Rattle.qs_syntax_limits.specs.Large as large
use Rattle.qs_syntax_resolve.specs.Names.{nothing_declared}
use Rattle.qs_syntax_resolve.specs.Query.{query}
use Rattle.qs_syntax_resolve.specs.Resolved.{resolved_query, resolved_update}
use Rattle.qs_syntax_resolve.specs.inner.Resolved.{start, if_lawful}
use Rattle.qs_syntax_resolve.specs.Update.{update}
use Rattle.qs_syntax_scope.specs.KeepsScope.{query_keeps_scope, update_keeps_scope}
use Rattle.qs_syntax.specs.Outcome.{by_place, in_scope, query_outcome, update_outcome}
use Rattle.qs_syntax.specs.inner.Outcome.{listed_query}
use Rattle.qs_syntax_laws.specs.inner.NameFaults.{at, name_faults}
use Rattle.qs_syntax_laws.proofs.Ascending.{tokens_ascend}
use Rattle.qs_syntax_laws.proofs.First.{first_is_least, by_walk, met, scope_is_beyond, still_told}
use Rattle.qs_syntax_laws.proofs.Knot.{query_is_met, update_is_met}
use Rattle.qs_syntax_laws.proofs.laws.first_fault_is_told.Goals as goal

pub returns-clause-of_query : goal.returns-clause-of_query
unfolding query_outcome resolved_query
returns-clause-of_query c = λ text tokens tree a h.
    let s = start (nothing_declared text) in
    let o = query tree s in
    still_told listed_query (name_faults text tokens) (large.query tree) (and_then (by_place (resolved_query text tree) (large.query tree)) (in_scope query_keeps_scope))
    (by_walk (in_scope query_keeps_scope) (scope_is_beyond query_keeps_scope) (name_faults text tokens) (large.query tree) o if_lawful
    (met s tokens o (query_is_met tokens tree h s)) (first_is_least (at s.names) tokens (tokens_ascend text tokens a)))

pub returns-clause-of_update : goal.returns-clause-of_update
unfolding update_outcome resolved_update
returns-clause-of_update c = λ text tokens tree a h.
    let s = start (nothing_declared text) in
    let o = update tree s in
    by_walk (in_scope update_keeps_scope) (scope_is_beyond update_keeps_scope) (name_faults text tokens) (large.update tree) o if_lawful
    (met s tokens o (update_is_met tokens tree h s)) (first_is_least (at s.names) tokens (tokens_ascend text tokens a))
