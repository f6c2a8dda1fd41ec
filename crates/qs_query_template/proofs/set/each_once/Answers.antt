use Rattle.std.proofs.Common.{sym, ◌∙◌}
use Rattle.std.proofs.lemmas.List.Filters.{dedup_is}
use Rattle.qs_terms.specs.Statement.{same_statement}
use Rattle.qs_terms.proofs.SameStatement.{same_statement-Decides, eq_is}
use Rattle.qs_terms.specs.contracts.quad.QuadOrd.TheImpl as ord
use Rattle.qs_terms.specs.contracts.quad.QuadOrd.TheImpl.Laws as law
use Rattle.qs_terms.specs.contracts.quad.QuadPartialEq.TheImpl as equ
use Rattle.qs_query_template.proofs.Once.{sorted_once}
use Rattle.qs_query_template.proofs.set.each_once.Goals as goal

pub returns : goal.returns
returns c =
    sorted_once same_statement same_statement-Decides ord.ghosts.cmp (λ a b. sym (law.matches_eq-law a b) ∙ eq_is a b) equ.ghosts.eq eq_is law.total-law law.matches_eq-law
    c.args.quads.items c.sort_unstable.new.self.items c.dedup.new.self.items c.sort_unstable.ensures.permutation c.sort_unstable.ensures.sorted
    (dedup_is equ.ghosts.eq _ _ c.dedup.ensures.filtered)
