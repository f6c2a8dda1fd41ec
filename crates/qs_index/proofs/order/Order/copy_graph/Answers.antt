use Rattle.std.proofs.Common.{◌≡◌, [], ◌∷◌, length, arith, sym, ap, ◌∙◌, subst}
use Rattle.qs_index.specs.inner.Entry.{beginning, run_of, skip_before}
use Rattle.qs_index.specs.inner.Layout.{joined, rest_at}
use Rattle.qs_index.specs.inner.PagePosition.{IsFound}
use Rattle.qs_index.proofs.Ascending.{beginning_is_run}
use Rattle.qs_index.proofs.Looks.{start_fits}
use Rattle.qs_index.proofs.order.Order.copy_graph.Goals as goal

pub find-requires-clause-countable : goal.find-requires-clause-countable
find-requires-clause-countable c =
    rw (c.new-reader.ensures.pages, c.new-reader.ensures.looked) (start_fits c.self.inside.pages.pages c.len-count.ensures.sizes (omega (arith, c.len-count.ensures.len, c.len-count.type_inv)))

pub returns-in-None-clause-entries : goal.returns-in-None-clause-entries
returns-in-None-clause-entries c =
    let pages = c.self.inside.pages.pages in
    let p = c.args.graph ∷ [] in
    let none : skip_before p (joined pages) ≡ [] = subst (λ q. skip_before q (joined pages) ≡ []) c.new-prefix.ensures (subst (λ r. skip_before c.new-prefix.result (joined r) ≡ []) c.new-reader.ensures.pages c.in-None.ensures.none) in
    sym (ap (run_of p) none) ∙ sym (beginning_is_run p (joined pages) c.self.invariant.ascending) ∙ ap (λ s. beginning p s.entries) c.self.view_is

pub copy-requires-clause-batch : goal.copy-requires-clause-batch
copy-requires-clause-batch c =
    let pages = c.self.inside.pages.pages in
    let p = c.args.graph ∷ [] in
    let place = c.in-Some.found.place in
    let found : IsFound c.new-prefix.result pages place.page place.at c.in-Some.found.entry = subst (λ r. IsFound c.new-prefix.result r place.page place.at c.in-Some.found.entry) c.new-reader.ensures.pages c.in-Some.ensures.some in
    let all : run_of c.new-prefix.result (rest_at pages place.page place.at) ≡ beginning p c.args.self.now.entries =
    ap (run_of c.new-prefix.result) found.before ∙ ap (λ q. run_of q (skip_before q (joined pages))) c.new-prefix.ensures ∙ sym (beginning_is_run p (joined pages) c.self.invariant.ascending) ∙ ap (λ s. beginning p s.entries) c.self.view_is in
    omega (arith, ap length all, c.requires)

pub returns-in-Some-clause-entries : goal.returns-in-Some-clause-entries
returns-in-Some-clause-entries c =
    let pages = c.self.inside.pages.pages in
    let p = c.args.graph ∷ [] in
    let place = c.in-Some.found.place in
    let found : IsFound c.new-prefix.result pages place.page place.at c.in-Some.found.entry = subst (λ r. IsFound c.new-prefix.result r place.page place.at c.in-Some.found.entry) c.new-reader.ensures.pages c.in-Some.ensures.some in
    c.copy.ensures.entries
    ∙ ap (run_of c.new-prefix.result) found.before ∙ ap (λ q. run_of q (skip_before q (joined pages))) c.new-prefix.ensures ∙ sym (beginning_is_run p (joined pages) c.self.invariant.ascending) ∙ ap (λ s. beginning p s.entries) c.self.view_is
