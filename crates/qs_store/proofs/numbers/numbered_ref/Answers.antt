use Rattle.std.proofs.Common.{◌∙◌}
use Rattle.std.proofs.lemmas.Result.{err_from_is_err_and}
use Rattle.qs_store.specs.inner.References.{referred_quad}
use Rattle.qs_store.proofs.References.{in_steps, full_at_predicate, full_at_object}
use Rattle.qs_store.proofs.Terms.{entry_in_steps, front_refl, front_trans}
use Rattle.qs_store.proofs.numbers.numbered_ref.Goals as goal

pub returns-in_err-p-clause-full : goal.returns-in_err-p-clause-full
returns-in_err-p-clause-full c =
    let old = c.args.dict.now.terms in
    let a = c.put_graph_ref.new.dict.terms in
    let b = c.put_ref.new.dict.terms in
    let q = referred_quad old c.args.quad in
    let to_a = c.put_graph_ref.ensures.front in
    let to_b = front_trans old a b to_a c.put_ref.ensures.front in
    let full = full_at_predicate c.in_err-p.field-0.0 c.args.dict.now.limit c.put_ref.new.dict.limit old a b q c.in_ok-g.ensures.terms (c.in_ok-s.ensures.terms old to_a c.requires.subject) (c.put_ref.ensures.limit ∙ c.put_graph_ref.ensures.limit) (c.in_err-p.ensures.full old to_b c.requires.predicate) in
    let p = err_from_is_err_and c.from_residual-in_err-p.result c.from_residual-in_err-p.ensures.1 in
    rw (p.1, p.2) full

pub returns-in_err-o-clause-full : goal.returns-in_err-o-clause-full
returns-in_err-o-clause-full c =
    let old = c.args.dict.now.terms in
    let a = c.put_graph_ref.new.dict.terms in
    let b = c.put_ref.new.dict.terms in
    let d = c.put_ref-2.new.dict.terms in
    let q = referred_quad old c.args.quad in
    let to_a = c.put_graph_ref.ensures.front in
    let to_b = front_trans old a b to_a c.put_ref.ensures.front in
    let to_d = front_trans old b d to_b c.put_ref-2.ensures.front in
    let full = full_at_object c.in_err-o.field-0.0 c.args.dict.now.limit c.put_ref-2.new.dict.limit old a b d q c.in_ok-g.ensures.terms (c.in_ok-s.ensures.terms old to_a c.requires.subject) (c.in_ok-p.ensures.terms old to_b c.requires.predicate) (c.put_ref-2.ensures.limit ∙ (c.put_ref.ensures.limit ∙ c.put_graph_ref.ensures.limit)) (c.in_err-o.ensures.full old to_d c.requires.object) in
    let p = err_from_is_err_and c.from_residual-in_err-o.result c.from_residual-in_err-o.ensures.1 in
    rw (p.1, p.2) full

pub returns-clause-entry : goal.returns-clause-entry
returns-clause-entry c =
    let old = c.args.dict.now.terms in
    let a = c.put_graph_ref.new.dict.terms in
    let b = c.put_ref.new.dict.terms in
    let d = c.put_ref-2.new.dict.terms in
    let e = c.put_ref-3.new.dict.terms in
    let q = referred_quad old c.args.quad in
    let to_a = c.put_graph_ref.ensures.front in
    let to_b = front_trans old a b to_a c.put_ref.ensures.front in
    let to_d = front_trans old b d to_b c.put_ref-2.ensures.front in
    entry_in_steps a b d e q c.in_ok-g.g c.in_ok-s.s c.in_ok-p.p c.in_ok-o.o c.put_ref.ensures.front c.put_ref-2.ensures.front c.put_ref-3.ensures.front c.put_ref-3.ensures.lawful.distinct
    c.in_ok-g.ensures.number (c.in_ok-s.ensures.number old to_a c.requires.subject) (c.in_ok-p.ensures.number old to_b c.requires.predicate) (c.in_ok-o.ensures.number old to_d c.requires.object)

pub returns-clause-terms : goal.returns-clause-terms
returns-clause-terms c =
    let old = c.args.dict.now.terms in
    let a = c.put_graph_ref.new.dict.terms in
    let b = c.put_ref.new.dict.terms in
    let d = c.put_ref-2.new.dict.terms in
    let e = c.put_ref-3.new.dict.terms in
    let to_a = c.put_graph_ref.ensures.front in
    let to_b = front_trans old a b to_a c.put_ref.ensures.front in
    let to_d = front_trans old b d to_b c.put_ref-2.ensures.front in
    in_steps old a b d e (referred_quad old c.args.quad) c.in_ok-g.ensures.terms (c.in_ok-s.ensures.terms old to_a c.requires.subject) (c.in_ok-p.ensures.terms old to_b c.requires.predicate) (c.in_ok-o.ensures.terms old to_d c.requires.object)
