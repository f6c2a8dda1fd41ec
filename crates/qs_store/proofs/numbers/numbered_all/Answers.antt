use Rattle.std.proofs.Common.{◌+◌, Some, map, length, refl, sym, ap, subst, arith, ◌∙◌}
use Rattle.std.proofs.lemmas.Result.{err_from_is_err_and}
use Rattle.qs_store.specs.Change.{with_terms_of, terms_of}
use Rattle.qs_store.specs.inner.Change.{with_terms}
use Rattle.qs_store.specs.inner.Change.{IsFullAt}
use Rattle.qs_store.proofs.Terms.{numbered_more, terms_more, no_fewer, front_trans, lawful_more}
use Rattle.qs_store.proofs.Faults.{full_later}
use Rattle.qs_store.proofs.numbers.numbered_all.Goals as goal

pub loop-quad-preserved : goal.loop-quad-preserved
loop-quad-preserved c =
    let i = c.loop-quad.invariant in
    let a = c.loop-quad.dict.terms in
    let b = c.numbered.new.dict.terms in
    let n = numbered_more a b c.args.quads.now c.loop-quad.quad-index c.quad-item.result c.loop-quad.entries.items c.in_ok-entry.entry c.loop-quad-test.true c.quad-item.is c.numbered.ensures.front c.in_ok-entry.ensures.lawful.distinct i.entries c.in_ok-entry.ensures.entry in
    record {
      entries = n ∙ ap (map Some) (sym c.in_ok-push.ensures.items);
      terms = terms_more c.args.dict.now.terms a b c.args.quads.now c.loop-quad.quad-index c.quad-item.result c.loop-quad-test.true c.quad-item.is i.terms c.in_ok-entry.ensures.terms;
      front = front_trans c.args.dict.now.terms a b i.front c.numbered.ensures.front;
      limit = c.numbered.ensures.limit ∙ i.limit;
      lawful = c.in_ok-entry.ensures.lawful;
      fits = lawful_more c.args.quads.now c.loop-quad.quad-index c.quad-item.result c.loop-quad-test.true c.quad-item.is i.fits c.numbered.ensures.fits;
    }

pub returns-in_err-entry-clause-full : goal.returns-in_err-entry-clause-full
returns-in_err-entry-clause-full c =
    let i = c.loop-quad.invariant in
    let a = c.loop-quad.dict.terms in
    let more = terms_more c.args.dict.now.terms a (with_terms a (terms_of c.quad-item.result)) c.args.quads.now c.loop-quad.quad-index c.quad-item.result c.loop-quad-test.true c.quad-item.is i.terms refl in
    let few = no_fewer c.args.dict.now.terms c.args.quads.now (c.loop-quad.quad-index + 1) in
    let limit = c.args.dict.now.limit in
    let full = subst (λ l. IsFullAt c.in_err-entry.field-0.0 l (length (with_terms a (terms_of c.quad-item.result)))) i.limit c.in_err-entry.ensures.full in
    let later = full_later c.in_err-entry.field-0.0 limit (length (with_terms a (terms_of c.quad-item.result))) (length (with_terms_of c.args.dict.now.terms c.args.quads.now)) (omega (arith, ap length more, few)) full in
    let p = err_from_is_err_and c.from_residual.result c.from_residual.ensures.1 in
    rw (p.1, p.2) later
