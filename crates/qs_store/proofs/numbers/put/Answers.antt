use Rattle.std.proofs.Common.{Err, ap, subst, sym, length}
use Rattle.qs_terms.specs.Bag.{with_new}
use Rattle.qs_terms.specs.Term.{same_term}
use Rattle.qs_dict.specs.inner.Dict.{IsDictionary}
use Rattle.qs_store.specs.inner.Change.{IsFullAt}
use Rattle.qs_store.proofs.Terms.{put_full}
use Rattle.qs_store.proofs.numbers.put.Goals as goal

pub returns-in-Err-clause-full : goal.returns-in-Err-clause-full
returns-in-Err-clause-full c =
    let old : IsDictionary c.args.dict.now = subst IsDictionary c.in-Err.ensures.refused c.in-Err.ensures.lawful in
    subst (λ f. IsFullAt f c.args.dict.now.limit (length (with_new same_term c.args.dict.now.terms c.args.term.now))) (sym c.from.ensures)
    (put_full c.in-Err.fault c.args.dict.now.terms c.args.term.now c.args.dict.now.limit old.distinct (λ e. c.in-Err.ensures.full.0 (ap Err e)))
