use Rattle.std.proofs.Common.{sym, Ok, Err}
use Rattle.std.proofs.lemmas.Result.{err_from_is_err_and}
use Rattle.qs_terms.proofs.Datatypes.{is_unknown, named, unnamed, unnamed_fits}
use Rattle.qs_terms.proofs.datatype.Datatype.parse.Goals as goal

pub returns-in-Some-clause-answer : goal.returns-in-Some-clause-answer
returns-in-Some-clause-answer c = rw c.untagged.ensures.answer (named c.args.text.now c.in-Some.known (sym c.in-Some.ensures))

pub returns-in_err-parse-in-None-clause-answer : goal.returns-in_err-parse-in-None-clause-answer
returns-in_err-parse-in-None-clause-answer c =
    let p = err_from_is_err_and c.from_residual.result c.from_residual.ensures.1 in
    let n = is_unknown c.args.text.now c.in-None.ensures in
    rw (p.1, p.2) (unnamed c.args.text.now (Err c.in_err-parse-in-None.field-0.0) n c.in_err-parse-in-None.ensures)

pub returns-in_ok-parse-in-None-clause-answer : goal.returns-in_ok-parse-in-None-clause-answer
returns-in_ok-parse-in-None-clause-answer c =
    unnamed c.args.text.now (Ok c.in_ok-parse-in-None.field-0) (is_unknown c.args.text.now c.in-None.ensures) c.in_ok-parse-in-None.ensures

pub returns-in_ok-parse-in-None-clause-lawful : goal.returns-in_ok-parse-in-None-clause-lawful
returns-in_ok-parse-in-None-clause-lawful c =
    unnamed_fits c.args.text.now c.in_ok-parse-in-None.field-0 (is_unknown c.args.text.now c.in-None.ensures) c.in_ok-parse-in-None.ensures
