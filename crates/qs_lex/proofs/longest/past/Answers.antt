use Rattle.qs_lex.specs.inner.State.{left}
use Rattle.qs_lex.specs.inner.Steady.{is_steady}
use Rattle.qs_lex.proofs.Passing.{passed}
use Rattle.qs_lex.proofs.longest.past.Goals as goal

pub returns-in-Some-clause-found : goal.returns-in-Some-clause-found
returns-in-Some-clause-found c =
    passed (left c.args.state) (is_steady c.in-Some.steady) c.args.text.now c.behind.result.now c.utf8.text c.behind.utf8 c.behind.ensures.len c.behind.ensures.chars c.in-Some.ensures
