use Rattle.std.proofs.Common.{[], subst, sym, rules, IsUtf8}
use Rattle.qs_nquads.specs.inner.Reading.{start, Comes, here}
use Rattle.qs_nquads.specs.inner.Unread.{state}
use Rattle.qs_nquads.specs.declared.statement_state.StatementState.TheVariants as place
use Rattle.qs_nquads.proofs.reader.Reader.with_labels.Goals as goal

pub returns-in-Ok-clause-read : goal.returns-in-Ok-clause-read
returns-in-Ok-clause-read c = λ first is.
    let utf8 : IsUtf8 c.in-Ok.text.now = search rules in
    (utf8, subst (λ n. Comes (start first c.in-Ok.text.now) (state place.Start n c.in-Ok.text.now [])) (sym is) here)
