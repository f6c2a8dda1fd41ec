use Rattle.std.proofs.Common.{◌∙◌, ap, sym, le_trans, length}
use Rattle.std.proofs.lemmas.Str.{IsUtf8-past_char}
use Rattle.qs_lex.specs.inner.Steady.{is_steady}
use Rattle.qs_lex.proofs.TokenList.{shorter}
use Rattle.qs_lex.proofs.Passing.{pass_step, pass_stop, pass_end}
use Rattle.qs_lex.proofs.steady.Steady.pass.Goals as goal

pub returns-then-not-is_steady-clause-chars : goal.returns-then-not-is_steady-clause-chars
returns-then-not-is_steady-clause-chars c =
    pass_stop (is_steady c.args.self) _ _ c.in-Some.c _ c.chars.invariant.utf8 (c.chars.invariant.same ∙ c.in-Some.ensures.steps.0) (sym c.if-not-is_steady.ensures) c.chars.invariant.passed

pub chars-preserved : goal.chars-preserved
chars-preserved c =
    let front = c.chars.invariant.same ∙ c.in-Some.ensures.steps.0 in
    let utf8 = IsUtf8-past_char _ _ c.in-Some.c c.chars.invariant.utf8 front in
    record {
      text = rw c.as_str-left.ensures utf8;
      utf8 = rw c.as_str-left.ensures utf8;
      same = c.as_str-left.ensures;
      passed = rw c.as_str-left.ensures (pass_step (is_steady c.args.self) _ _ c.in-Some.c _ c.chars.invariant.utf8 front (sym c.if-not-is_steady.ensures) c.chars.invariant.passed);
      len = rw c.as_str-left.ensures (le_trans (shorter _ _ c.in-Some.c front) c.chars.invariant.len);
    }

pub returns-clause-chars : goal.returns-clause-chars
returns-clause-chars c = pass_end (is_steady c.args.self) _ _ (ap length c.chars.invariant.same ∙ c.in_default.ensures.steps.0.0) c.chars.invariant.passed
