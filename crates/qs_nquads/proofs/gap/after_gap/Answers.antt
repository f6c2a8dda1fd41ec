use Rattle.std.proofs.Common.{◌∙◌, ap, le_trans, length}
use Rattle.std.proofs.lemmas.Str.{IsUtf8-past_char}
use Rattle.qs_nquads.proofs.Gaps.{skip_step, skip_stop, skip_end, shorter}
use Rattle.qs_nquads.proofs.gap.after_gap.Goals as goal

pub returns-in_default-within_gap-clause-chars : goal.returns-in_default-within_gap-clause-chars
returns-in_default-within_gap-clause-chars c =
    skip_stop _ _ c.in-Some.c c.chars.in_comment _ c.chars.invariant.utf8 (c.chars.invariant.same ∙ c.in-Some.ensures.steps.0) c.in_default-within_gap.ensures c.chars.invariant.skipped

pub chars-preserved : goal.chars-preserved
chars-preserved c =
    let front = c.chars.invariant.same ∙ c.in-Some.ensures.steps.0 in
    let utf8 = IsUtf8-past_char _ _ c.in-Some.c c.chars.invariant.utf8 front in
    record {
      text = rw c.as_str-left.ensures utf8;
      utf8 = rw c.as_str-left.ensures utf8;
      same = c.as_str-left.ensures;
      skipped = rw c.as_str-left.ensures (skip_step _ _ c.in-Some.c c.chars.in_comment c.in-Some-within_gap.next _ c.chars.invariant.utf8 front c.in-Some-within_gap.ensures c.chars.invariant.skipped);
      len = rw c.as_str-left.ensures (le_trans (shorter _ _ c.in-Some.c front) c.chars.invariant.len);
    }

pub returns-clause-chars : goal.returns-clause-chars
returns-clause-chars c = skip_end c.chars.in_comment _ _ (ap length c.chars.invariant.same ∙ c.in_default.ensures.steps.0.0) c.chars.invariant.skipped
