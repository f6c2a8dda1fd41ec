use Rattle.std.proofs.Common.{◌≡◌, [], length, sym, ◌∙◌, ap, arith, chars, encode_utf8_all}
use Rattle.std.proofs.lemmas.Str.{IsUtf8-past_char, encodes-chars}
use Rattle.qs_lex.proofs.Prefix.{same_init, run_part, run_more, run_stop, run_end, not_true}
use Rattle.qs_lex.proofs.run.run_at.Goals as goal

pub chars-init : goal.chars-init
chars-init c =
    let e = c.chars-rest.ensures.rest in
    record {
      utf8 = rw e c.utf8.text;
      left = ap length (sym e);
      part = ([], ap chars (sym e));
      same = same_init _ _ _ (let l : length (encode_utf8_all (chars c.args.text.now)) ≡ length c.args.text.now = ap length (encodes-chars _ c.utf8.text) in omega (arith, l));
    }

pub returns-in_default-goes_on : goal.returns-in_default-goes_on
returns-in_default-goes_on c h =
    run_stop _ _ _ c.in-Some.c _ c.chars.last c.chars.invariant.utf8 c.in-Some.ensures.steps.0 c.chars.invariant.left c.chars.invariant.part c.chars.invariant.same
    c.in_default-goes_on.ensures (sym c.is_named.ensures ∙ not_true _ h)

pub chars-preserved : goal.chars-preserved
chars-preserved c =
    let more = run_more _ _ _ c.in-Some.c _ c.chars.last c.chars.invariant.utf8 c.in-Some.ensures.steps.0 c.chars.invariant.left c.chars.invariant.part c.chars.invariant.same
    c.in-Some-goes_on.next c.in-Some-goes_on.ensures in
    let e = ap length c.as_str-left.ensures in
    record {
      utf8 = IsUtf8-past_char _ _ c.in-Some.c c.chars.invariant.utf8 c.in-Some.ensures.steps.0;
      left = e;
      part = run_part _ _ _ c.in-Some.c _ c.chars.last c.chars.invariant.utf8 c.in-Some.ensures.steps.0 c.chars.invariant.left c.chars.invariant.part c.chars.invariant.same;
      same = rw e more;
    }

pub returns : goal.returns
returns c h = run_end _ _ _ c.chars.last c.in_default.ensures.steps.0.0 c.chars.invariant.same
