-- A turn writes the text up to a backslash.
use Rattle.std.proofs.Common.{rules, ◌≡◌, sym, subst, ◌<◌, ◌++◌, length, string_bytes}
use Rattle.std.specs.List.{position_or_len, before_first, after_first}
use Rattle.std.specs.Str.{IsUtf8}
use Rattle.qs_lex_escapes.specs.inner.Decoded.{is_backslash}
use Rattle.qs_lex_escapes.proofs.Backslashes.{dropped_turn, behind_is_text}
use Rattle.qs_lex_escapes.proofs.decode.join.Goals as goal

pub loop-run-preserved : goal.loop-run-preserved
loop-run-preserved c =
    let run : c.in-Some.run'.now ≡ before_first is_backslash c.loop-run.left.now = search rules in
    let behind : c.in-Some.behind.now ≡ after_first is_backslash c.loop-run.left.now = search rules in
    let there : position_or_len is_backslash c.loop-run.left.now < length c.loop-run.left.now = search rules in
    let after : string_bytes c.push_str-in-Some.new.self ≡ string_bytes c.loop-run.out ++ c.in-Some.run'.now = search rules in
    (dropped_turn _ _ _ _ _ _ c.loop-run.invariant.0 there run behind after, subst IsUtf8 (sym behind) (behind_is_text _ c.loop-run.invariant.1 there))
