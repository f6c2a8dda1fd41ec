-- A turn writes the text up to a backslash, and what the escape after it denotes.
use Rattle.std.proofs.Common.{rules, ◌≡◌, ◌∙◌, sym, subst, ◌<◌, ◌++◌, length, drop, string_bytes}
use Rattle.std.specs.List.{position_or_len, before_first, after_first}
use Rattle.std.specs.Str.{IsUtf8}
use Rattle.qs_lex_escapes.specs.inner.Decoded.{stands_for, length_of}
use Rattle.qs_lex_escapes.specs.inner.Escape.{escape}
use Rattle.qs_lex_escapes.specs.inner.Decoded.{is_backslash}
use Rattle.qs_lex_escapes.proofs.Backslashes.{turned}
use Rattle.qs_lex_escapes.proofs.EscapeEnds.{boundary, rest_is_text}
use Rattle.qs_lex_escapes.proofs.decode.decode_by_runs.Goals as goal

pub push_escape-requires : goal.push_escape-requires
push_escape-requires c =
    let found : c.first_escape-found.result ≡ escape c.args.kind c.in-Some.behind.now = search rules in
    let text : IsUtf8 c.in-Some.behind.now = subst IsUtf8 c.as_bytes.ensures.value c.as_bytes.ensures.utf8 in
    λ x h. boundary c.args.kind c.in-Some.behind.now x text (sym found ∙ h)

pub loop-run-preserved : goal.loop-run-preserved
loop-run-preserved c =
    let run : c.in-Some.run'.now ≡ before_first is_backslash c.loop-run.left.now = search rules in
    let behind : c.in-Some.behind.now ≡ after_first is_backslash c.loop-run.left.now = search rules in
    let there : position_or_len is_backslash c.loop-run.left.now < length c.loop-run.left.now = search rules in
    let middle : string_bytes c.push_str.new.self ≡ string_bytes c.loop-run.out ++ c.in-Some.run'.now = search rules in
    let found : c.first_escape-found.result ≡ escape c.args.kind c.in-Some.behind.now = search rules in
    let after : string_bytes c.push_escape.new.out ≡ string_bytes c.push_str.new.self ++ stands_for (escape c.args.kind c.in-Some.behind.now) = rw (← found) c.in_ok-left.ensures.written in
    let next : c.in_ok-left.left.now ≡ drop (length_of (escape c.args.kind c.in-Some.behind.now)) c.in-Some.behind.now = rw (← found) c.in_ok-left.ensures.rest in
    let text : IsUtf8 c.in-Some.behind.now = subst IsUtf8 c.as_bytes.ensures.value c.as_bytes.ensures.utf8 in
    (turned (escape c.args.kind) _ _ _ _ _ _ _ _ c.loop-run.invariant.0 there run behind middle after next, subst IsUtf8 (sym next) (rest_is_text c.args.kind c.in-Some.behind.now text))
