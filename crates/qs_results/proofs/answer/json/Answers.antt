use Rattle.std.proofs.Common.{◌∙◌, ◌++◌, ℕ, List, IsUtf8, ap, sym, subst}
use Rattle.std.proofs.lemmas.Str.{IsUtf8-nil}
use Rattle.serde_json.specs.Written.{compact_text}
use Rattle.qs_results.specs.Json.{json_of}
use Rattle.qs_results.proofs.answer.json.Goals as goal

pub unreachable-requires : goal.unreachable-requires
unreachable-requires c =
    let ok = c.from_utf8.ensures.succeeds (c.in_ok-bytes.ensures.utf8 (subst IsUtf8 (sym c.new.ensures.items) IsUtf8-nil)) in
    cc (rw c.in-Err.is at ok)

pub returns : goal.returns
returns c =
    ap (λ v. v.items) c.in-Ok.ensures.ok ∙ (c.in_ok-bytes.ensures.text ∙ ap (λ (l : List ℕ). l ++ compact_text (json_of c.args.answer.now)) c.new.ensures.items)
