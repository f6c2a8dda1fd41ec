use Rattle.std.proofs.Common.{rules, ap, ◌∙◌, ◌++◌, List, ℕ, string_bytes}
use Rattle.std.proofs.lemmas.List.{nil_from_length}
use Rattle.qs_service_replay.proofs.Digits.{hex_more, hex_whole}
use Rattle.qs_service_replay.proofs.told.push_hex.Goals as goal

pub loop-rest-preserved : goal.loop-rest-preserved
loop-rest-preserved c =
    hex_more (string_bytes c.loop-rest.line) (string_bytes c.push_str.new.self) _ c.loop-rest.rest.now c.split_at.result.0.now c.split_at.result.1.now _
    (c.in_ok-push_str.ensures.bytes ∙ ap (λ (l : List ℕ). string_bytes c.loop-rest.line ++ l) (c.as_str.ensures.value ∙ c.in_ok-digits.ensures))
    c.split_at.ensures.front c.split_at.ensures.back c.loop-rest.invariant

pub returns : goal.returns
returns c = hex_whole (string_bytes c.loop-rest.line) _ c.loop-rest.rest.now (nil_from_length c.loop-rest.rest.now (search rules)) c.loop-rest.invariant
