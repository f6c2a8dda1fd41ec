use Rattle.std.proofs.Common.{string_bytes, ◌∙◌, ap, ◌++◌, List, ℕ, lit<}
use Rattle.std.proofs.lemmas.Str.{encode_ascii}
use Rattle.hex.specs.Hex.{encode_lower}
use Rattle.qs_service_replay.proofs.Tellings.{line_of_parts}
use Rattle.qs_service_replay.proofs.told.reply_line.Goals as goal

pub returns : goal.returns
returns c =
    line_of_parts c.args.id c.args.reply.now (string_bytes c.in_ok-line.line) (string_bytes c.push_hex.new.line) (string_bytes c.push.new.self) c.in_ok-line.ensures.ok
    (c.in_ok-push_hex.ensures ∙ ap (λ (l : List ℕ). string_bytes c.in_ok-line.line ++ encode_lower l) c.bytes.ensures)
    (c.in_ok-push.ensures.bytes ∙ ap (λ (l : List ℕ). string_bytes c.push_hex.new.line ++ l) (encode_ascii 10 (lit< tt)))
