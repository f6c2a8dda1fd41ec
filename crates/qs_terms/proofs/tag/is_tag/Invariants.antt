use Rattle.std.proofs.Common.{◌≡◌, drop}
use Rattle.qs_terms.specs.Tag.{is_tag, is_tag_rest}
use Rattle.qs_terms.proofs.tag.is_tag.Given as goal

-- what is still to be seen decides
abbrev pub invariant-loop-byte : goal.invariant-loop-byte
invariant-loop-byte l = is_tag l.bytes ≡ is_tag_rest l.first l.empty (drop l.byte-index l.bytes)
