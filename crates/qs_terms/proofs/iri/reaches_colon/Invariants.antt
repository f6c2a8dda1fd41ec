use Rattle.std.proofs.Common.{◌≡◌, drop}
use Rattle.qs_terms.specs.Iri.{reaches_colon}
use Rattle.qs_terms.proofs.iri.reaches_colon.Given as goal

-- what is still to be seen decides
abbrev pub invariant-loop-byte : goal.invariant-loop-byte
invariant-loop-byte l = reaches_colon l.bytes ≡ reaches_colon (drop l.byte-index l.bytes)
