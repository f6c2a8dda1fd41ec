-- Literals that are made, or refused, from texts.
use Rattle.std.proofs.Common.{◌≡◌, Some, Result, Ok, Err, refl, sym, ap}
use Rattle.std.specs.Result.{result_ok}
use Rattle.qs_terms.specs.declared.fault.TermFault.{TermFault}
use Rattle.qs_terms.specs.declared.fault.TermFault.TheVariants.{NotAbsolute, BadChar, BadTag, BadDatatype, Memory}
use Rattle.qs_terms.specs.inner.OrOutOf.{ValueOrOutOfMemory}
use Rattle.qs_terms.specs.inner.Outcome.{OrOutOfMemory}
use Rattle.qs_syntax_resolve.specs.inner.Refused.{unless_refused}

-- what may fail where memory runs out gives what is due
pub made : {A : Type 0} → (due : Result A TermFault) (found : Result A TermFault) → ValueOrOutOfMemory Memory due found → OrOutOfMemory (Ok (result_ok due)) (unless_refused found)
made (Ok x) (Ok y) h = ap (λ z. Ok (Some z)) (sym h)
made (Ok x) (Err NotAbsolute) h = absurd (cc)
made (Ok x) (Err BadChar) h = absurd (cc)
made (Ok x) (Err BadTag) h = absurd (cc)
made (Ok x) (Err BadDatatype) h = absurd (cc)
made (Ok x) (Err Memory) h = λ no. absurd (no refl)
made (Err f) (Ok y) h = absurd (cc)
made (Err f) (Err NotAbsolute) h = refl
made (Err f) (Err BadChar) h = refl
made (Err f) (Err BadTag) h = refl
made (Err f) (Err BadDatatype) h = refl
made (Err f) (Err Memory) h = λ no. absurd (no refl)
