-- Definitions over those of `Outcome`, for proofs and the layers between.
use Rattle.qs_terms.specs.declared.fault.QFault.TheVariants.{Memory}
use Rattle.qs_terms.specs.inner.OrOutOf.{OrOutOf}
use Rattle.qs_terms.specs.Outcome.{Outcome}

-- the answer is the outcome that is due, or running out of memory
abbrev pub OrOutOfMemory : {A : Type 0} → Outcome A → Outcome A → Type 0
OrOutOfMemory due answer = OrOutOf Memory due answer
