-- What a text, or a part of it, results in, for all layers: a value, or the one fault that is due.
-- The first fault of several parts is that of the whole.
use Rattle.std.specs.Prelude.{◌≡◌, ◌≢◌, Result, Ok, Err}
use Rattle.qs_terms.specs.declared.fault.QFault.{QFault}
use Rattle.qs_terms.specs.declared.fault.QFault.TheVariants.{Memory}

abbrev pub Outcome : Type 0 → Type 0
Outcome A = Result A QFault

-- the second after the value of the first, or the fault of the first
abbrev pub and_then : {A B : Type 0} → Outcome A → (A → Outcome B) → Outcome B
and_then (Ok a) f = f a
and_then (Err e) f = Err e

-- what is due after the value of the first, or the fault of the first
abbrev pub IsDueAfter : {A B : Type 0} → (A → Outcome B → Type 0) → Outcome A → Outcome B → Type 0
IsDueAfter Due (Ok a) outcome = Due a outcome
IsDueAfter Due (Err f) outcome = outcome ≡ Err f

-- the answer is one of the outcomes that are due, or running out of memory
abbrev pub OneOrOutOfMemory : {A : Type 0} → (Outcome A → Type 0) → Outcome A → Type 0
OneOrOutOfMemory Due (Ok a) = Due (Ok a)
OneOrOutOfMemory Due (Err e) = e ≢ Memory → Due (Err e)
