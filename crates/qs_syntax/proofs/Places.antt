-- Running out of memory stays what it is beside a place.
use Rattle.std.proofs.Common.{ℕ, Option, Some, None, Ok, Err, ap, refl}
use Rattle.qs_terms.specs.Outcome.{Outcome}
use Rattle.qs_terms.specs.inner.Outcome.{OrOutOfMemory}
use Rattle.qs_terms.specs.declared.fault.QFault.TheVariants as fault
use Rattle.qs_syntax.specs.Outcome.{by_place}

-- what is due of a resolved tree is due beside its place
pub placed : {A : Type 0} (due r : Outcome (Option A)) (large : Option ℕ) → OrOutOfMemory due r → OrOutOfMemory (by_place due large) (by_place r large)
placed due (Ok None) None g = λ n. ap (λ o. by_place o None) g
placed due (Ok (Some a)) None g = ap (λ o. by_place o None) g
placed due (Ok found) (Some p) g = λ n. ap (λ o. by_place o (Some p)) g
placed due (Err fault.Memory) large g = λ n. absurd (n refl)
placed due (Err (fault.Syntax place)) large g = λ n. ap (λ o. by_place o large) (g (λ e. absurd cc))
placed due (Err (fault.Prefix place)) large g = λ n. ap (λ o. by_place o large) (g (λ e. absurd cc))
placed due (Err (fault.RelativeIri place)) large g = λ n. ap (λ o. by_place o large) (g (λ e. absurd cc))
placed due (Err (fault.LeftOut word)) large g = λ n. ap (λ o. by_place o large) (g (λ e. absurd cc))
placed due (Err fault.Scope) large g = λ n. ap (λ o. by_place o large) (g (λ e. absurd cc))
placed due (Err (fault.TooLarge place)) large g = λ n. ap (λ o. by_place o large) (g (λ e. absurd cc))
placed due (Err fault.NoGraph) large g = λ n. ap (λ o. by_place o large) (g (λ e. absurd cc))
placed due (Err fault.GraphExists) large g = λ n. ap (λ o. by_place o large) (g (λ e. absurd cc))
placed due (Err fault.TooManyRows) large g = λ n. ap (λ o. by_place o large) (g (λ e. absurd cc))
placed due (Err fault.Full) large g = λ n. ap (λ o. by_place o large) (g (λ e. absurd cc))
