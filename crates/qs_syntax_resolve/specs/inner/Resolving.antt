-- Definitions over those of `Resolving`, for proofs and the layers between.
use Rattle.std.specs.Prelude.{◌≡◌, ◌≢◌, List, Ok, Err}
use Rattle.qs_terms.specs.declared.fault.QFault.TheVariants.{Memory}
use Rattle.qs_terms.specs.Outcome.{Outcome}
use Rattle.qs_syntax_resolve.specs.declared.resolver.Resolver.{Resolver}

-- what a function ensures: the outcome, unless memory runs out
abbrev pub Resolves : {A : Type 0} → Outcome (A × Resolver) → Outcome A → Resolver → Type 0
Resolves outcome (Ok a) new = outcome ≡ Ok (a, new)
Resolves outcome (Err e) new = e ≢ Memory → outcome ≡ Err e

-- the same of a function that puts what it finds after what is there, and of one that gives a value
-- beside
abbrev pub Collects : {A : Type 0} → Outcome (List A × Resolver) → Outcome (Unit {0}) → List A
    → Resolver → Type 0
Collects outcome (Ok done) found new = outcome ≡ Ok (found, new)
Collects outcome (Err e) found new = e ≢ Memory → outcome ≡ Err e

abbrev pub Opens : {A B : Type 0} → Outcome ((B × List A) × Resolver) → Outcome B → List A
    → Resolver → Type 0
Opens outcome (Ok b) found new = outcome ≡ Ok ((b, found), new)
Opens outcome (Err e) found new = e ≢ Memory → outcome ≡ Err e

abbrev pub Changes : {A : Type 0} → Outcome (A × Resolver) → Outcome (Unit {0}) → A → Resolver
    → Type 0
Changes outcome (Ok done) changed new = outcome ≡ Ok (changed, new)
Changes outcome (Err e) changed new = e ≢ Memory → outcome ≡ Err e
