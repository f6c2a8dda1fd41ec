-- Definitions over those of `Change`, for proofs and the layers between.
use Rattle.std.specs.Prelude.{ℕ, ◌<◌, ◌≤◌, List, Result, Ok, Err}
use Rattle.std.specs.List.{fold}
use Rattle.qs_terms.specs.Bag.{with_new}
use Rattle.qs_terms.specs.Term.{same_term}
use Rattle.qs_terms.specs.declared.term.Term.{Term}
use Rattle.qs_store.specs.declared.fault.StoreFault.{StoreFault}
use Rattle.qs_store.specs.declared.fault.StoreFault.TheVariants.{Full, Memory}

-- the terms with these after them, each once
abbrev pub with_terms : List Term → List Term → List Term
with_terms known terms = fold (with_new same_term) known terms

-- a change that needs so many terms is done only where they are no more than the limit, and refused
-- as full only where they are more; running out of memory may come in place of either
abbrev pub IsFullExactly : {X : Type 0} → ℕ → ℕ → Result X StoreFault → Type 0
IsFullExactly limit wanted (Ok done) = wanted ≤ limit
IsFullExactly limit wanted (Err Full) = limit < wanted
IsFullExactly limit wanted (Err Memory) = Unit {0}

-- only full where the terms that are wanted are more than the limit
abbrev pub IsFullAt : StoreFault → ℕ → ℕ → Type 0
IsFullAt Full limit wanted = limit < wanted
IsFullAt Memory limit wanted = Unit {0}
