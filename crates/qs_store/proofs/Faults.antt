-- Which refusals are due.
use Rattle.std.proofs.Common.{ℕ, ◌≤◌, arith}
use Rattle.qs_store.specs.inner.Change.{IsFullAt}
use Rattle.qs_store.specs.declared.fault.StoreFault.{StoreFault}
use Rattle.qs_store.specs.declared.fault.StoreFault.TheVariants.{Full, Memory}

-- what is full stays so, however many terms follow
pub full_later : (f : StoreFault) (limit n m : ℕ) → n ≤ m → IsFullAt f limit n → IsFullAt f limit m
full_later Memory limit n m l h = tt
full_later Full limit n m l h = omega (arith, l, h)
