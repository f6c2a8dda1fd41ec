-- What an update leaves in a store.
use Rattle.std.specs.Prelude.{◌≡◌, ◌≢◌, Ok, Err}
use Rattle.qs_terms.specs.Outcome.{Outcome}
use Rattle.qs_terms.specs.declared.fault.QFault.TheVariants.{Memory}
use Rattle.qs_store.specs.Content.{Content}
use Rattle.qs_update.specs.Outcome.{IsSameContent}

-- one of the contents that are due is stored, or a fault is due, or it was out of memory; where it
-- is refused what is stored stays
abbrev pub Changes : (Outcome Content → Type 0) → Content → Outcome (Unit {0}) → Content → Type 0
Changes Due old (Ok done) new = (c : Content) × Due (Ok c) × IsSameContent new c
Changes Due old (Err f) new = (f ≢ Memory → Due (Err f)) × (new ≡ old)
