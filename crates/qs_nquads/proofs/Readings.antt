-- One front more.
use Rattle.std.proofs.Common.{◌≡◌, List, ℕ, Result, Ok, Err, sym, ap, ◌∙◌, subst}
use Rattle.qs_terms.specs.Statement.{Statement}
use Rattle.qs_terms.specs.inner.OrOutOf.{BecomesOrOutOfMemory}
use Rattle.qs_nquads.specs.Labels.{Numbering}
use Rattle.qs_nquads.specs.inner.PartAt.{part_of}
use Rattle.qs_nquads.specs.inner.StatementState.{after}
use Rattle.qs_nquads.specs.inner.Reading.{Reading, placed, taken, read}
use Rattle.qs_nquads.specs.declared.class.Class.{Class}
use Rattle.qs_nquads.specs.declared.fault.NqFaultKind.{NqFaultKind}
use Rattle.qs_nquads.specs.declared.fault.NqFaultKind.TheVariants.{Memory}
use Rattle.qs_nquads.specs.declared.part.Part.{Part}
use Rattle.qs_nquads.specs.declared.statement_state.StatementState.{StatementState}
use Rattle.qs_nquads.specs.inner.Next.{Next}

module _ (p old : StatementState) (before labels : Numbering) (quads : List Statement) (k : Class) (t : List ℕ) (part : Part)
    (h : part_of p before k t ≡ Ok (part, labels)) (e : old ≡ p) where
  abbrev reading : Reading
  reading = record { place = p; labels = before; quads = quads }

  with_part : read reading k t ≡ placed quads labels (after old part)
  with_part = ap (λ z. taken p quads z) h ∙ ap (λ z. placed quads labels (after z part)) (sym e)

  pub reads : (next : Next) (result : Result (Unit {0}) NqFaultKind) (new : Reading) → after old part ≡ Ok next → BecomesOrOutOfMemory Memory (placed quads labels (Ok next)) result new → BecomesOrOutOfMemory Memory (read reading k t) result new
  reads next result new a b = subst (λ z. BecomesOrOutOfMemory Memory z result new) (sym (with_part ∙ ap (λ z. placed quads labels z) a)) b

  pub misplaced : (f : NqFaultKind) → after old part ≡ Err f → read reading k t ≡ Err f
  misplaced f a = with_part ∙ ap (λ z. placed quads labels z) a
