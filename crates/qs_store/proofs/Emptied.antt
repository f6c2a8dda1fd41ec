-- A store whose draft has lost the quads of whole graphs.
use Rattle.std.proofs.Common.{◌≡◌, ℕ, ◌≤◌, List, [], refl, sym, subst, arith}
use Rattle.qs_terms.specs.Statement.{Statement}
use Rattle.qs_terms.specs.declared.term.Term.{Term}
use Rattle.qs_store.specs.Change.{IsChanged}
use Rattle.qs_store.specs.inner.Copied.{AreEntriesOf}
use Rattle.qs_store.specs.inner.Entries.{AreEntries, said}
use Rattle.qs_store.specs.inner.Store.{IsStore}
use Rattle.qs_store.proofs.Copied.{changed_by, same_entries}
use Rattle.qs_store.proofs.Members.{Entries}
use Rattle.qs_store.proofs.Sets.{set_refl}
use Rattle.qs_store.proofs.Stored.{store_changed}
use Rattle.qs_store.proofs.Terms.{front_refl}

pub store_emptied : (terms : List Term) (base old new same : Entries) (known next n : ℕ) (removed : List Statement) → IsStore terms base old known next n → AreEntries terms new → IsChanged (said terms old) removed [] (said terms new) → same ≡ base → IsStore terms same new known next n
store_emptied terms base old new same known next n removed s all w e =
    let not_less : n ≤ n = omega arith in
    subst (λ b. IsStore terms b new known next n) (sym e) (store_changed terms terms base old new known next n n removed [] s (front_refl terms) s.distinct all w not_less refl)

-- the entries that are taken out say the quads that are removed
pub emptied_of : (terms : List Term) (old new outs found : Entries) (removed : List Statement) → IsChanged (said terms old) (said terms outs) [] (said terms new) → outs ≡ found → AreEntriesOf terms removed found → IsChanged (said terms old) removed [] (said terms new)
emptied_of terms old new outs found removed w e a =
    changed_by (said terms old) (said terms outs) [] (said terms new) removed [] (same_entries terms removed found outs (sym e) a).says (set_refl []) w

pub all_entries : (terms : List Term) (entries found : Entries) → AreEntries terms entries → found ≡ entries → AreEntriesOf terms (said terms entries) found
all_entries terms entries found all e = same_entries terms (said terms entries) entries found (sym e) record { entries = all; says = set_refl (said terms entries) }
