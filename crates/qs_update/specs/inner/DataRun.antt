-- Runs of INSERT DATA and DELETE DATA, each of which is one effect (SPARQL 1.1 Update, 3.1.1 and
-- 3.1.2).
use Rattle.std.specs.Prelude.{◌≡◌, ◌≢◌, ◌<◌, Bool, true, false, ℕ, List, [], ◌∷◌, ◌++◌, take, Ok}
use Rattle.std.specs.Prelude.{Err}
use Rattle.qs_terms.specs.Outcome.{Outcome, and_then}
use Rattle.qs_terms.specs.declared.fault.QFault.{QFault}
use Rattle.qs_terms.specs.declared.fault.QFault.TheVariants as fault
use Rattle.qs_syntax_ast.specs.declared.update.Operation.{Operation}
use Rattle.qs_syntax_ast.specs.declared.update.Operation.TheVariants as operation
use Rattle.qs_syntax_ast.specs.declared.update.QuadBlock.{QuadBlock}
use Rattle.qs_store.specs.Change.{with_terms_of}
use Rattle.qs_store.specs.Content.{Content}
use Rattle.qs_update.specs.Effect.{nothing, of_data}
use Rattle.qs_update.specs.Request.{Bounds, IsApplied, IsCarriedOut, AreOperations}
use Rattle.qs_update.specs.declared.effect.Effect.{Effect}

-- INSERT DATA or DELETE DATA
abbrev pub is_data : Operation → Bool
is_data (operation.InsertData blocks) = true
is_data (operation.DeleteData blocks) = true
is_data other = false

abbrev pub begins_with_data : List Operation → Bool
begins_with_data [] = false
begins_with_data (first ∷ operations) = is_data first

-- the effect with that of an INSERT DATA after it, or the fault of this
abbrev pub with_insertion : Effect → List QuadBlock → Outcome Effect
with_insertion e blocks =
    and_then (of_data [] blocks e.next)
    (λ more. Ok (record { removed = e.removed; added = e.added ++ more.added; next = more.next }))

-- the same of a DELETE DATA, which removes nothing that the effect adds
abbrev pub with_deletion : Effect → List QuadBlock → Outcome Effect
with_deletion e blocks =
    and_then (of_data blocks [] e.next)
    (λ more. Ok (record { removed = e.removed ++ more.removed; added = e.added; next = more.next }))

-- the effect with that of one more operation, or the fault of this; a DELETE DATA is one more only
-- where the effect adds nothing
abbrev pub IsWith : Effect → Operation → Outcome Effect → Type 0
IsWith e (operation.InsertData blocks) outcome = outcome ≡ with_insertion e blocks
IsWith e (operation.DeleteData blocks) outcome = (e.added ≡ []) × (outcome ≡ with_deletion e blocks)
IsWith e other outcome = ⊥

-- the operation was put into the effect, or left out, or its fault is due, or memory ran out; a
-- first one is left out only where it is no data
abbrev pub IsPut : Operation → Effect → Outcome Bool → Effect → Type 0
IsPut o old (Ok true) new = IsWith old o (Ok new)
IsPut o old (Ok false) new = (new ≡ old) × (old.added ≡ [] → is_data o ≡ false)
IsPut o old (Err f) new = f ≢ fault.Memory → IsWith old o (Err f)

-- the content after an effect whose new terms become known in the order of what is added, or the
-- fault that there is no room for them
abbrev pub IsCarriedInTurn : ℕ → Content → Effect → Outcome Content → Type 0
IsCarriedInTurn limit old e (Ok new) =
    IsApplied limit old e new × (new.known ≡ with_terms_of old.known e.added)
IsCarriedInTurn limit old e (Err f) = IsCarriedOut limit old (Ok e) (Err f)

-- what the effect makes of a content that has this next number, the operations make of it one after
-- another
abbrev pub IsEffectOf : List Operation → ℕ → Effect → Type 0
IsEffectOf operations next e =
    (bounds : Bounds) (old : Content) (outcome : Outcome Content) → old.next ≡ next
    → IsCarriedInTurn bounds.terms old e outcome → AreOperations bounds operations old outcome

-- the fault is due to the operations over each content that has this next number
abbrev pub AreRefused : List Operation → ℕ → QFault → Type 0
AreRefused operations next f = (bounds : Bounds) (old : Content) → old.next ≡ next
    → AreOperations bounds operations old (Err f)

-- the effect is that of the first so many operations: of none, nothing
pub record IsRun (operations : List Operation) (count next : ℕ) (e : Effect) : Type 0 where
  pub none : count ≡ 0 → e ≡ nothing next
  pub some : 0 < count → IsEffectOf (take count operations) next e
