-- Where reading stops.
use Rattle.std.proofs.Common.{◌≡◌, ◌≢◌, ℕ, Bool, true, false, List, [], ◌∷◌, Option, Some, None, Result, Ok, Err, refl, sym, ap, ◌∙◌, true≢false}
use Rattle.std.specs.Prelude.{if◌then◌else◌, ◌+◌, ◌^◌, nat_lt}
use Rattle.qs_terms.specs.Literal.{Literal}
use Rattle.qs_terms.specs.Statement.{Statement}
use Rattle.qs_terms.specs.declared.fault.TermFault.{TermFault}
use Rattle.qs_nquads.specs.inner.Gap.{behind_gap}
use Rattle.qs_nquads.specs.Labels.{Numbering, with_label, number}
use Rattle.qs_nquads.specs.inner.Labels.{known_or_new}
use Rattle.qs_nquads.specs.inner.Part.{iri_part, blank_part, behind}
use Rattle.qs_nquads.specs.inner.PartAt.{part_of, label_part, takes_label}
use Rattle.qs_nquads.specs.inner.StatementState.{after, with_literal, may_end}
use Rattle.qs_nquads.specs.inner.Reading.{Reading, State, Step, goes, ends, stops, step, step_from, step_over, stepped, read, taken, placed}
use Rattle.qs_nquads.specs.inner.Outcome.{IsStop, StopsAt, ComesTo}
use Rattle.qs_nquads.specs.declared.class.Class.{Class}
use Rattle.qs_nquads.specs.declared.class.Class.TheVariants as class
use Rattle.qs_nquads.specs.declared.fault.NqFaultKind.{NqFaultKind}
use Rattle.qs_nquads.specs.declared.fault.NqFaultKind.TheVariants as fault
use Rattle.qs_nquads.specs.declared.node.Node.{Node}
use Rattle.qs_nquads.specs.declared.part.Part.{Part}
use Rattle.qs_nquads.specs.declared.part.Part.TheVariants as part
use Rattle.qs_nquads.specs.declared.statement_state.StatementState.{StatementState}
use Rattle.qs_nquads.specs.declared.statement_state.StatementState.TheVariants as place
use Rattle.qs_nquads.specs.inner.Next.{Next}
use Rattle.qs_nquads.specs.inner.Next as next
use Rattle.qs_lex_regular.specs.inner.Best.{best}
use Rattle.qs_nquads.specs.Table.{table}
use Rattle.std.specs.Str.{chars}

-- ---- what is read is UTF-8, and reading by itself wants no memory

is_never : NqFaultKind → Bool
is_never fault.Utf8 = true
is_never fault.Token = false
is_never fault.Shape = false
is_never fault.Iri = false
is_never fault.Escape = false
is_never fault.Literal = false
is_never fault.Memory = true
is_never fault.Full = false

is_err : {A : Type 0} → Result A NqFaultKind → Bool
is_err (Ok a) = false
is_err (Err f) = is_never f

unless_full : (b : Bool) (x : ℕ × Numbering) → is_err (if b then (Ok x) else (Err fault.Full)) ≡ false
unfolding is_err is_never
unless_full true x = refl
unless_full false x = refl

known_never : (n : Numbering) (label : List ℕ) (o : Option ℕ) → is_err (known_or_new n label o) ≡ false
unfolding is_err is_never
known_never n label (Some number) = refl
known_never n label None = unless_full (nat_lt (n.next + 1) (2 ^ 64)) (n.next, with_label n label)

blank_never : (r : Result (ℕ × Numbering) NqFaultKind) → is_err r ≡ false → is_err (blank_part r) ≡ false
unfolding is_err
blank_never (Ok numbered) e = refl
blank_never (Err f) e = e

label_never : (n : Numbering) (b : Bool) (label : List ℕ) → is_err (label_part n b label) ≡ false
unfolding is_err is_never
label_never n true label = blank_never (number n label) (known_never n label _)
label_never n false label = refl

iri_never : (n : Numbering) (r : Result (List ℕ) TermFault) → is_err (iri_part n r) ≡ false
unfolding is_err is_never
iri_never n (Ok i) = refl
iri_never n (Err f) = refl

part_never : (p : StatementState) (n : Numbering) (k : Class) (t : List ℕ) → is_err (part_of p n k t) ≡ false
unfolding is_err is_never
part_never p n class.Iri t = iri_never n _
part_never p n class.Label t = label_never n (takes_label p) (behind t 2)
part_never p n k t = refl

literal_never : (s : Node) (p : List ℕ) (r : Result Literal TermFault) → is_err (with_literal s p r) ≡ false
unfolding is_err is_never
literal_never s p (Ok l) = refl
literal_never s p (Err f) = refl

after_never : (p : StatementState) (t : Part) → is_err (after p t) ≡ false
unfolding is_err is_never
after_never (place.Form s p form) (part.Tag t) = literal_never s p _
after_never (place.Typed s p form) (part.Iri i) = literal_never s p _
after_never place.Start (part.Iri i) = refl
after_never place.Start (part.Blank n) = refl
after_never place.Start (part.Form t) = refl
after_never place.Start (part.Tag t) = refl
after_never place.Start part.Carets = refl
after_never place.Start part.Dot = refl
after_never place.Start part.LineEnd = refl
after_never (place.Subject s) (part.Iri i) = refl
after_never (place.Subject s) (part.Blank n) = refl
after_never (place.Subject s) (part.Form t) = refl
after_never (place.Subject s) (part.Tag t) = refl
after_never (place.Subject s) part.Carets = refl
after_never (place.Subject s) part.Dot = refl
after_never (place.Subject s) part.LineEnd = refl
after_never (place.Predicate s p) (part.Iri i) = refl
after_never (place.Predicate s p) (part.Blank n) = refl
after_never (place.Predicate s p) (part.Form t) = refl
after_never (place.Predicate s p) (part.Tag t) = refl
after_never (place.Predicate s p) part.Carets = refl
after_never (place.Predicate s p) part.Dot = refl
after_never (place.Predicate s p) part.LineEnd = refl
after_never (place.Form s p form) (part.Iri i) = refl
after_never (place.Form s p form) (part.Blank n) = refl
after_never (place.Form s p form) (part.Form t) = refl
after_never (place.Form s p form) part.Carets = refl
after_never (place.Form s p form) part.Dot = refl
after_never (place.Form s p form) part.LineEnd = refl
after_never (place.Typed s p form) (part.Blank n) = refl
after_never (place.Typed s p form) (part.Form t) = refl
after_never (place.Typed s p form) (part.Tag t) = refl
after_never (place.Typed s p form) part.Carets = refl
after_never (place.Typed s p form) part.Dot = refl
after_never (place.Typed s p form) part.LineEnd = refl
after_never (place.Object s p o) (part.Iri i) = refl
after_never (place.Object s p o) (part.Blank n) = refl
after_never (place.Object s p o) (part.Form t) = refl
after_never (place.Object s p o) (part.Tag t) = refl
after_never (place.Object s p o) part.Carets = refl
after_never (place.Object s p o) part.Dot = refl
after_never (place.Object s p o) part.LineEnd = refl
after_never (place.Label s p o g) (part.Iri i) = refl
after_never (place.Label s p o g) (part.Blank n) = refl
after_never (place.Label s p o g) (part.Form t) = refl
after_never (place.Label s p o g) (part.Tag t) = refl
after_never (place.Label s p o g) part.Carets = refl
after_never (place.Label s p o g) part.Dot = refl
after_never (place.Label s p o g) part.LineEnd = refl
after_never place.Done (part.Iri i) = refl
after_never place.Done (part.Blank n) = refl
after_never place.Done (part.Form t) = refl
after_never place.Done (part.Tag t) = refl
after_never place.Done part.Carets = refl
after_never place.Done part.Dot = refl
after_never place.Done part.LineEnd = refl

placed_never : (quads : List Statement) (labels : Numbering) (r : Result Next NqFaultKind) → is_err r ≡ false → is_err (placed quads labels r) ≡ false
unfolding is_err
placed_never quads labels (Ok (next.StatementState p)) e = refl
placed_never quads labels (Ok (next.Quad q)) e = refl
placed_never quads labels (Err f) e = e

taken_never : (p : StatementState) (quads : List Statement) (r : Result (Part × Numbering) NqFaultKind) → is_err r ≡ false → is_err (taken p quads r) ≡ false
unfolding is_err
taken_never p quads (Ok t) e = placed_never quads t.1 (after p t.0) (after_never p t.0)
taken_never p quads (Err f) e = e

is_stop : Step → Bool
is_stop (goes s) = false
is_stop ends = false
is_stop (stops f rest) = is_never f

stepped_never : (front rest : List ℕ) (r : Result Reading NqFaultKind) → is_err r ≡ false → is_stop (stepped front rest r) ≡ false
unfolding is_err is_stop
stepped_never front rest (Ok r) e = refl
stepped_never front rest (Err f) e = e

over_never : (r : Reading) (front : List ℕ) (o : Option (Class × ℕ)) → is_stop (step_over r front o) ≡ false
unfolding is_stop is_never
over_never r front None = refl
over_never r front (Some t) = stepped_never front _ (read r t.0 _) (taken_never r.place r.quads _ (part_never r.place r.labels t.0 _))

end_never : (b : Bool) → is_stop (if b then ends else stops fault.Shape []) ≡ false
unfolding is_stop is_never
end_never true = refl
end_never false = refl

from_never : (r : Reading) (front : List ℕ) → is_stop (step_from r front) ≡ false
from_never r [] = end_never (may_end r.place)
from_never r (b ∷ bs) = over_never r (b ∷ bs) (best table (chars (b ∷ bs)))

utf8_stops : (rest : List ℕ) → is_stop (stops fault.Utf8 rest) ≡ true
unfolding is_stop is_never
utf8_stops rest = refl

never_utf8 : (s : State) (rest : List ℕ) → step s ≡ stops fault.Utf8 rest → ⊥
never_utf8 s rest e = true≢false (sym (utf8_stops rest) ∙ (ap is_stop (sym e) ∙ from_never s.reading (behind_gap s.rest)))

memory_stops : (rest : List ℕ) → is_stop (stops fault.Memory rest) ≡ true
unfolding is_stop is_never
memory_stops rest = refl

never_memory : (s : State) (rest : List ℕ) → step s ≡ stops fault.Memory rest → ⊥
never_memory s rest e = true≢false (sym (memory_stops rest) ∙ (ap is_stop (sym e) ∙ from_never s.reading (behind_gap s.rest)))

-- where reading stops, a fault other than running out of memory is due
pub due_at_stop : (from : State) (kind : NqFaultKind) (left : ℕ) → StopsAt from kind left → (kind ≢ fault.Memory) × IsStop from kind left
due_at_stop from fault.Memory left s = absurd (never_memory s.0 s.1 s.3)
due_at_stop from fault.Utf8 left s = absurd (never_utf8 s.0 s.1 s.3)
due_at_stop from fault.Token left s = (λ e. cc, s)
due_at_stop from fault.Shape left s = (λ e. cc, s)
due_at_stop from fault.Iri left s = (λ e. cc, s)
due_at_stop from fault.Escape left s = (λ e. cc, s)
due_at_stop from fault.Literal left s = (λ e. cc, s)
due_at_stop from fault.Full left s = (λ e. cc, s)

-- ---- the fault that is due

-- a fault other than running out of memory is due; that may come at any token
pub stop_of : (from : State) (kind : NqFaultKind) (left : ℕ) → (kind ≢ fault.Memory → StopsAt from kind left) → ComesTo from left → IsStop from kind left
stop_of from fault.Memory left s m = m
stop_of from fault.Utf8 left s m = let t : StopsAt from fault.Utf8 left = s (λ e. cc) in never_utf8 t.0 t.1 t.3
stop_of from fault.Token left s m = s (λ e. cc)
stop_of from fault.Shape left s m = s (λ e. cc)
stop_of from fault.Iri left s m = s (λ e. cc)
stop_of from fault.Escape left s m = s (λ e. cc)
stop_of from fault.Literal left s m = s (λ e. cc)
stop_of from fault.Full left s m = s (λ e. cc)
