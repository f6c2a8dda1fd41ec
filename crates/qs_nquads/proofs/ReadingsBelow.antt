-- The next number is above those of all blank nodes that were read.
use Rattle.std.proofs.Common.{◌≡◌, ◌≤◌, ℕ, Bool, true, false, List, [], ◌∷◌, Option, Some, None, Result, Ok, Err, IfOk, take, drop, refl, subst, arith, le_refl, lt-ltb, chars}
use Rattle.std.specs.Prelude.{⊤}
use Rattle.std.proofs.lemmas.Bool.{cond_both}
use Rattle.qs_lex_regular.specs.inner.Best.{best}
use Rattle.qs_terms.specs.Dataset.{is_above_blanks}
use Rattle.qs_terms.specs.Statement.{Statement}
use Rattle.qs_terms.specs.declared.fault.TermFault.{TermFault}
use Rattle.qs_nquads.specs.inner.Gap.{behind_gap}
use Rattle.qs_nquads.specs.Labels.{Numbering, number}
use Rattle.qs_nquads.specs.inner.Part.{iri_part, blank_part, behind}
use Rattle.qs_nquads.specs.inner.PartAt.{part_of, label_part, takes_label}
use Rattle.qs_nquads.specs.inner.StatementState.{after, may_end}
use Rattle.qs_nquads.specs.inner.Reading.{Reading, State, Step, at_first, start, goes, ends, stops, step_from, step_over, stepped, read, taken, placed, Comes, here, on}
use Rattle.qs_nquads.specs.inner.Outcome.{ReadsAll}
use Rattle.qs_nquads.specs.Table.{table}
use Rattle.qs_nquads.specs.declared.class.Class.{Class}
use Rattle.qs_nquads.specs.declared.class.Class.TheVariants as class
use Rattle.qs_nquads.specs.declared.fault.NqFaultKind.{NqFaultKind}
use Rattle.qs_nquads.specs.declared.fault.NqFaultKind.TheVariants as fault
use Rattle.qs_nquads.specs.declared.part.Part.{Part}
use Rattle.qs_nquads.specs.declared.part.Part.TheVariants as part
use Rattle.qs_nquads.specs.declared.statement_state.StatementState.{StatementState}
use Rattle.qs_nquads.specs.inner.Next.{Next}
use Rattle.qs_nquads.specs.inner.Next as next
use Rattle.qs_nquads.proofs.Larger.{larger_than_quads, above_one_more}
use Rattle.qs_nquads.proofs.NumbersBelow.{IsUnused, Gives, unused_at_first, numbers}
use Rattle.qs_nquads.proofs.PlacesBelow.{is_place_below, is_part_below, is_outcome_below, larger_than_place, below_after}

-- ---- one part

-- a part was made, and the numbering after it
record Makes (n : Numbering) (made : Part × Numbering) : Type 0 where
  grows : n.next ≤ made.1.next
  unused : IsUnused made.1
  below : is_part_below made.1.next made.0 ≡ true

-- a part that takes no number
without_number : (n : Numbering) (t : Part) → IsUnused n → is_part_below n.next t ≡ true → Makes n (t, n)
without_number n t h b = record { grows = le_refl n.next; unused = h; below = b }

makes_iri : (n : Numbering) (r : Result (List ℕ) TermFault) → IsUnused n → IfOk (iri_part n r) (Makes n)
makes_iri n (Ok i) h = without_number n (part.Iri i) h refl
makes_iri n (Err f) h = tt

makes_blank : (n : Numbering) (r : Result (ℕ × Numbering) NqFaultKind) → IfOk r (Gives n) → IfOk (blank_part r) (Makes n)
makes_blank n (Ok given) g = record { grows = g.grows; unused = g.unused; below = lt-ltb given.0 given.1.next g.below }
makes_blank n (Err f) g = tt

makes_label : (n : Numbering) (b : Bool) (label : List ℕ) → IsUnused n → IfOk (label_part n b label) (Makes n)
makes_label n true label h = makes_blank n (number n label) (numbers n label h)
makes_label n false label h = tt

makes_part : (p : StatementState) (n : Numbering) (k : Class) (token : List ℕ) → IsUnused n → IfOk (part_of p n k token) (Makes n)
makes_part p n class.Iri token h = makes_iri n _ h
makes_part p n class.String token h = without_number n _ h refl
makes_part p n class.Tag token h = without_number n _ h refl
makes_part p n class.Label token h = makes_label n (takes_label p) (behind token 2) h
makes_part p n class.Carets token h = without_number n part.Carets h refl
makes_part p n class.Dot token h = without_number n part.Dot h refl
makes_part p n class.LineEnd token h = without_number n part.LineEnd h refl
makes_part p n class.Open token h = tt
makes_part p n class.Broken token h = tt

-- ---- one step

-- what was read has only numbers below the next one, which is no smaller than the first
pub record IsBelow (first : ℕ) (r : Reading) : Type 0 where
  pub at_least : first ≤ r.labels.next
  pub unused : IsUnused r.labels
  pub place : is_place_below r.labels.next r.place ≡ true
  pub quads : is_above_blanks r.labels.next r.quads ≡ true

below_placed : (first : ℕ) (quads : List Statement) (n : Numbering) (r : Result Next NqFaultKind) → first ≤ n.next → IsUnused n → is_above_blanks n.next quads ≡ true → is_outcome_below n.next r ≡ true
    → IfOk (placed quads n r) (IsBelow first)
below_placed first quads n (Ok (next.StatementState p)) l h a b = record { at_least = l; unused = h; place = b; quads = a }
below_placed first quads n (Ok (next.Quad q)) l h a b = record { at_least = l; unused = h; place = refl; quads = above_one_more n.next quads q a b }
below_placed first quads n (Err f) l h a b = tt

below_taken : (first : ℕ) (r : Reading) (t : Result (Part × Numbering) NqFaultKind) → IsBelow first r → IfOk t (Makes r.labels) → IfOk (taken r.place r.quads t) (IsBelow first)
below_taken first r (Ok t) b m =
    below_placed first r.quads t.1 (after r.place t.0) (omega (arith, b.at_least, m.grows)) m.unused
    (larger_than_quads r.labels.next t.1.next m.grows r.quads b.quads)
    (below_after t.1.next r.place t.0 (larger_than_place r.labels.next t.1.next m.grows r.place b.place) m.below)
below_taken first r (Err f) b m = tt

below_read : (first : ℕ) (r : Reading) (k : Class) (token : List ℕ) → IsBelow first r → IfOk (read r k token) (IsBelow first)
below_read first r k token b = below_taken first r (part_of r.place r.labels k token) b (makes_part r.place r.labels k token b.unused)

abbrev GoesBelow : ℕ → Step → Type 0
GoesBelow first (goes s) = IsBelow first s.reading
GoesBelow first ends = ⊤
GoesBelow first (stops f rest) = ⊤

below_stepped : (first : ℕ) (front rest : List ℕ) (r : Result Reading NqFaultKind) → IfOk r (IsBelow first) → GoesBelow first (stepped front rest r)
below_stepped first front rest (Ok r) b = b
below_stepped first front rest (Err f) b = tt

below_over : (first : ℕ) (r : Reading) (front : List ℕ) (o : Option (Class × ℕ)) → IsBelow first r → GoesBelow first (step_over r front o)
below_over first r front None b = tt
below_over first r front (Some t) b = below_stepped first front (drop t.1 front) (read r t.0 (take t.1 front)) (below_read first r t.0 (take t.1 front) b)

below_from : (first : ℕ) (r : Reading) (front : List ℕ) → IsBelow first r → GoesBelow first (step_from r front)
below_from first r [] b = cond_both (may_end r.place) ends (stops fault.Shape []) (GoesBelow first) (λ _. tt) (λ _. tt)
below_from first r (c ∷ cs) b = below_over first r (c ∷ cs) (best table (chars (c ∷ cs))) b

-- ---- all steps

below_at_first : (first : ℕ) → IsBelow first (at_first first)
below_at_first first = record { at_least = le_refl first; unused = unused_at_first first; place = refl; quads = refl }

stays_below : (first : ℕ) (s t : State) → Comes s t → IsBelow first s.reading → IsBelow first t.reading
stays_below first s _ here b = b
stays_below first s _ (on t u c e) b = subst (λ z. GoesBelow first z) e (below_from first t.reading (behind_gap t.rest) (stays_below first s t c b))

below_at_end : (bytes : List ℕ) (first : ℕ) (quads : List Statement) (next : ℕ) (h : ReadsAll bytes first quads next) → IsBelow first h.1.0
below_at_end bytes first quads next h = stays_below first (start first bytes) (record { reading = h.1.0; rest = h.1.1.0 }) h.1.1.1 (below_at_first first)

pub above_all : (bytes : List ℕ) (first : ℕ) (quads : List Statement) (next : ℕ) → ReadsAll bytes first quads next → is_above_blanks next quads ≡ true
above_all bytes first quads next h =
    subst (λ n. is_above_blanks n quads ≡ true) h.1.3
    (subst (λ q. is_above_blanks h.1.0.labels.next q ≡ true) h.1.2 (below_at_end bytes first quads next h).quads)

pub no_smaller : (bytes : List ℕ) (first : ℕ) (quads : List Statement) (next : ℕ) → ReadsAll bytes first quads next → first ≤ next
no_smaller bytes first quads next h = subst (λ n. first ≤ n) h.1.3 (below_at_end bytes first quads next h).at_least
