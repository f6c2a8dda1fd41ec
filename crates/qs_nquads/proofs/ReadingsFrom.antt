-- The blank nodes that were read have the first number or a greater one.
use Rattle.std.proofs.Common.{◌≤◌, ℕ, ◌+◌, ◌^◌, nat_lt, Bool, true, false, List, [], ◌∷◌, ◌++◌, Option, Some, None, Result, Ok, Err, IfOk, IfSome, All, take, drop, subst, arith, le_refl, chars}
use Rattle.std.specs.Prelude.{⊤}
use Rattle.std.specs.List.{flat_map}
use Rattle.std.specs.Map.{values_of, lookup}
use Rattle.std.specs.Str.{bytes_eq}
use Rattle.std.proofs.lemmas.Bool.{cond_both}
use Rattle.std.proofs.lemmas.List.Elements.{All-nil, All-cons, All-append}
use Rattle.std.proofs.lemmas.Map.Views.{IfSome-lookup_from_All}
use Rattle.qs_lex_regular.specs.inner.Best.{best}
use Rattle.qs_terms.specs.Literal.{Literal, checked_typed, checked_tagged}
use Rattle.qs_terms.specs.Statement.{Statement}
use Rattle.qs_terms.specs.declared.fault.TermFault.{TermFault}
use Rattle.qs_terms.specs.declared.term.Term.{Term}
use Rattle.qs_terms.specs.declared.term.Term.TheVariants as term
use Rattle.qs_nquads.specs.inner.Gap.{behind_gap}
use Rattle.qs_nquads.specs.Labels.{Numbering, with_label, number}
use Rattle.qs_nquads.specs.inner.Labels.{add}
use Rattle.qs_nquads.specs.inner.Labels.{known_or_new}
use Rattle.qs_nquads.specs.inner.Part.{iri_part, blank_part, behind}
use Rattle.qs_nquads.specs.inner.PartAt.{part_of, label_part, takes_label}
use Rattle.qs_nquads.specs.inner.StatementState.{term_of, with_literal, at_start, at_subject, at_predicate, at_object, at_form, at_typed, at_label, at_done, after, may_end}
use Rattle.qs_nquads.specs.inner.Reading.{Reading, State, Step, at_first, start, goes, ends, stops, step_from, step_over, stepped, read, taken, placed, Comes, here, on}
use Rattle.qs_nquads.specs.inner.Outcome.{ReadsAll}
use Rattle.qs_nquads.specs.inner.Renumbered.{blanks_in, blanks_in_name, blanks_of}
use Rattle.qs_nquads.specs.Table.{table}
use Rattle.qs_nquads.proofs.Numbers.{values_last}
use Rattle.qs_nquads.specs.declared.class.Class.{Class}
use Rattle.qs_nquads.specs.declared.class.Class.TheVariants as class
use Rattle.qs_nquads.specs.declared.fault.NqFaultKind.{NqFaultKind}
use Rattle.qs_nquads.specs.declared.fault.NqFaultKind.TheVariants as fault
use Rattle.qs_nquads.specs.declared.node.Node.{Node}
use Rattle.qs_nquads.specs.declared.node.Node.TheVariants as node
use Rattle.qs_nquads.specs.declared.part.Part.{Part}
use Rattle.qs_nquads.specs.declared.part.Part.TheVariants as part
use Rattle.qs_nquads.specs.declared.statement_state.StatementState.{StatementState}
use Rattle.qs_nquads.specs.declared.statement_state.StatementState.TheVariants as place
use Rattle.qs_nquads.specs.inner.Next.{Next}
use Rattle.qs_nquads.specs.inner.Next as next

-- ---- what is read from a number on

module _ (first : ℕ) where
  abbrev OfTerm : Term → Type 0
  OfTerm (term.Iri i) = ⊤
  OfTerm (term.Blank k) = first ≤ k
  OfTerm (term.Literal l) = ⊤

  abbrev OfName : Option Term → Type 0
  OfName None = ⊤
  OfName (Some name) = OfTerm name

  abbrev OfNode : Node → Type 0
  OfNode (node.Iri i) = ⊤
  OfNode (node.Blank k) = first ≤ k

  record OfQuad (q : Statement) : Type 0 where
    subject : OfTerm q.subject
    object : OfTerm q.object
    graph : OfName q.graph

  abbrev OfQuads : List Statement → Type 0
  OfQuads [] = ⊤
  OfQuads (q ∷ qs) = OfQuad q × OfQuads qs

  abbrev OfPlace : StatementState → Type 0
  OfPlace place.Start = ⊤
  OfPlace (place.Subject s) = OfNode s
  OfPlace (place.Predicate s p) = OfNode s
  OfPlace (place.Form s p form) = OfNode s
  OfPlace (place.Typed s p form) = OfNode s
  OfPlace (place.Object s p o) = OfNode s × OfTerm o
  OfPlace (place.Label s p o g) = OfNode s × OfTerm o × OfNode g
  OfPlace place.Done = ⊤

  abbrev OfPart : Part → Type 0
  OfPart (part.Iri i) = ⊤
  OfPart (part.Blank k) = first ≤ k
  OfPart (part.Form t) = ⊤
  OfPart (part.Tag t) = ⊤
  OfPart part.Carets = ⊤
  OfPart part.Dot = ⊤
  OfPart part.LineEnd = ⊤

  abbrev OfNext : Next → Type 0
  OfNext (next.StatementState p) = OfPlace p
  OfNext (next.Quad q) = OfQuad q

  record OfNumbers (n : Numbering) : Type 0 where
    next : first ≤ n.next
    numbers : All (λ k. first ≤ k) (values_of n.numbers)

  -- ---- numbers

  adds : (n : Numbering) (label : List ℕ) → OfNumbers n → IfOk (add n label) (λ given. (first ≤ given.0) × OfNumbers given.1)
  adds n label h =
      cond_both (nat_lt (n.next + 1) (2 ^ 64)) (Ok (n.next, with_label n label)) (Err fault.Full)
      (λ (r : Result (ℕ × Numbering) NqFaultKind). IfOk r (λ given. (first ≤ given.0) × OfNumbers given.1))
      (λ _. (
        h.next,
        record {
          next = (let l : first ≤ n.next = h.next in omega arith);
          numbers = values_last (λ k. first ≤ k) n.numbers label n.next h.numbers h.next;
        },
      ))
      (λ _. tt)

  known_or_adds : (n : Numbering) (label : List ℕ) (o : Option ℕ) → OfNumbers n → IfSome o (λ k. first ≤ k) → IfOk (known_or_new n label o) (λ given. (first ≤ given.0) × OfNumbers given.1)
  known_or_adds n label (Some k) h l = (l, h)
  known_or_adds n label None h l = adds n label h

  numbered : (n : Numbering) (label : List ℕ) → OfNumbers n → IfOk (number n label) (λ given. (first ≤ given.0) × OfNumbers given.1)
  numbered n label h = known_or_adds n label (lookup (bytes_eq label) n.numbers) h (IfSome-lookup_from_All (λ k. first ≤ k) (bytes_eq label) n.numbers h.numbers)

  -- ---- one part

  abbrev Makes : Part × Numbering → Type 0
  Makes made = OfPart made.0 × OfNumbers made.1

  makes_iri : (n : Numbering) (r : Result (List ℕ) TermFault) → OfNumbers n → IfOk (iri_part n r) Makes
  makes_iri n (Ok i) h = (tt, h)
  makes_iri n (Err f) h = tt

  makes_blank : (r : Result (ℕ × Numbering) NqFaultKind) → IfOk r (λ given. (first ≤ given.0) × OfNumbers given.1) → IfOk (blank_part r) Makes
  makes_blank (Ok given) g = g
  makes_blank (Err f) g = tt

  makes_label : (n : Numbering) (b : Bool) (label : List ℕ) → OfNumbers n → IfOk (label_part n b label) Makes
  makes_label n true label h = makes_blank (number n label) (numbered n label h)
  makes_label n false label h = tt

  makes_part : (p : StatementState) (n : Numbering) (k : Class) (token : List ℕ) → OfNumbers n → IfOk (part_of p n k token) Makes
  makes_part p n class.Iri token h = makes_iri n _ h
  makes_part p n class.String token h = (tt, h)
  makes_part p n class.Tag token h = (tt, h)
  makes_part p n class.Label token h = makes_label n (takes_label p) (behind token 2) h
  makes_part p n class.Carets token h = (tt, h)
  makes_part p n class.Dot token h = (tt, h)
  makes_part p n class.LineEnd token h = (tt, h)
  makes_part p n class.Open token h = tt
  makes_part p n class.Broken token h = tt

  -- ---- one part at each place

  of_node : (s : Node) → OfNode s → OfTerm (term_of s)
  of_node (node.Iri i) h = tt
  of_node (node.Blank k) h = h

  of_start : (t : Part) → OfPart t → IfOk (at_start t) OfNext
  of_start (part.Blank k) b = b
  of_start t b = tt

  of_subject : (s : Node) (t : Part) → OfNode s → IfOk (at_subject s t) OfNext
  of_subject s (part.Iri i) h = h
  of_subject s t h = tt

  of_predicate : (s : Node) (p : List ℕ) (t : Part) → OfNode s → OfPart t → IfOk (at_predicate s p t) OfNext
  of_predicate s p (part.Iri i) h b = (h, tt)
  of_predicate s p (part.Blank k) h b = (h, b)
  of_predicate s p (part.Form t) h b = h
  of_predicate s p t h b = tt

  of_literal : (s : Node) (p : List ℕ) (r : Result Literal TermFault) → OfNode s → IfOk (with_literal s p r) OfNext
  of_literal s p (Ok l) h = (h, tt)
  of_literal s p (Err f) h = tt

  of_object : (s : Node) (p : List ℕ) (o : Term) (t : Part) → OfNode s → OfTerm o → OfPart t → IfOk (at_object s p o t) OfNext
  of_object s p o (part.Iri i) h k b = (h, k, tt)
  of_object s p o (part.Blank n) h k b = (h, k, b)
  of_object s p o part.Dot h k b = record { subject = of_node s h; object = k; graph = tt }
  of_object s p o t h k b = tt

  of_form : (s : Node) (p form : List ℕ) (t : Part) → OfNode s → OfPart t → IfOk (at_form s p form t) OfNext
  of_form s p form (part.Tag t) h b = of_literal s p (checked_tagged form t) h
  of_form s p form part.Carets h b = h
  of_form s p form (part.Iri i) h b = (h, tt, tt)
  of_form s p form (part.Blank n) h b = (h, tt, b)
  of_form s p form part.Dot h b = record { subject = of_node s h; object = tt; graph = tt }
  of_form s p form t h b = tt

  of_typed : (s : Node) (p form : List ℕ) (t : Part) → OfNode s → IfOk (at_typed s p form t) OfNext
  of_typed s p form (part.Iri i) h = of_literal s p (checked_typed form i) h
  of_typed s p form t h = tt

  of_label : (s : Node) (p : List ℕ) (o : Term) (g : Node) (t : Part) → OfNode s → OfTerm o → OfNode g → IfOk (at_label s p o g t) OfNext
  of_label s p o g part.Dot h k l = record { subject = of_node s h; object = k; graph = of_node g l }
  of_label s p o g t h k l = tt

  of_done : (t : Part) → IfOk (at_done t) OfNext
  of_done part.LineEnd = tt
  of_done t = tt

  of_after : (p : StatementState) (t : Part) → OfPlace p → OfPart t → IfOk (after p t) OfNext
  of_after place.Start t h b = of_start t b
  of_after (place.Subject s) t h b = of_subject s t h
  of_after (place.Predicate s p) t h b = of_predicate s p t h b
  of_after (place.Form s p form) t h b = of_form s p form t h b
  of_after (place.Typed s p form) t h b = of_typed s p form t h
  of_after (place.Object s p o) t h b = of_object s p o t h.0 h.1 b
  of_after (place.Label s p o g) t h b = of_label s p o g t h.0 h.1 h.2
  of_after place.Done t h b = of_done t

  -- ---- one step

  record OfReading (r : Reading) : Type 0 where
    place : OfPlace r.place
    labels : OfNumbers r.labels
    quads : OfQuads r.quads

  one_more : (qs : List Statement) (q : Statement) → OfQuads qs → OfQuad q → OfQuads (qs ++ q ∷ [])
  one_more [] q h k = (k, tt)
  one_more (r ∷ qs) q h k = (h.0, one_more qs q h.1 k)

  of_placed : (quads : List Statement) (n : Numbering) (r : Result Next NqFaultKind) → OfQuads quads → OfNumbers n → IfOk r OfNext → IfOk (placed quads n r) OfReading
  of_placed quads n (Ok (next.StatementState p)) h k b = record { place = b; labels = k; quads = h }
  of_placed quads n (Ok (next.Quad q)) h k b = record { place = tt; labels = k; quads = one_more quads q h b }
  of_placed quads n (Err f) h k b = tt

  of_taken : (r : Reading) (t : Result (Part × Numbering) NqFaultKind) → OfReading r → IfOk t Makes → IfOk (taken r.place r.quads t) OfReading
  of_taken r (Ok t) h m = of_placed r.quads t.1 (after r.place t.0) h.quads m.1 (of_after r.place t.0 h.place m.0)
  of_taken r (Err f) h m = tt

  of_read : (r : Reading) (k : Class) (token : List ℕ) → OfReading r → IfOk (read r k token) OfReading
  of_read r k token h = of_taken r (part_of r.place r.labels k token) h (makes_part r.place r.labels k token h.labels)

  abbrev OfStep : Step → Type 0
  OfStep (goes s) = OfReading s.reading
  OfStep ends = ⊤
  OfStep (stops f rest) = ⊤

  of_stepped : (front rest : List ℕ) (r : Result Reading NqFaultKind) → IfOk r OfReading → OfStep (stepped front rest r)
  of_stepped front rest (Ok r) b = b
  of_stepped front rest (Err f) b = tt

  of_over : (r : Reading) (front : List ℕ) (o : Option (Class × ℕ)) → OfReading r → OfStep (step_over r front o)
  of_over r front None h = tt
  of_over r front (Some t) h = of_stepped front (drop t.1 front) (read r t.0 (take t.1 front)) (of_read r t.0 (take t.1 front) h)

  of_from : (r : Reading) (front : List ℕ) → OfReading r → OfStep (step_from r front)
  of_from r [] h = cond_both (may_end r.place) ends (stops fault.Shape []) OfStep (λ _. tt) (λ _. tt)
  of_from r (c ∷ cs) h = of_over r (c ∷ cs) (best table (chars (c ∷ cs))) h

  -- ---- all steps

  of_comes : (s t : State) → Comes s t → OfReading s.reading → OfReading t.reading
  of_comes s _ here h = h
  of_comes s _ (on t u c e) h = subst OfStep e (of_from t.reading (behind_gap t.rest) (of_comes s t c h))

  -- ---- as a list

  term_list : (t : Term) → OfTerm t → All (λ b. first ≤ b) (blanks_in t)
  term_list (term.Iri i) h = All-nil (λ b. first ≤ b)
  term_list (term.Blank k) h = All-cons (λ b. first ≤ b) k [] h (All-nil (λ b. first ≤ b))
  term_list (term.Literal l) h = All-nil (λ b. first ≤ b)

  name_list : (g : Option Term) → OfName g → All (λ b. first ≤ b) (blanks_in_name g)
  name_list None h = All-nil (λ b. first ≤ b)
  name_list (Some t) h = term_list t h

  quad_list : (q : Statement) → OfQuad q → All (λ b. first ≤ b) (blanks_of q)
  quad_list q h =
      All-append (λ b. first ≤ b) (blanks_in q.subject) (blanks_in q.object ++ blanks_in_name q.graph) (term_list q.subject h.subject)
      (All-append (λ b. first ≤ b) (blanks_in q.object) (blanks_in_name q.graph) (term_list q.object h.object) (name_list q.graph h.graph))

  quads_list : (qs : List Statement) → OfQuads qs → All (λ b. first ≤ b) (flat_map blanks_of qs)
  quads_list [] h = All-nil (λ b. first ≤ b)
  quads_list (q ∷ qs) h = All-append (λ b. first ≤ b) (blanks_of q) (flat_map blanks_of qs) (quad_list q h.0) (quads_list qs h.1)

at_begin : (first : ℕ) → OfReading first (at_first first)
at_begin first = record { place = tt; labels = record { next = le_refl first; numbers = All-nil (λ k. first ≤ k) }; quads = tt }

pub from_first : (bytes : List ℕ) (first : ℕ) (quads : List Statement) (next : ℕ) → ReadsAll bytes first quads next → All (λ b. first ≤ b) (flat_map blanks_of quads)
from_first bytes first quads next h =
    let read : OfReading first h.1.0 = of_comes first (start first bytes) (record { reading = h.1.0; rest = h.1.1.0 }) h.1.1.1 (at_begin first) in
    subst (λ qs. All (λ b. first ≤ b) (flat_map blanks_of qs)) h.1.2 (quads_list first h.1.0.quads read.quads)
