-- The blank nodes of a statement that is being read are below a number, if those of its parts are.
use Rattle.std.proofs.Common.{◌≡◌, ◌≤◌, ℕ, Bool, true, ◌&&◌, nat_lt, List, Result, Ok, Err, refl}
use Rattle.std.proofs.lemmas.Bool.{and_from, and_parts}
use Rattle.qs_terms.specs.Dataset.{is_term_below, is_statement_below}
use Rattle.qs_terms.specs.Literal.{Literal, xsd_string, typed, checked_typed, checked_tagged}
use Rattle.qs_terms.specs.declared.fault.TermFault.{TermFault}
use Rattle.qs_terms.specs.declared.term.Term.{Term}
use Rattle.qs_terms.specs.declared.term.Term.TheVariants as term
use Rattle.qs_nquads.specs.inner.StatementState.{term_of, with_literal, at_start, at_subject, at_predicate, at_object, at_form, at_typed, at_label, at_done, after}
use Rattle.qs_nquads.specs.declared.fault.NqFaultKind.{NqFaultKind}
use Rattle.qs_nquads.specs.declared.node.Node.{Node}
use Rattle.qs_nquads.specs.declared.part.Part.{Part}
use Rattle.qs_nquads.specs.declared.part.Part.TheVariants as part
use Rattle.qs_nquads.specs.declared.statement_state.StatementState.{StatementState}
use Rattle.qs_nquads.specs.declared.statement_state.StatementState.TheVariants as place
use Rattle.qs_nquads.specs.inner.Next.{Next}
use Rattle.qs_nquads.specs.inner.Next as next
use Rattle.qs_nquads.proofs.Larger.{larger_than_term}

abbrev is_node_below : ℕ → Node → Bool
is_node_below n s = is_term_below n (term_of s)

abbrev are_ends_below : ℕ → Node → Term → Bool
are_ends_below n s o = is_node_below n s && is_term_below n o

abbrev pub is_place_below : ℕ → StatementState → Bool
is_place_below n place.Start = true
is_place_below n (place.Subject s) = is_node_below n s
is_place_below n (place.Predicate s p) = is_node_below n s
is_place_below n (place.Form s p form) = is_node_below n s
is_place_below n (place.Typed s p form) = is_node_below n s
is_place_below n (place.Object s p o) = are_ends_below n s o
is_place_below n (place.Label s p o g) = is_node_below n g && are_ends_below n s o
is_place_below n place.Done = true

abbrev pub is_part_below : ℕ → Part → Bool
is_part_below n (part.Iri i) = true
is_part_below n (part.Blank k) = nat_lt k n
is_part_below n (part.Form t) = true
is_part_below n (part.Tag t) = true
is_part_below n part.Carets = true
is_part_below n part.Dot = true
is_part_below n part.LineEnd = true

abbrev is_next_below : ℕ → Next → Bool
is_next_below n (next.StatementState p) = is_place_below n p
is_next_below n (next.Quad q) = is_statement_below n q

-- a fault has no blank nodes
abbrev pub is_outcome_below : ℕ → Result Next NqFaultKind → Bool
is_outcome_below n (Ok x) = is_next_below n x
is_outcome_below n (Err f) = true

-- ---- a larger number

module _ (m n : ℕ) (le : m ≤ n) where
  larger_than_node : (s : Node) → is_node_below m s ≡ true → is_node_below n s ≡ true
  larger_than_node s h = larger_than_term m n le (term_of s) h

  larger_than_ends : (s : Node) (o : Term) → are_ends_below m s o ≡ true → are_ends_below n s o ≡ true
  larger_than_ends s o h =
      let parts = and_parts (is_node_below m s) (is_term_below m o) h in
      and_from _ _ (larger_than_node s parts.0) (larger_than_term m n le o parts.1)

  pub larger_than_place : (p : StatementState) → is_place_below m p ≡ true → is_place_below n p ≡ true
  larger_than_place place.Start h = refl
  larger_than_place (place.Subject s) h = larger_than_node s h
  larger_than_place (place.Predicate s p) h = larger_than_node s h
  larger_than_place (place.Form s p form) h = larger_than_node s h
  larger_than_place (place.Typed s p form) h = larger_than_node s h
  larger_than_place (place.Object s p o) h = larger_than_ends s o h
  larger_than_place (place.Label s p o g) h =
      let parts = and_parts (is_node_below m g) (are_ends_below m s o) h in
      and_from _ _ (larger_than_node g parts.0) (larger_than_ends s o parts.1)
  larger_than_place place.Done h = refl

-- ---- a part at each place

module _ (n : ℕ) where
  below_start : (t : Part) → is_part_below n t ≡ true → is_outcome_below n (at_start t) ≡ true
  below_start (part.Blank k) b = b
  below_start t b = refl

  module _ (s : Node) (h : is_node_below n s ≡ true) where
    below_subject : (t : Part) → is_outcome_below n (at_subject s t) ≡ true
    below_subject (part.Iri i) = h
    below_subject t = refl

    below_predicate : (p : List ℕ) (t : Part) → is_part_below n t ≡ true → is_outcome_below n (at_predicate s p t) ≡ true
    below_predicate p (part.Iri i) b = and_from _ _ h refl
    below_predicate p (part.Blank k) b = and_from _ _ h b
    below_predicate p (part.Form t) b = h
    below_predicate p t b = refl

    below_literal : (p : List ℕ) (r : Result Literal TermFault) → is_outcome_below n (with_literal s p r) ≡ true
    below_literal p (Ok l) = and_from _ _ h refl
    below_literal p (Err f) = refl

    below_typed : (p form : List ℕ) (t : Part) → is_outcome_below n (at_typed s p form t) ≡ true
    below_typed p form (part.Iri i) = below_literal p (checked_typed form i)
    below_typed p form t = refl

  module _ (s : Node) (p : List ℕ) (o : Term) (h : are_ends_below n s o ≡ true) where
    below_object : (t : Part) → is_part_below n t ≡ true → is_outcome_below n (at_object s p o t) ≡ true
    below_object (part.Iri i) b = h
    below_object (part.Blank k) b = and_from _ _ b h
    below_object part.Dot b = h
    below_object t b = refl

    below_label : (g : Node) (t : Part) → is_node_below n g ≡ true → is_outcome_below n (at_label s p o g t) ≡ true
    below_label g part.Dot k = and_from _ _ k h
    below_label g t k = refl

  below_form : (s : Node) (p form : List ℕ) (t : Part) → is_node_below n s ≡ true → is_part_below n t ≡ true → is_outcome_below n (at_form s p form t) ≡ true
  below_form s p form (part.Tag t) h b = below_literal s h p (checked_tagged form t)
  below_form s p form part.Carets h b = h
  below_form s p form part.LineEnd h b = refl
  below_form s p form (part.Form t) h b = refl
  below_form s p form t h b = below_object s p (term.Literal (typed form xsd_string)) (and_from _ _ h refl) t b

  below_done : (t : Part) → is_outcome_below n (at_done t) ≡ true
  below_done part.LineEnd = refl
  below_done t = refl

  pub below_after : (p : StatementState) (t : Part) → is_place_below n p ≡ true → is_part_below n t ≡ true → is_outcome_below n (after p t) ≡ true
  below_after place.Start t h b = below_start t b
  below_after (place.Subject s) t h b = below_subject s h t
  below_after (place.Predicate s p) t h b = below_predicate s h p t b
  below_after (place.Form s p form) t h b = below_form s p form t h b
  below_after (place.Typed s p form) t h b = below_typed s h p form t
  below_after (place.Object s p o) t h b = below_object s p o h t b
  below_after (place.Label s p o g) t h b =
      let parts = and_parts (is_node_below n g) (are_ends_below n s o) h in
      below_label s p o parts.1 g t parts.0
  below_after place.Done t h b = below_done t
