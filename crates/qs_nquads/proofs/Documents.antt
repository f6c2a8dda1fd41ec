-- The places of statements and the grammar of documents: parts may be read to a lawful end exactly where they are a document.
use Rattle.std.proofs.Common.{◌≡◌, ℕ, true, List, [], ◌∷◌, ◌++◌, Option, Some, None, Result, Ok, Err, refl, sym, ap, ◌∙◌, subst, append_assoc, append-nil, true≢false, IfOk}
use Rattle.qs_terms.specs.Literal.{Literal, rdf_lang_string, xsd_string, typed, checked_typed, checked_tagged}
use Rattle.qs_terms.specs.Statement.{Statement}
use Rattle.qs_terms.specs.declared.fault.TermFault.{TermFault}
use Rattle.qs_terms.specs.declared.term.Term.{Term}
use Rattle.qs_terms.specs.declared.term.Term.TheVariants as term
use Rattle.qs_nquads.specs.Document.{IsNode, iri, blank, IsPredicate, predicate, IsLiteral, plain, with_type, with_tag, IsObject, node, literal, IsGraph, unnamed, named, IsStatement, statement, IsDocument, none, last, empty_line, line}
use Rattle.qs_nquads.specs.Nquads.{IsBegun}
use Rattle.qs_nquads.specs.inner.Next.{Next}
use Rattle.qs_nquads.specs.inner.Next as next
use Rattle.qs_nquads.specs.inner.StatementState.{term_of, with_literal, after, may_end}
use Rattle.qs_nquads.specs.declared.fault.NqFaultKind.{NqFaultKind}
use Rattle.qs_nquads.specs.declared.node.Node.{Node}
use Rattle.qs_nquads.specs.declared.node.Node.TheVariants as name
use Rattle.qs_nquads.specs.declared.part.Part.{Part}
use Rattle.qs_nquads.specs.declared.part.Part.TheVariants as part
use Rattle.qs_nquads.specs.declared.statement_state.StatementState.{StatementState}
use Rattle.qs_nquads.specs.declared.statement_state.StatementState.TheVariants as place

-- ---- the automaton over parts

-- a place, after these statements
pub record At : Type 0 where
  pub place : StatementState
  pub quads : List Statement

abbrev pub at : StatementState → List Statement → At
at p qs = record { place = p; quads = qs }

abbrev pub begin : At
begin = at place.Start []

abbrev pub arrive : List Statement → Next → At
arrive qs (next.StatementState p) = at p qs
arrive qs (next.Quad q) = at place.Done (qs ++ q ∷ [])

-- the parts lead from one place to another
abbrev pub Runs : At → List Part → At → Type 0
Runs a [] b = a ≡ b
Runs a (t ∷ ts) b = (n : Next) × (after a.place t ≡ Ok n) × Runs (arrive a.quads n) ts b

pub runs_append : (a b c : At) (xs ys : List Part) → Runs a xs b → Runs b ys c → Runs a (xs ++ ys) c
runs_append a b c [] ys h k = subst (λ z. Runs z ys c) (sym h) k
runs_append a b c (t ∷ xs) ys h k = (h.0, h.1, runs_append (arrive a.quads h.0) b c xs ys h.2 k)

pub runs_split : (a c : At) (xs ys : List Part) → Runs a (xs ++ ys) c → (b : At) × Runs a xs b × Runs b ys c
runs_split a c [] ys h = (a, refl, h)
runs_split a c (t ∷ xs) ys h = let r = runs_split (arrive a.quads h.0) c xs ys h.2 in (r.0, (h.0, h.1, r.1), r.2)

pub next_one : (m n : Next) → ◌≡◌ {A = Result Next NqFaultKind} (Ok m) (Ok n) → m ≡ n
next_one m n e = cc

pub runs_one : (a b c : At) (xs : List Part) → Runs a xs b → Runs a xs c → b ≡ c
runs_one a b c [] h k = sym h ∙ k
runs_one a b c (t ∷ xs) h k =
    let e : h.0 ≡ k.0 = next_one h.0 k.0 (sym h.1 ∙ k.1) in
    runs_one (arrive a.quads k.0) b c xs (subst (λ z. Runs (arrive a.quads z) xs b) e h.2) k.2

-- ---- a document leads to a lawful end

module _ (s : Node) (p : List ℕ) (done : List Statement) where
  abbrev made : Term → Option Term → Statement
  made c d = record { graph = d; subject = term_of s; predicate = term.Iri p; object = c }

  abbrev finished : Term → Option Term → At
  finished c d = at place.Done (done ++ made c d ∷ [])

  name_after_object : (c : Term) (u : Part) (t : Term) → IsNode u t → Runs (at (place.Object s p c) done) (u ∷ part.Dot ∷ []) (finished c (Some t))
  name_after_object c _ _ (iri i) = (next.StatementState (place.Label s p c (name.Iri i)), refl, (next.Quad (made c (Some (term.Iri i))), refl, refl))
  name_after_object c _ _ (blank n) = (next.StatementState (place.Label s p c (name.Blank n)), refl, (next.Quad (made c (Some (term.Blank n))), refl, refl))

  after_object : (c : Term) (g : List Part) (d : Option Term) → IsGraph g d → Runs (at (place.Object s p c) done) (g ++ part.Dot ∷ []) (finished c d)
  after_object c _ _ unnamed = (next.Quad (made c None), refl, refl)
  after_object c _ _ (named u t h) = name_after_object c u t h

  name_after_form : (form : List ℕ) (u : Part) (t : Term) → IsNode u t → Runs (at (place.Form s p form) done) (u ∷ part.Dot ∷ []) (finished (term.Literal (typed form xsd_string)) (Some t))
  name_after_form form _ _ (iri i) =
      (next.StatementState (place.Label s p (term.Literal (typed form xsd_string)) (name.Iri i)), refl, (next.Quad (made (term.Literal (typed form xsd_string)) (Some (term.Iri i))), refl, refl))
  name_after_form form _ _ (blank n) =
      (next.StatementState (place.Label s p (term.Literal (typed form xsd_string)) (name.Blank n)), refl, (next.Quad (made (term.Literal (typed form xsd_string)) (Some (term.Blank n))), refl, refl))

  after_form : (form : List ℕ) (g : List Part) (d : Option Term) → IsGraph g d → Runs (at (place.Form s p form) done) (g ++ part.Dot ∷ []) (finished (term.Literal (typed form xsd_string)) d)
  after_form form _ _ unnamed = (next.Quad (made (term.Literal (typed form xsd_string)) None), refl, refl)
  after_form form _ _ (named u t h) = name_after_form form u t h

  node_runs : (u : Part) (c : Term) (g : List Part) (d : Option Term) → IsNode u c → IsGraph g d → Runs (at (place.Predicate s p) done) (u ∷ (g ++ part.Dot ∷ [])) (finished c d)
  node_runs _ _ g d (iri i) k = (next.StatementState (place.Object s p (term.Iri i)), refl, after_object (term.Iri i) g d k)
  node_runs _ _ g d (blank n) k = (next.StatementState (place.Object s p (term.Blank n)), refl, after_object (term.Blank n) g d k)

  literal_runs : (o : List Part) (l : Literal) (g : List Part) (d : Option Term) → IsLiteral o l → IsGraph g d
      → Runs (at (place.Predicate s p) done) (o ++ (g ++ part.Dot ∷ [])) (finished (term.Literal l) d)
  literal_runs _ _ g d (plain form) k = (next.StatementState (place.Form s p form), refl, after_form form g d k)
  literal_runs _ _ g d (with_type form i l e) k = (
    next.StatementState (place.Form s p form),
    refl,
    (
      next.StatementState (place.Typed s p form),
      refl,
      (next.StatementState (place.Object s p (term.Literal l)), ap (with_literal s p) e, after_object (term.Literal l) g d k),
    ),
  )
  literal_runs _ _ g d (with_tag form tag l e) k = (
    next.StatementState (place.Form s p form),
    refl,
    (next.StatementState (place.Object s p (term.Literal l)), ap (with_literal s p) e, after_object (term.Literal l) g d k),
  )

  object_runs : (o : List Part) (c : Term) (g : List Part) (d : Option Term) → IsObject o c → IsGraph g d → Runs (at (place.Predicate s p) done) (o ++ (g ++ part.Dot ∷ [])) (finished c d)
  object_runs _ _ g d (node u c h) k = node_runs u c g d h k
  object_runs _ _ g d (literal o l h) k = literal_runs o l g d h k

predicate_runs : (s : Node) (done : List Statement) (u : Part) (b : Term) (o : List Part) (c : Term) (g : List Part) (d : Option Term) → IsPredicate u b → IsObject o c → IsGraph g d
    → Runs (at (place.Subject s) done) (u ∷ (o ++ (g ++ part.Dot ∷ []))) (at place.Done (done ++ record { graph = d; subject = term_of s; predicate = b; object = c } ∷ []))
predicate_runs s done _ _ o c g d (predicate i) h k = (next.StatementState (place.Predicate s i), refl, object_runs s i done o c g d h k)

subject_runs : (done : List Statement) (x u : Part) (a b : Term) (o : List Part) (c : Term) (g : List Part) (d : Option Term) → IsNode x a → IsPredicate u b → IsObject o c → IsGraph g d
    → Runs (at place.Start done) (x ∷ u ∷ (o ++ (g ++ part.Dot ∷ []))) (at place.Done (done ++ record { graph = d; subject = a; predicate = b; object = c } ∷ []))
subject_runs done _ u _ b o c g d (iri i) j h k = (next.StatementState (place.Subject (name.Iri i)), refl, predicate_runs (name.Iri i) done u b o c g d j h k)
subject_runs done _ u _ b o c g d (blank n) j h k = (next.StatementState (place.Subject (name.Blank n)), refl, predicate_runs (name.Blank n) done u b o c g d j h k)

statement_runs : (done : List Statement) (ps : List Part) (q : Statement) → IsStatement ps q → Runs (at place.Start done) ps (at place.Done (done ++ q ∷ []))
statement_runs done _ _ (statement x u o g a b c d i j h k) = subject_runs done x u a b o c g d i j h k

abbrev Finishes : List Statement → List Part → List Statement → Type 0
Finishes done ps qs = (p : StatementState) × Runs (at place.Start done) ps (at p (done ++ qs)) × (may_end p ≡ true)

document_from : (ps : List Part) (qs : List Statement) → IsDocument ps qs → (done : List Statement) → Finishes done ps qs
document_from _ _ none done = (place.Start, ap (at place.Start) (sym (append-nil done)), refl)
document_from _ _ (last ps q h) done = (place.Done, statement_runs done ps q h, refl)
document_from _ _ (empty_line ps qs h) done =
    let r : Finishes done ps qs = document_from ps qs h done in
    (r.0, (next.StatementState place.Start, refl, r.1), r.2)
document_from _ _ (line ps rest q qs h k) done =
    let now : List Statement = done ++ q ∷ [] in
    let r : Finishes now rest qs = document_from rest qs k now in
    let tail : Runs (at place.Done now) (part.LineEnd ∷ rest) (at r.0 (now ++ qs)) = (next.StatementState place.Start, refl, r.1) in
    let whole : Runs (at place.Start done) (ps ++ part.LineEnd ∷ rest) (at r.0 (now ++ qs)) = runs_append (at place.Start done) (at place.Done now) (at r.0 (now ++ qs)) ps (part.LineEnd ∷ rest) (statement_runs done ps q h) tail in
    (r.0, subst (λ z. Runs (at place.Start done) (ps ++ part.LineEnd ∷ rest) (at r.0 z)) (append_assoc done (q ∷ []) qs) whole, r.2)

pub document_runs : (ps : List Part) (qs : List Statement) → IsDocument ps qs → (p : StatementState) × Runs begin ps (at p qs) × (may_end p ≡ true)
document_runs ps qs h = document_from ps qs h []

-- ---- what leads to a place splits into whole lines and a statement that isn't whole

-- after these parts a document goes on, with these statements before its own
abbrev pub Lines : List Part → List Statement → Type 0
Lines ps qs = (rest : List Part) (more : List Statement) → IsDocument rest more → IsDocument (ps ++ rest) (qs ++ more)

-- the parts of a statement up to the place
abbrev pub Open : StatementState → List Part → Type 0
Open place.Start o = o ≡ []
Open (place.Subject s) o = (x : Part) × IsNode x (term_of s) × (o ≡ x ∷ [])
Open (place.Predicate s p) o = (x : Part) × IsNode x (term_of s) × (o ≡ x ∷ part.Iri p ∷ [])
Open (place.Form s p form) o = (x : Part) × IsNode x (term_of s) × (o ≡ x ∷ part.Iri p ∷ part.Form form ∷ [])
Open (place.Typed s p form) o = (x : Part) × IsNode x (term_of s) × (o ≡ x ∷ part.Iri p ∷ part.Form form ∷ part.Carets ∷ [])
Open (place.Object s p c) o = (x : Part) × IsNode x (term_of s) × (ys : List Part) × IsObject ys c × (o ≡ x ∷ part.Iri p ∷ ys)
Open (place.Label s p c g) o = (x : Part) × IsNode x (term_of s) × (ys : List Part) × IsObject ys c × (z : Part) × IsNode z (term_of g) × (o ≡ x ∷ part.Iri p ∷ (ys ++ z ∷ []))
Open place.Done o = (q : Statement) × IsStatement o q

-- the statements with that of the line
abbrev pub Total : (p : StatementState) (o : List Part) → Open p o → List Statement → List Statement
Total place.Done o h before = before ++ h.0 ∷ []
Total place.Start o h before = before
Total (place.Subject s) o h before = before
Total (place.Predicate s p) o h before = before
Total (place.Form s p form) o h before = before
Total (place.Typed s p form) o h before = before
Total (place.Object s p c) o h before = before
Total (place.Label s p c g) o h before = before

pub record Split (p : StatementState) (ps : List Part) (qs : List Statement) : Type 0 where
  pub whole : List Part
  pub before : List Statement
  pub opened : List Part
  pub parts : ps ≡ whole ++ opened
  pub lines : Lines whole before
  pub open_parts : Open p opened
  pub statements : qs ≡ Total p opened open_parts before

-- with one part more
grown : (ps whole opened o : List Part) (t : Part) → ps ≡ whole ++ opened → opened ≡ o → ps ++ t ∷ [] ≡ whole ++ (o ++ t ∷ [])
grown ps whole opened o t e f = ap (λ z. z ++ t ∷ []) (e ∙ ap (λ z. whole ++ z) f) ∙ append_assoc whole o (t ∷ [])

abbrev Leads : List Part → List Statement → Next → Type 0
Leads ps qs (next.StatementState p) = Split p ps qs
Leads ps qs (next.Quad q) = Split place.Done ps (qs ++ q ∷ [])

module _ (ps : List Part) (qs : List Statement) where
  split_start : (t : Part) → Split place.Start ps qs → IfOk (after place.Start t) (Leads (ps ++ t ∷ []) qs)
  split_start (part.Iri i) h = record {
    whole = h.whole;
    before = h.before;
    opened = part.Iri i ∷ [];
    parts = grown ps h.whole h.opened [] (part.Iri i) h.parts h.open_parts;
    lines = h.lines;
    open_parts = (part.Iri i, iri i, refl);
    statements = h.statements;
  }
  split_start (part.Blank n) h = record {
    whole = h.whole;
    before = h.before;
    opened = part.Blank n ∷ [];
    parts = grown ps h.whole h.opened [] (part.Blank n) h.parts h.open_parts;
    lines = h.lines;
    open_parts = (part.Blank n, blank n, refl);
    statements = h.statements;
  }
  split_start part.LineEnd h = record {
    whole = h.whole ++ part.LineEnd ∷ [];
    before = h.before;
    opened = [];
    parts = grown ps h.whole h.opened [] part.LineEnd h.parts h.open_parts ∙ sym (append-nil (h.whole ++ part.LineEnd ∷ []));
    lines = λ rest more d. subst (λ z. IsDocument z (h.before ++ more)) (sym (append_assoc h.whole (part.LineEnd ∷ []) rest)) (h.lines (part.LineEnd ∷ rest) more (empty_line rest more d));
    open_parts = refl;
    statements = h.statements;
  }
  split_start t h = tt

  split_subject : (s : Node) (t : Part) → Split (place.Subject s) ps qs → IfOk (after (place.Subject s) t) (Leads (ps ++ t ∷ []) qs)
  split_subject s (part.Iri i) h = let o = h.open_parts in record {
    whole = h.whole;
    before = h.before;
    opened = o.0 ∷ part.Iri i ∷ [];
    parts = grown ps h.whole h.opened (o.0 ∷ []) (part.Iri i) h.parts o.2;
    lines = h.lines;
    open_parts = (o.0, o.1, refl);
    statements = h.statements;
  }
  split_subject s t h = tt

  split_predicate : (s : Node) (p : List ℕ) (t : Part) → Split (place.Predicate s p) ps qs → IfOk (after (place.Predicate s p) t) (Leads (ps ++ t ∷ []) qs)
  split_predicate s p (part.Iri i) h = let o = h.open_parts in record {
    whole = h.whole;
    before = h.before;
    opened = o.0 ∷ part.Iri p ∷ part.Iri i ∷ [];
    parts = grown ps h.whole h.opened (o.0 ∷ part.Iri p ∷ []) (part.Iri i) h.parts o.2;
    lines = h.lines;
    open_parts = (o.0, o.1, part.Iri i ∷ [], node (part.Iri i) (term.Iri i) (iri i), refl);
    statements = h.statements;
  }
  split_predicate s p (part.Blank n) h = let o = h.open_parts in record {
    whole = h.whole;
    before = h.before;
    opened = o.0 ∷ part.Iri p ∷ part.Blank n ∷ [];
    parts = grown ps h.whole h.opened (o.0 ∷ part.Iri p ∷ []) (part.Blank n) h.parts o.2;
    lines = h.lines;
    open_parts = (o.0, o.1, part.Blank n ∷ [], node (part.Blank n) (term.Blank n) (blank n), refl);
    statements = h.statements;
  }
  split_predicate s p (part.Form form) h = let o = h.open_parts in record {
    whole = h.whole;
    before = h.before;
    opened = o.0 ∷ part.Iri p ∷ part.Form form ∷ [];
    parts = grown ps h.whole h.opened (o.0 ∷ part.Iri p ∷ []) (part.Form form) h.parts o.2;
    lines = h.lines;
    open_parts = (o.0, o.1, refl);
    statements = h.statements;
  }
  split_predicate s p t h = tt

  -- an object, by its parts
  module _ (s : Node) (p : List ℕ) (whole : List Part) (before : List Statement) (opened : List Part) (parts : ps ≡ whole ++ opened) (lines : Lines whole before) (same : qs ≡ before)
      (x : Part) (is_subject : IsNode x (term_of s)) where
    split_name : (c : Term) (ys : List Part) → IsObject ys c → opened ≡ x ∷ part.Iri p ∷ ys → (z : Part) (g : Node) → IsNode z (term_of g) → Split (place.Label s p c g) (ps ++ z ∷ []) qs
    split_name c ys h e z g k = record {
      whole = whole;
      before = before;
      opened = x ∷ part.Iri p ∷ (ys ++ z ∷ []);
      parts = grown ps whole opened (x ∷ part.Iri p ∷ ys) z parts e;
      lines = lines;
      open_parts = (x, is_subject, ys, h, z, k, refl);
      statements = same;
    }

    split_unnamed : (c : Term) (ys : List Part) → IsObject ys c → opened ≡ x ∷ part.Iri p ∷ ys
        → Split place.Done (ps ++ part.Dot ∷ []) (qs ++ record { graph = None; subject = term_of s; predicate = term.Iri p; object = c } ∷ [])
    split_unnamed c ys h e = let q : Statement = record { graph = None; subject = term_of s; predicate = term.Iri p; object = c } in record {
      whole = whole;
      before = before;
      opened = x ∷ part.Iri p ∷ (ys ++ part.Dot ∷ []);
      parts = grown ps whole opened (x ∷ part.Iri p ∷ ys) part.Dot parts e;
      lines = lines;
      open_parts = (q, statement x (part.Iri p) ys [] (term_of s) (term.Iri p) c None is_subject (predicate p) h unnamed);
      statements = ap (λ z. z ++ q ∷ []) same;
    }

    split_literal : (xs : List Part) (t : Part) (r : Result Literal TermFault) → opened ≡ x ∷ part.Iri p ∷ xs → ((l : Literal) → r ≡ Ok l → IsLiteral (xs ++ t ∷ []) l)
        → IfOk (with_literal s p r) (Leads (ps ++ t ∷ []) qs)
    split_literal xs t (Ok l) e f = record {
      whole = whole;
      before = before;
      opened = x ∷ part.Iri p ∷ (xs ++ t ∷ []);
      parts = grown ps whole opened (x ∷ part.Iri p ∷ xs) t parts e;
      lines = lines;
      open_parts = (x, is_subject, xs ++ t ∷ [], literal (xs ++ t ∷ []) l (f l refl), refl);
      statements = same;
    }
    split_literal xs t (Err g) e f = tt

  split_form : (s : Node) (p form : List ℕ) (t : Part) → Split (place.Form s p form) ps qs → IfOk (after (place.Form s p form) t) (Leads (ps ++ t ∷ []) qs)
  split_form s p form (part.Tag t) h =
      let o = h.open_parts in
      split_literal s p h.whole h.before h.opened h.parts h.lines h.statements o.0 o.1 (part.Form form ∷ []) (part.Tag t) (checked_tagged form t) o.2 (λ l e. with_tag form t l e)
  split_form s p form part.Carets h = let o = h.open_parts in record {
    whole = h.whole;
    before = h.before;
    opened = o.0 ∷ part.Iri p ∷ part.Form form ∷ part.Carets ∷ [];
    parts = grown ps h.whole h.opened (o.0 ∷ part.Iri p ∷ part.Form form ∷ []) part.Carets h.parts o.2;
    lines = h.lines;
    open_parts = (o.0, o.1, refl);
    statements = h.statements;
  }
  split_form s p form (part.Iri i) h =
      let o = h.open_parts in
      split_name s p h.whole h.before h.opened h.parts h.lines h.statements o.0 o.1 (term.Literal (typed form xsd_string)) (part.Form form ∷ [])
      (literal (part.Form form ∷ []) (typed form xsd_string) (plain form)) o.2 (part.Iri i) (name.Iri i) (iri i)
  split_form s p form (part.Blank n) h =
      let o = h.open_parts in
      split_name s p h.whole h.before h.opened h.parts h.lines h.statements o.0 o.1 (term.Literal (typed form xsd_string)) (part.Form form ∷ [])
      (literal (part.Form form ∷ []) (typed form xsd_string) (plain form)) o.2 (part.Blank n) (name.Blank n) (blank n)
  split_form s p form part.Dot h =
      let o = h.open_parts in
      split_unnamed s p h.whole h.before h.opened h.parts h.lines h.statements o.0 o.1 (term.Literal (typed form xsd_string)) (part.Form form ∷ [])
      (literal (part.Form form ∷ []) (typed form xsd_string) (plain form)) o.2
  split_form s p form t h = tt

  split_typed : (s : Node) (p form : List ℕ) (t : Part) → Split (place.Typed s p form) ps qs → IfOk (after (place.Typed s p form) t) (Leads (ps ++ t ∷ []) qs)
  split_typed s p form (part.Iri i) h =
      let o = h.open_parts in
      split_literal s p h.whole h.before h.opened h.parts h.lines h.statements o.0 o.1 (part.Form form ∷ part.Carets ∷ []) (part.Iri i) (checked_typed form i) o.2 (λ l e. with_type form i l e)
  split_typed s p form t h = tt

  split_object : (s : Node) (p : List ℕ) (c : Term) (t : Part) → Split (place.Object s p c) ps qs → IfOk (after (place.Object s p c) t) (Leads (ps ++ t ∷ []) qs)
  split_object s p c (part.Iri i) h =
      let o = h.open_parts in split_name s p h.whole h.before h.opened h.parts h.lines h.statements o.0 o.1 c o.2 o.3 o.4 (part.Iri i) (name.Iri i) (iri i)
  split_object s p c (part.Blank n) h =
      let o = h.open_parts in split_name s p h.whole h.before h.opened h.parts h.lines h.statements o.0 o.1 c o.2 o.3 o.4 (part.Blank n) (name.Blank n) (blank n)
  split_object s p c part.Dot h = let o = h.open_parts in split_unnamed s p h.whole h.before h.opened h.parts h.lines h.statements o.0 o.1 c o.2 o.3 o.4
  split_object s p c t h = tt

  split_label : (s : Node) (p : List ℕ) (c : Term) (g : Node) (t : Part) → Split (place.Label s p c g) ps qs → IfOk (after (place.Label s p c g) t) (Leads (ps ++ t ∷ []) qs)
  split_label s p c g part.Dot h =
      let o = h.open_parts in
      let q : Statement = record { graph = Some (term_of g); subject = term_of s; predicate = term.Iri p; object = c } in record {
        whole = h.whole;
        before = h.before;
        opened = o.0 ∷ part.Iri p ∷ (o.2 ++ (o.4 ∷ part.Dot ∷ []));
        parts = grown ps h.whole h.opened (o.0 ∷ part.Iri p ∷ (o.2 ++ o.4 ∷ [])) part.Dot h.parts o.6 ∙ ap (λ z. h.whole ++ (o.0 ∷ part.Iri p ∷ z)) (append_assoc o.2 (o.4 ∷ []) (part.Dot ∷ []));
        lines = h.lines;
        open_parts = (q, statement o.0 (part.Iri p) o.2 (o.4 ∷ []) (term_of s) (term.Iri p) c (Some (term_of g)) o.1 (predicate p) o.3 (named o.4 (term_of g) o.5));
        statements = ap (λ z. z ++ q ∷ []) h.statements;
      }
  split_label s p c g t h = tt

  split_done : (t : Part) → Split place.Done ps qs → IfOk (after place.Done t) (Leads (ps ++ t ∷ []) qs)
  split_done part.LineEnd h =
      let q : Statement = h.open_parts.0 in record {
        whole = h.whole ++ (h.opened ++ part.LineEnd ∷ []);
        before = h.before ++ q ∷ [];
        opened = [];
        parts = grown ps h.whole h.opened h.opened part.LineEnd h.parts refl ∙ sym (append-nil (h.whole ++ (h.opened ++ part.LineEnd ∷ [])));
        lines = λ rest more d.
            subst (λ z. IsDocument z ((h.before ++ q ∷ []) ++ more)) (sym (append_assoc h.whole (h.opened ++ part.LineEnd ∷ []) rest ∙ ap (λ z. h.whole ++ z) (append_assoc h.opened (part.LineEnd ∷ []) rest)))
            (subst (λ z. IsDocument (h.whole ++ (h.opened ++ part.LineEnd ∷ rest)) z) (sym (append_assoc h.before (q ∷ []) more))
            (h.lines (h.opened ++ part.LineEnd ∷ rest) (q ∷ more) (line h.opened rest q more h.open_parts.1 d)));
        open_parts = refl;
        statements = h.statements;
      }
  split_done t h = tt

  split_after : (p : StatementState) (t : Part) → Split p ps qs → IfOk (after p t) (Leads (ps ++ t ∷ []) qs)
  split_after place.Start t h = split_start t h
  split_after (place.Subject s) t h = split_subject s t h
  split_after (place.Predicate s p) t h = split_predicate s p t h
  split_after (place.Form s p form) t h = split_form s p form t h
  split_after (place.Typed s p form) t h = split_typed s p form t h
  split_after (place.Object s p c) t h = split_object s p c t h
  split_after (place.Label s p c g) t h = split_label s p c g t h
  split_after place.Done t h = split_done t h

leads_to : (ps : List Part) (qs : List Statement) (n : Next) → Leads ps qs n → Split (arrive qs n).place ps (arrive qs n).quads
leads_to ps qs (next.StatementState p) h = h
leads_to ps qs (next.Quad q) h = h

splits : (a b : At) (ps ts : List Part) → Split a.place ps a.quads → Runs a ts b → Split b.place (ps ++ ts) b.quads
splits a b ps [] h r = subst (λ z. Split b.place z b.quads) (sym (append-nil ps)) (subst (λ (z : At). Split z.place ps z.quads) r h)
splits a b ps (t ∷ ts) h r =
    let leads : Leads (ps ++ t ∷ []) a.quads r.0 = subst (λ z. IfOk z (Leads (ps ++ t ∷ []) a.quads)) r.1 (split_after ps a.quads a.place t h) in
    subst (λ z. Split b.place z b.quads) (append_assoc ps (t ∷ []) ts) (splits (arrive a.quads r.0) b (ps ++ t ∷ []) ts (leads_to (ps ++ t ∷ []) a.quads r.0 leads) r.2)

pub runs_split_off : (ps : List Part) (a : At) → Runs begin ps a → Split a.place ps a.quads
runs_split_off ps a r =
    splits begin a [] ps (record { whole = []; before = []; opened = []; parts = refl; lines = λ rest more d. d; open_parts = refl; statements = refl }) r

ends_document : (p : StatementState) (ps : List Part) (qs : List Statement) → Split p ps qs → may_end p ≡ true → IsDocument ps qs
ends_document place.Start ps qs h e =
    subst (λ z. IsDocument z qs) (sym (h.parts ∙ ap (λ z. h.whole ++ z) h.open_parts))
    (subst (λ z. IsDocument (h.whole ++ []) z) (append-nil h.before ∙ sym h.statements) (h.lines [] [] none))
ends_document place.Done ps qs h e =
    let q : Statement = h.open_parts.0 in
    subst (λ z. IsDocument z qs) (sym h.parts) (subst (λ z. IsDocument (h.whole ++ h.opened) z) (sym h.statements) (h.lines h.opened (q ∷ []) (last h.opened q h.open_parts.1)))
ends_document (place.Subject s) ps qs h e = absurd (true≢false (sym e))
ends_document (place.Predicate s p) ps qs h e = absurd (true≢false (sym e))
ends_document (place.Form s p form) ps qs h e = absurd (true≢false (sym e))
ends_document (place.Typed s p form) ps qs h e = absurd (true≢false (sym e))
ends_document (place.Object s p c) ps qs h e = absurd (true≢false (sym e))
ends_document (place.Label s p c g) ps qs h e = absurd (true≢false (sym e))

pub runs_document : (ps : List Part) (p : StatementState) (qs : List Statement) → Runs begin ps (at p qs) → may_end p ≡ true → IsDocument ps qs
runs_document ps p qs r e = ends_document p ps qs (runs_split_off ps (at p qs) r) e

-- ---- each place can be led to a lawful end

abbrev Completes : At → Type 0
Completes a = (more : List Part) × (b : At) × Runs a more b × (may_end b.place ≡ true)

step : (a : At) (t : Part) (n : Next) → after a.place t ≡ Ok n → Completes (arrive a.quads n) → Completes a
step a t n e c = (t ∷ c.0, c.1, (n, e, c.2), c.3)

completed : (p : StatementState) (qs : List Statement) → may_end p ≡ true → Completes (at p qs)
completed p qs e = ([], at p qs, refl, e)

whole_line : (p : StatementState) (q : Statement) (qs : List Statement) → after p part.Dot ≡ Ok (next.Quad q) → Completes (at p qs)
whole_line p q qs e = step (at p qs) part.Dot (next.Quad q) e (completed place.Done (qs ++ q ∷ []) refl)

no_type : (form : List ℕ) → checked_typed form [] ≡ Ok (typed form [])
unfolding rdf_lang_string
no_type form = refl

from_object : (s : Node) (p : List ℕ) (c : Term) (qs : List Statement) → Completes (at (place.Object s p c) qs)
from_object s p c qs = whole_line (place.Object s p c) (record { graph = None; subject = term_of s; predicate = term.Iri p; object = c }) qs refl

from_predicate : (s : Node) (p : List ℕ) (qs : List Statement) → Completes (at (place.Predicate s p) qs)
from_predicate s p qs = step (at (place.Predicate s p) qs) (part.Iri []) (next.StatementState (place.Object s p (term.Iri []))) refl (from_object s p (term.Iri []) qs)

completes : (p : StatementState) (qs : List Statement) → Completes (at p qs)
completes place.Start qs = completed place.Start qs refl
completes place.Done qs = completed place.Done qs refl
completes (place.Subject s) qs = step (at (place.Subject s) qs) (part.Iri []) (next.StatementState (place.Predicate s [])) refl (from_predicate s [] qs)
completes (place.Predicate s p) qs = from_predicate s p qs
completes (place.Form s p form) qs =
    whole_line (place.Form s p form) (record { graph = None; subject = term_of s; predicate = term.Iri p; object = term.Literal (typed form xsd_string) }) qs refl
completes (place.Typed s p form) qs =
    step (at (place.Typed s p form) qs) (part.Iri []) (next.StatementState (place.Object s p (term.Literal (typed form [])))) (ap (with_literal s p) (no_type form)) (from_object s p (term.Literal (typed form [])) qs)
completes (place.Object s p c) qs = from_object s p c qs
completes (place.Label s p c g) qs = whole_line (place.Label s p c g) (record { graph = Some (term_of g); subject = term_of s; predicate = term.Iri p; object = c }) qs refl

pub runs_begun : (ps : List Part) (a : At) → Runs begin ps a → IsBegun ps
runs_begun ps a r =
    let c : Completes a = completes a.place a.quads in
    (c.0, c.1.quads, runs_document (ps ++ c.0) c.1.place c.1.quads (runs_append begin a c.1 ps c.0 r c.2) c.3)

pub begun_runs : (ps : List Part) → IsBegun ps → (a : At) × Runs begin ps a
begun_runs ps h =
    let d = document_runs (ps ++ h.0) h.1 h.2 in
    let s = runs_split begin (at d.0 h.1) ps h.0 d.1 in
    (s.0, s.1)

-- ---- one part more

module _ (ps : List Part) (a : At) (r : Runs begin ps a) (t : Part) where
  pub goes_begun : (n : Next) → after a.place t ≡ Ok n → IsBegun (ps ++ t ∷ [])
  goes_begun n e = runs_begun (ps ++ t ∷ []) (arrive a.quads n) (runs_append begin a (arrive a.quads n) ps (t ∷ []) r (n, e, refl))

  pub begun_goes : IsBegun (ps ++ t ∷ []) → (n : Next) × (after a.place t ≡ Ok n)
  begun_goes h =
      let b = begun_runs (ps ++ t ∷ []) h in
      let s = runs_split begin b.0 ps (t ∷ []) b.1 in
      let same : s.0 ≡ a = runs_one begin s.0 a ps s.1 r in
      let m : Runs s.0 (t ∷ []) b.0 = s.2 in
      (m.0, subst (λ (z : At). after z.place t ≡ Ok m.0) same m.1)
