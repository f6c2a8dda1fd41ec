-- Quads with the same line are the same: the line is read in one way.
use Rattle.std.proofs.Common.{◌≡◌, ◌⊎◌, inl, inr, ℕ, ◌+◌, ◌^◌, ◌<◌, ◌≤◌, Bool, true, false, cond, not, ◌||◌, ◌&&◌, List, [], ◌∷◌, ◌++◌, length, Option, Some, None, refl, sym, ap, ◌∙◌, subst, arith, append_assoc, append-nil, length-append, true≢false, eqb-true}
use Rattle.std.specs.Prelude.{if◌then◌else◌}
use Rattle.std.specs.List.{list_any, filter}
use Rattle.std.specs.Str.{chars, bytes_eq}
use Rattle.std.specs.Map.{lookup}
use Rattle.std.proofs.lemmas.Str.{IsUtf8-nil}
use Rattle.qs_terms.specs.Bag.{once}
use Rattle.std.proofs.lemmas.Bool.{and_parts}
use Rattle.qs_terms.specs.Statement.{Statement, is_node, is_iri}
use Rattle.qs_terms.specs.inner.Dataset.{is_graph}
use Rattle.qs_terms.specs.declared.term.Term.{Term}
use Rattle.qs_terms.specs.declared.term.Term.TheVariants as term
use Rattle.qs_terms.proofs.FirstOnes.{once_with}
use Rattle.qs_nquads.specs.Labels.{Numbering, from}
use Rattle.qs_nquads.specs.inner.Reading.{State, goes, ends, step, Comes, here, on}
use Rattle.qs_nquads.specs.declared.statement_state.StatementState.TheVariants as place
use Rattle.qs_nquads.specs.Written.{label, line}
use Rattle.qs_nquads.specs.inner.Renumbered.{blanks_in, blanks_in_name, blanks_of, before, renumbered_term, renumbered_name, renumbered, IsTerm, IsName, IsQuad}
use Rattle.qs_nquads.proofs.Renumbering.{same, exact, none_yet, found, is_there, with_keeps}
use Rattle.qs_nquads.proofs.OneLine.{at, given, LineRead, line_read, line_then, line_before}

-- ---- one reading

goes_one : (a b : State) → goes a ≡ goes b → a ≡ b
goes_one a b e = cc

abbrev First : State → State → Type 0
First s t = (s ≡ t) ⊎ ((u : State) × (step s ≡ goes u) × Comes u t)

first_step : (s t : State) → Comes s t → First s t
first_step s _ here = inl refl
first_step s _ (on t u c e) = elim (first_step s t c) as (λ _. First s u) [ inl p ↦ inr (u, subst (λ z. step z ≡ goes u) (sym p) e, here) | inr q ↦ inr (q.0, q.1, on t u q.2 e) ]

along : (s t u : State) → Comes s t → Comes s u → Comes t u ⊎ Comes u t
along s t _ c here = inr c
along s t _ c (on v u d e) =
    elim (along s t v c d) as (λ _. Comes t u ⊎ Comes u t) [
      | inl p ↦ inl (on v u p e)
      | inr p ↦ (elim (first_step v t p) as (λ _. Comes t u ⊎ Comes u t) [
        | inl q ↦ inl (on v u (subst (λ z. Comes z v) q here) e)
        | inr q ↦ inr (subst (λ z. Comes z t) (goes_one q.0 u (sym q.1 ∙ e)) q.2)
      ])
    ]

ends_goes : (s : State) → ends ≡ goes s → ⊥
ends_goes s e = cc

still : (s t : State) → Comes s t → step s ≡ ends → s ≡ t
still s t c h = elim (first_step s t c) as (λ _. s ≡ t) [ inl p ↦ p | inr q ↦ absurd (ends_goes q.0 (sym h ∙ q.1)) ]

one_end : (s t u : State) → Comes s t → Comes s u → step t ≡ ends → step u ≡ ends → t ≡ u
one_end s t u c d h k = elim (along s t u c d) as (λ _. t ≡ u) [ inl p ↦ still t u p h | inr p ↦ sym (still u t p k) ]

-- ---- places among blank nodes

stays : (b : ℕ) (more xs : List ℕ) → list_any (same b) (once same xs) ≡ true → list_any (same b) (once same (xs ++ more)) ≡ true
stays b [] xs h = ap (λ z. list_any (same b) (once same z)) (append-nil xs) ∙ h
stays b (t ∷ more) xs h =
    let k = with_keeps b t (once same xs) h in
    ap (λ z. list_any (same b) (once same z)) (sym (append_assoc xs (t ∷ []) more))
    ∙ stays b more (xs ++ t ∷ []) (ap (list_any (same b)) (once_with same exact xs t) ∙ k.1)

abbrev Has : List ℕ → Term → Type 0
Has all t = (b : ℕ) → t ≡ term.Blank b → list_any (same b) (once same all) ≡ true

has_term : (t : Term) (front behind all : List ℕ) → all ≡ (front ++ blanks_in t) ++ behind → Has all t
has_term t front behind all e b h =
    let f : all ≡ (front ++ b ∷ []) ++ behind = e ∙ ap (λ z. (front ++ blanks_in z) ++ behind) h in
    ap (λ z. list_any (same b) (once same z)) f ∙ stays b behind (front ++ b ∷ []) (is_there b front)

before_apart : (b c : ℕ) (xs : List ℕ) → list_any (same b) xs ≡ true → list_any (same c) xs ≡ true → before b xs ≡ before c xs → b ≡ c
before_apart b c [] h k e = absurd (true≢false (sym h))
before_apart b c (x ∷ xs) h k e = by (same b x) refl (same c x) refl h k e (before_apart b c xs) where
  by : (p : Bool) → same b x ≡ p → (q : Bool) → same c x ≡ q → (p || list_any (same b) xs) ≡ true → (q || list_any (same c) xs) ≡ true
      → (if p then 0 else (before b xs + 1)) ≡ (if q then 0 else (before c xs + 1)) → (list_any (same b) xs ≡ true → list_any (same c) xs ≡ true → before b xs ≡ before c xs → b ≡ c) → b ≡ c
  by true f true g h k e next = eqb-true b x f ∙ sym (eqb-true c x g)
  by true f false g h k e next = absurd (omega (arith, e))
  by false f true g h k e next = absurd (omega (arith, e))
  by false f false g h k e next = next h k (omega (arith, e))

found_there : (b : ℕ) (xs : List ℕ) → list_any (same b) xs ≡ true → found 0 b xs ≡ Some (0 + before b xs)
found_there b xs h = rw h refl

found_from : (b n : ℕ) (xs : List ℕ) → found 0 b xs ≡ Some n → (list_any (same b) xs ≡ true) × (n ≡ before b xs)
found_from b n xs e = by (list_any (same b) xs) refl e where
  by : (p : Bool) → list_any (same b) xs ≡ p → cond p (Some (0 + before b xs)) None ≡ Some n → (list_any (same b) xs ≡ true) × (n ≡ before b xs)
  by true h e = let f : 0 + before b xs ≡ n = cc in (h, omega (arith, f))
  by false h e = cc

-- ---- two numberings that find the same

module _ (xs ys : List ℕ) (alike : (b : ℕ) → b < 2 ^ 64 → found 0 b (once same xs) ≡ found 0 b (once same ys)) where
  abbrev f : ℕ → ℕ
  f b = 0 + before b (once same xs)

  abbrev g : ℕ → ℕ
  g b = 0 + before b (once same ys)

  one_blank : (b c : ℕ) → b < 2 ^ 64 → f b ≡ g c → list_any (same b) (once same xs) ≡ true → list_any (same c) (once same ys) ≡ true → b ≡ c
  one_blank b c h e i j =
      let k : (list_any (same b) (once same ys) ≡ true) × (f b ≡ before b (once same ys)) = found_from b (f b) (once same ys) (sym (alike b h) ∙ found_there b (once same xs) i) in
      before_apart b c (once same ys) k.0 j (sym k.1 ∙ (e ∙ (let z : 0 + before c (once same ys) ≡ before c (once same ys) = omega arith in z)))

  one_term : (t u : Term) → IsTerm t → Has xs t → Has ys u → renumbered_term f t ≡ renumbered_term g u → t ≡ u
  one_term (term.Iri i) (term.Iri j) h p q e = e
  one_term (term.Iri i) (term.Blank c) h p q e = cc
  one_term (term.Iri i) (term.Literal m) h p q e = cc
  one_term (term.Blank b) (term.Iri j) h p q e = cc
  one_term (term.Blank b) (term.Blank c) h p q e = let n : f b ≡ g c = cc in ap (λ z. term.Blank z) (one_blank b c h n (p b refl) (q c refl))
  one_term (term.Blank b) (term.Literal m) h p q e = cc
  one_term (term.Literal l) (term.Iri j) h p q e = cc
  one_term (term.Literal l) (term.Blank c) h p q e = cc
  one_term (term.Literal l) (term.Literal m) h p q e = e

  one_name : (t u : Option Term) → IsName t → ((z : Term) → t ≡ Some z → Has xs z) → ((z : Term) → u ≡ Some z → Has ys z) → renumbered_name f t ≡ renumbered_name g u → t ≡ u
  one_name None None h p q e = refl
  one_name None (Some u) h p q e = cc
  one_name (Some t) None h p q e = cc
  one_name (Some t) (Some u) h p q e = let n : renumbered_term f t ≡ renumbered_term g u = cc in ap (λ z. Some z) (one_term t u h (p t refl) (q u refl) n)

-- ---- few blank nodes

filter_no_longer : (p : ℕ → Bool) (xs : List ℕ) → length (filter p xs) ≤ length xs
filter_no_longer p [] = omega arith
filter_no_longer p (x ∷ xs) = by (p x) (filter_no_longer p xs) where
  by : (b : Bool) → length (filter p xs) ≤ length xs → length (cond b (x ∷ filter p xs) (filter p xs)) ≤ length (x ∷ xs)
  by true h = omega arith
  by false h = omega arith

once_no_longer : (xs : List ℕ) → length (once same xs) ≤ length xs
once_no_longer [] = omega arith
once_no_longer (x ∷ xs) =
    let a : length (filter (λ y. not (same x y)) (once same xs)) ≤ length (once same xs) = filter_no_longer (λ y. not (same x y)) (once same xs) in
    let b : length (once same xs) ≤ length xs = once_no_longer xs in omega arith

one_at_most : (t : Term) → length (blanks_in t) ≤ 1
one_at_most (term.Iri i) = omega arith
one_at_most (term.Blank b) = omega arith
one_at_most (term.Literal l) = omega arith

name_at_most : (t : Option Term) → length (blanks_in_name t) ≤ 1
name_at_most None = omega arith
name_at_most (Some t) = one_at_most t

few : (q : Statement) → 0 + length (once same (blanks_of q)) < 2 ^ 64
few q =
    let a : length (once same (blanks_of q)) ≤ length (blanks_of q) = once_no_longer (blanks_of q) in
    let b : length (blanks_of q) ≡ length (blanks_in q.subject) + (length (blanks_in q.object) + length (blanks_in_name q.graph)) = simp length-append in
    let s : length (blanks_in q.subject) ≤ 1 = one_at_most q.subject in
    let o : length (blanks_in q.object) ≤ 1 = one_at_most q.object in
    let g : length (blanks_in_name q.graph) ≤ 1 = name_at_most q.graph in omega arith

-- ---- a line by itself

halts : (n : Numbering) (qs : List Statement) → step (at place.Start n qs []) ≡ ends
unfolding chars
halts n qs = refl

alone : (q : Statement) (h : IsQuad q) → LineRead 0 (blanks_of q) (few q) (from 0) [] [] q []
alone q h = line_read 0 (blanks_of q) (few q) (from 0) [] [] [] q [] h IsUtf8-nil (sym (append-nil (blanks_of q))) (none_yet 0)

quads_of : State → List Statement
quads_of s = s.reading.quads

numbers_of : State → Numbering
numbers_of s = s.reading.labels

one_quad : (q r : Statement) → q ∷ [] ≡ r ∷ [] → q ≡ r
one_quad q r e = cc

in_object : (q : Statement) → blanks_of q ≡ (blanks_in q.subject ++ blanks_in q.object) ++ blanks_in_name q.graph
in_object q = sym (append_assoc (blanks_in q.subject) (blanks_in q.object) (blanks_in_name q.graph))

in_name : (q : Statement) (t : Term) → q.graph ≡ Some t → Has (blanks_of q) t
in_name q t e =
    has_term t (blanks_in q.subject ++ blanks_in q.object) [] (blanks_of q)
    (in_object q ∙ (ap (λ z. (blanks_in q.subject ++ blanks_in q.object) ++ blanks_in_name z) e ∙ sym (append-nil ((blanks_in q.subject ++ blanks_in q.object) ++ blanks_in t))))

-- no predicate of a quad is a blank node
no_blank : (q : Statement) (all : List ℕ) → IsQuad q → Has all q.predicate
no_blank q all h b e =
    let f : (is_graph q.graph ≡ true) × ((is_node q.subject && is_iri q.predicate) ≡ true) = and_parts _ _ h.fits in
    let g : (is_node q.subject ≡ true) × (is_iri q.predicate ≡ true) = and_parts _ _ f.1 in
    absurd (true≢false (sym g.1 ∙ ap is_iri e))

-- quads with the same line are the same
pub same_line : (q r : Statement) → IsQuad q → IsQuad r → line q ≡ line r → q ≡ r
unfolding quads_of numbers_of
same_line q r hq hr e =
    let a : LineRead 0 (blanks_of q) (few q) (from 0) [] [] q [] = alone q hq in
    let b : LineRead 0 (blanks_of r) (few r) (from 0) [] [] r [] = alone r hr in
    let text : line_then q [] ≡ line_then r [] =
    sym (line_before q.graph q.subject q.predicate q.object []) ∙ (ap (λ z. z ++ []) e ∙ line_before r.graph r.subject r.predicate r.object []) in
    let fq : ℕ → ℕ = given 0 (blanks_of q) (few q) in
    let fr : ℕ → ℕ = given 0 (blanks_of r) (few r) in
    let states : at place.Start a.numbers (renumbered fq q ∷ []) [] ≡ at place.Start b.numbers (renumbered fr r ∷ []) [] =
    one_end (at place.Start (from 0) [] (line_then q [])) (at place.Start a.numbers (renumbered fq q ∷ []) []) (at place.Start b.numbers (renumbered fr r ∷ []) [])
    a.comes (subst (λ z. Comes (at place.Start (from 0) [] z) (at place.Start b.numbers (renumbered fr r ∷ []) [])) (sym text) b.comes)
    (halts a.numbers (renumbered fq q ∷ [])) (halts b.numbers (renumbered fr r ∷ [])) in
    let quads : renumbered fq q ≡ renumbered fr r = one_quad (renumbered fq q) (renumbered fr r) (ap quads_of states) in
    let numbers : a.numbers ≡ b.numbers = ap numbers_of states in
    let alike : (b : ℕ) → b < 2 ^ 64 → found 0 b (once same (blanks_of q)) ≡ found 0 b (once same (blanks_of r)) =
    λ c h. sym (a.agrees.known c h) ∙ (ap (λ (n : Numbering). lookup (bytes_eq (label c)) n.numbers) numbers ∙ b.agrees.known c h) in
    let s : q.subject ≡ r.subject = one_term (blanks_of q) (blanks_of r) alike q.subject r.subject hq.subject
    (has_term q.subject [] (blanks_in q.object ++ blanks_in_name q.graph) (blanks_of q) refl) (has_term r.subject [] (blanks_in r.object ++ blanks_in_name r.graph) (blanks_of r) refl) (ap (λ z. z.subject) quads) in
    let p : q.predicate ≡ r.predicate = one_term (blanks_of q) (blanks_of r) alike q.predicate r.predicate hq.predicate (no_blank q (blanks_of q) hq) (no_blank r (blanks_of r) hr) (ap (λ z. z.predicate) quads) in
    let o : q.object ≡ r.object = one_term (blanks_of q) (blanks_of r) alike q.object r.object hq.object
    (has_term q.object (blanks_in q.subject) (blanks_in_name q.graph) (blanks_of q) (in_object q)) (has_term r.object (blanks_in r.subject) (blanks_in_name r.graph) (blanks_of r) (in_object r)) (ap (λ z. z.object) quads) in
    let g : q.graph ≡ r.graph = one_name (blanks_of q) (blanks_of r) alike q.graph r.graph hq.graph (in_name q) (in_name r) (ap (λ z. z.graph) quads) in
    let fields : (a b : Option Term) (c d : Term) (e f : Term) (i j : Term) → a ≡ b → c ≡ d → e ≡ f → i ≡ j
    → ◌≡◌ {A = Statement} (record { graph = a; subject = c; predicate = e; object = i }) (record { graph = b; subject = d; predicate = f; object = j }) =
    (λ a b c d e f i j x y z w. cc) in
    fields q.graph r.graph q.subject r.subject q.predicate r.predicate q.object r.object g s p o
