-- The terms of quads that are put into another graph: but for its name all are known.
use Rattle.std.proofs.Common.{◌≡◌, ℕ, Bool, true, false, ◌&&◌, ◌||◌, List, [], ◌∷◌, ◌++◌, map, if◌then◌else◌, Option, Some, None, IsTrue, refl, ap, sym, ◌∙◌, subst}
use Rattle.std.specs.List.{Contains, flat_map, cons_option, list_any}
use Rattle.std.proofs.lemmas.Bool.{false≢true}
use Rattle.std.proofs.lemmas.List.Elements.{Contains-append_left, Contains-append_right}
use Rattle.qs_terms.specs.Bag.{with_new}
use Rattle.qs_terms.specs.Dataset.{is_above_blanks, is_statement_below, is_term_below}
use Rattle.qs_terms.specs.inner.Dataset.{is_graph_below}
use Rattle.qs_terms.specs.Term.{same_term}
use Rattle.qs_terms.specs.Statement.{Statement}
use Rattle.qs_terms.specs.declared.term.Term.{Term}
use Rattle.qs_terms.proofs.SameTerm.{same_term-Decides}
use Rattle.qs_store.specs.Change.{terms_of, with_terms_of}
use Rattle.qs_store.specs.inner.Change.{with_terms}
use Rattle.qs_store.specs.inner.Content.{HasKnownTerms}
use Rattle.qs_store.specs.inner.Entries.{said, AreEntries}
use Rattle.qs_store.specs.WholeGraphs.{is_in, in_graph, put_into, copies}
use Rattle.qs_store.proofs.Copied.{map_only, any_has}
use Rattle.qs_store.proofs.Members.{Entries, nothing, here, there, member_of_filter}
use Rattle.qs_store.proofs.Stored.{draft_known, above_each, each_above, both, and_both}
use Rattle.qs_store.proofs.Terms.{with_terms_more, with_quad}

same : (t : Term) → same_term t t ≡ true
same t = (same_term-Decides t t).1 refl

new_known : (terms : List Term) (t : Term) → Contains terms t → with_new same_term terms t ≡ terms
new_known terms t c = rw (any_has (same_term t) t terms c (same t)) refl

-- known terms are no new ones
absorbs : (terms ts : List Term) → ((t : Term) → Contains ts t → Contains terms t) → with_terms terms ts ≡ terms
absorbs terms [] h = refl
absorbs terms (t ∷ ts) h = ap (λ k. with_terms k ts) (new_known terms t (h t (here t ts))) ∙ absorbs terms ts (λ x c. h x (there t x ts c))

with_new_has : (terms : List Term) (t x : Term) → Contains terms x → Contains (with_new same_term terms t) x
with_new_has terms t x c = by (list_any (same_term t) terms)
  where
    by : (b : Bool) → Contains (if b then terms else terms ++ t ∷ []) x
    by true = c
    by false = Contains-append_left terms (t ∷ []) x c

-- the known terms with the name of a graph
abbrev named : List Term → Option Term → List Term
named known name = with_terms known (cons_option name [])

named_has : (known : List Term) (name : Option Term) (x : Term) → Contains known x → Contains (named known name) x
named_has known None x c = c
named_has known (Some t) x c = with_new_has known t x c

found_any : (terms : List Term) (t : Term) → list_any (same_term t) terms ≡ true → Contains terms t
found_any [] t h = absurd (false≢true h)
found_any (x ∷ xs) t h = at_test (same_term t x) refl (λ k. found_any xs t k) h
  where
    at_test : (b : Bool) → same_term t x ≡ b → (list_any (same_term t) xs ≡ true → Contains xs t) → (b || list_any (same_term t) xs) ≡ true → Contains (x ∷ xs) t
    at_test true e i k = subst (Contains (x ∷ xs)) (sym ((same_term-Decides t x).0 e)) (here x xs)
    at_test false e i k = there x t xs (i k)

-- a new term is among those with it
has_new : (terms : List Term) (t : Term) → Contains (with_new same_term terms t) t
has_new terms t = at_test (list_any (same_term t) terms) refl
  where
    at_test : (b : Bool) → list_any (same_term t) terms ≡ b → Contains (if b then terms else terms ++ t ∷ []) t
    at_test true e = found_any terms t e
    at_test false e = Contains-append_right terms (t ∷ []) t (here t [])

has_name : (known : List Term) (name : Option Term) (t : Term) → name ≡ Some t → Contains (named known name) t
has_name known name t e = subst (λ n. Contains (named known n) t) (sym e) (has_new known t)

-- the subject, predicate and object of each quad are known
abbrev KnowsTriples : List Term → List Statement → Type 0
KnowsTriples known rs = (r : Statement) → Contains rs r → Contains known r.subject × Contains known r.predicate × Contains known r.object

triple_stays : (known : List Term) (s p o : Term) → Contains known s → Contains known p → Contains known o → with_terms known (s ∷ p ∷ o ∷ []) ≡ known
triple_stays known s p o a b c =
    ap (λ k. with_terms k (p ∷ o ∷ [])) (new_known known s a) ∙ ap (λ k. with_terms k (o ∷ [])) (new_known known p b) ∙ new_known known o c

quad_stays : (known : List Term) (name : Option Term) (s p o : Term) → ((t : Term) → name ≡ Some t → Contains known t) → Contains known s → Contains known p → Contains known o → with_terms known (cons_option name (s ∷ p ∷ o ∷ [])) ≡ known
quad_stays known None s p o n a b c = triple_stays known s p o a b c
quad_stays known (Some t) s p o n a b c = ap (λ k. with_terms k (s ∷ p ∷ o ∷ [])) (new_known known t (n t refl)) ∙ triple_stays known s p o a b c

-- quads whose terms are known bring none
all_stay : (known : List Term) (name : Option Term) (rs : List Statement) → ((t : Term) → name ≡ Some t → Contains known t) → KnowsTriples known rs → with_terms_of known (map (put_into name) rs) ≡ known
all_stay known name [] n h = refl
all_stay known name (r ∷ rs) n h =
    let k = h r (here r rs) in
    sym (with_terms_more known (terms_of (put_into name r)) (flat_map terms_of (map (put_into name) rs)))
    ∙ ap (λ l. with_terms_of l (map (put_into name) rs)) (quad_stays known name r.subject r.predicate r.object n k.0 k.1 k.2)
    ∙ all_stay known name rs n (λ q c. h q (there r q rs c))

-- and others the name of their graph alone
name_alone : (known : List Term) (name : Option Term) (r : Statement) (rs : List Statement) → KnowsTriples known (r ∷ rs) → with_terms_of known (map (put_into name) (r ∷ rs)) ≡ named known name
name_alone known name r rs h =
    let k = h r (here r rs) in
    sym (with_terms_more known (terms_of (put_into name r)) (flat_map terms_of (map (put_into name) rs)))
    ∙ ap (λ l. with_terms_of l (map (put_into name) rs)) (with_quad known name (r.subject ∷ r.predicate ∷ r.object ∷ []) ∙ triple_stays (named known name) r.subject r.predicate r.object (named_has known name r.subject k.0) (named_has known name r.predicate k.1) (named_has known name r.object k.2))
    ∙ all_stay (named known name) name rs (λ t e. has_name known name t e)
    (λ q c. let m = h q (there r q rs c) in (named_has known name q.subject m.0, named_has known name q.predicate m.1, named_has known name q.object m.2))

some_copied : (known : List Term) (name : Option Term) (rs : List Statement) (q : Statement) → Contains rs q → KnowsTriples known rs → with_terms_of known (map (put_into name) rs) ≡ named known name
some_copied known name [] q c h = absurd (nothing q c)
some_copied known name (r ∷ rs) q c h = name_alone known name r rs h

knows_triples : (known : List Term) (quads : List Statement) (from : Option Term) → ((q : Statement) → Contains quads q → HasKnownTerms known q) → KnowsTriples known (in_graph from quads)
knows_triples known quads from h r c = let f = member_of_filter (is_in from) r quads c in let k = h r f.0 in (k.subject, k.predicate, k.object)

-- the known terms after a copy: with the name of the graph that the quads are put into, where there are any
pub terms_copied : (terms : List Term) (entries : Entries) (from to : Option Term) (q : Statement) → AreEntries terms entries → Contains (in_graph from (said terms entries)) q → with_terms terms (cons_option to []) ≡ with_terms_of terms (copies from to (said terms entries))
terms_copied terms entries from to q all c =
    sym (some_copied terms to (in_graph from (said terms entries)) q c (knows_triples terms (said terms entries) from (draft_known terms entries 0 all)))

pub none_copied : (terms : List Term) (quads : List Statement) (from to : Option Term) → in_graph from quads ≡ [] → terms ≡ with_terms_of terms (copies from to quads)
none_copied terms quads from to e = sym (ap (λ l. with_terms_of terms (map (put_into to) l)) e)

-- the next number stays above the blank nodes
put_below : (n : ℕ) (to : Option Term) (q : Statement) → is_graph_below n to ≡ true → is_statement_below n q ≡ true → is_statement_below n (put_into to q) ≡ true
put_below n to q g h =
    and_both (is_graph_below n to) (is_term_below n q.subject && is_term_below n q.object) g (both (is_graph_below n q.graph) (is_term_below n q.subject && is_term_below n q.object) h).1

pub copies_below : (n : ℕ) (from to : Option Term) (quads : List Statement) → IsTrue (is_graph_below n to) → IsTrue (is_above_blanks n quads) → IsTrue (is_above_blanks n (copies from to quads))
copies_below n from to quads g h =
    each_above n (copies from to quads) (λ q c.
    let m = map_only (put_into to) q (in_graph from quads) c in
    let f = member_of_filter (is_in from) m.one quads m.stands in
    subst (λ r. is_statement_below n r ≡ true) m.is (put_below n to m.one g (above_each n quads m.one h f.0)))
