-- What holds of a store stays so.
use Rattle.std.proofs.Common.{◌≡◌, ℕ, zero, suc, get_or, ◌≤◌, Bool, true, false, ◌&&◌, List, [], ◌∷◌, length, take, Option, Some, None, IsTrue, refl, ap, sym, ◌∙◌, subst, arith, ⊎_elim}
use Rattle.std.proofs.Common.{◌||◌}
use Rattle.std.specs.List.{Contains, list_all, list_any}
use Rattle.std.specs.Str.{bytes_eq}
use Rattle.std.proofs.lemmas.Option.{same_Some, none-some, slice_get-get_or, slice_get_within}
use Rattle.std.proofs.lemmas.List.Elements.{Contains-get_or}
use Rattle.qs_terms.proofs.SameStatement.{same_statement-Decides}
use Rattle.std.proofs.Math.Seq.{take-length}
use Rattle.std.proofs.lemmas.Bool.{false≢true}
use Rattle.std.proofs.lemmas.Bool.Decides.{nat_tests}
use Rattle.std.proofs.lemmas.List.{length-take-le}
use Rattle.std.proofs.lemmas.List.Sorted.{IsPermutation-refl}
use Rattle.qs_terms.specs.Bag.{Distinct, SameBag}
use Rattle.qs_terms.specs.Dataset.{is_above_blanks, is_statement_below, is_term_below}
use Rattle.qs_terms.specs.inner.Dataset.{is_graph_below}
use Rattle.qs_terms.specs.Term.{same_term}
use Rattle.qs_terms.specs.Statement.{Statement, same_statement, fits_places}
use Rattle.qs_terms.specs.declared.term.Term.{Term}
use Rattle.qs_terms.specs.declared.term.Term.TheVariants.{Iri, Blank, Literal}
use Rattle.qs_store.specs.Change.{IsChanged, with_terms_of, KnowsTermsOf}
use Rattle.qs_dict.specs.inner.Dict.{term_at}
use Rattle.qs_store.specs.Content.{Content}
use Rattle.qs_store.specs.inner.Content.{HasKnownTerms, KnowsItsTerms, AreLawful}
use Rattle.qs_store.specs.inner.Entries.{AreEntries, IsEntryOf, said, statement_of, entry_of, term_or}
use Rattle.qs_store.specs.Same.{SameSet}
use Rattle.qs_store.specs.inner.Store.{IsStore, IsFront}
use Rattle.qs_store.proofs.Members.{Entries, nothing, here, there, head_or_tail, any_if}
use Rattle.qs_store.proofs.Entries.{in_use, member_of_said, entry_found, said_more, still_said, whole_entries, said_front, twice_front, Distinct-front}
use Rattle.qs_store.proofs.Terms.{front_keeps, front_length, front_take, front_take_less}

pub both : (a b : Bool) → (a && b) ≡ true → (a ≡ true) × (b ≡ true)
both true b h = (refl, h)
both false b h = absurd (false≢true h)

pub and_both : (a b : Bool) → a ≡ true → b ≡ true → (a && b) ≡ true
and_both a b h g = rw (h, g) refl

term_below_more : (n m : ℕ) (t : Term) → n ≤ m → is_term_below n t ≡ true → is_term_below m t ≡ true
term_below_more n m (Iri i) l h = refl
term_below_more n m (Blank k) l h = grind (arith, nat_tests)
term_below_more n m (Literal f) l h = refl

graph_below_more : (n m : ℕ) (g : Option Term) → n ≤ m → is_graph_below n g ≡ true → is_graph_below m g ≡ true
graph_below_more n m None l h = refl
graph_below_more n m (Some t) l h = term_below_more n m t l h

pub below_more : (n m : ℕ) (q : Statement) → n ≤ m → is_statement_below n q ≡ true → is_statement_below m q ≡ true
below_more n m q l h =
    let a = both (is_graph_below n q.graph) (is_term_below n q.subject && is_term_below n q.object) h in
    let b = both (is_term_below n q.subject) (is_term_below n q.object) a.1 in
    and_both (is_graph_below m q.graph) (is_term_below m q.subject && is_term_below m q.object) (graph_below_more n m q.graph l a.0) (and_both (is_term_below m q.subject) (is_term_below m q.object) (term_below_more n m q.subject l b.0) (term_below_more n m q.object l b.1))

pub above_each : (n : ℕ) (qs : List Statement) (q : Statement) → IsTrue (is_above_blanks n qs) → Contains qs q → is_statement_below n q ≡ true
above_each n [] q h c = absurd (nothing q c)
above_each n (r ∷ qs) q h c =
    let p = both (is_statement_below n r) (list_all (is_statement_below n) qs) h in
    ⊎_elim (λ s. ap (is_statement_below n) (sym s) ∙ p.0) (λ t. above_each n qs q p.1 t) (head_or_tail r qs q c)

pub each_above : (n : ℕ) (qs : List Statement) → ((q : Statement) → Contains qs q → is_statement_below n q ≡ true) → IsTrue (is_above_blanks n qs)
each_above n [] h = refl
each_above n (r ∷ qs) h = and_both (is_statement_below n r) (list_all (is_statement_below n) qs) (h r (here r qs)) (each_above n qs (λ q c. h q (there r q qs c)))

pub above_after : (n m : ℕ) (old remove add new : List Statement) → n ≤ m → IsTrue (is_above_blanks n old) → IsTrue (is_above_blanks m add) → IsChanged old remove add new → IsTrue (is_above_blanks m new)
above_after n m old remove add new l h g w =
    each_above m new (λ q c. ⊎_elim (λ o. below_more n m q l (above_each n old q h o.0)) (λ i. above_each m add q g i) ((w q).0 c))

above_same : (n : ℕ) (old new : List Statement) → ((q : Statement) → Contains new q → Contains old q) → IsTrue (is_above_blanks n old) → IsTrue (is_above_blanks n new)
above_same n old new w h = each_above n new (λ q c. above_each n old q h (w q c))

-- the store's own quads are said as before in more terms
pub base_said : (terms more : List Term) (base : Entries) (known : ℕ) → known ≤ length terms → AreEntries (take known terms) base → IsFront terms more → said more base ≡ said terms base
base_said terms more base known l h f = still_said terms more base (front_length terms more f) (front_keeps terms more f) (whole_entries terms known base l h)

pub store_changed : (terms more : List Term) (base old new : Entries) (known next n m : ℕ) (remove add : List Statement) → IsStore terms base old known next n → IsFront terms more → Distinct same_term more → AreEntries more new → IsChanged (said terms old) remove add (said more new) → n ≤ m → IsTrue (is_above_blanks m add) → IsStore more base new known next m
store_changed terms more base old new known next n m remove add s f u e w l g = record {
  distinct = u;
  within = omega (arith, s.within, front_length terms more f);
  known_base = subst (λ t. AreEntries t base) (sym (front_take_less known terms more f s.within)) s.known_base;
  known_draft = e;
  below = subst (λ q. IsTrue (is_above_blanks next q)) (sym (base_said terms more base known s.within s.known_base f)) s.below;
  above = above_after n m (said terms old) remove add (said more new) l s.above g w;
}

pub store_settled : (terms : List Term) (base draft new new_draft : Entries) (known next n : ℕ) → IsStore terms base draft known next n → SameSet new draft → new_draft ≡ new → IsStore terms new new_draft (length terms) n n
store_settled terms base draft new new_draft known next n s w e =
    let all : AreEntries terms new = λ x m. s.known_draft x ((w x).0 m) in
    let above = above_same n (said terms draft) (said terms new) (said_more terms new draft (λ x m. (w x).0 m)) s.above in
    subst (λ d. IsStore terms new d (length terms) n n) (sym e) record {
      distinct = s.distinct;
      within = omega arith;
      known_base = subst (λ t. AreEntries t new) (sym (take-length terms)) all;
      known_draft = all;
      below = above;
      above = above;
    }

pub said_settled : (terms : List Term) (draft new : Entries) → SameSet new draft → SameSet (said terms new) (said terms draft)
said_settled terms draft new w q = (said_more terms new draft (λ x m. (w x).0 m) q, said_more terms draft new (λ x m. (w x).1 m) q)

pub store_reset : (terms : List Term) (base draft new_draft : Entries) (known next n : ℕ) → IsStore terms base draft known next n → new_draft ≡ base → IsStore (take known terms) base new_draft known next next
store_reset terms base draft new_draft known next n s e =
    let short : length (take known terms) ≡ known = length-take-le known terms s.within in
    let above = subst (λ q. IsTrue (is_above_blanks next q)) (sym (said_front terms known base s.within s.known_base)) s.below in
    subst (λ d. IsStore (take known terms) base d known next next) (sym e) record {
      distinct = Distinct-front known terms s.distinct;
      within = omega (arith, short);
      known_base = subst (λ t. AreEntries t base) (sym (twice_front known terms)) s.known_base;
      known_draft = s.known_base;
      below = above;
      above = above;
    }

-- and the known terms are those that a change tells
pub knows_terms : (old new : List Term) (add : List Statement) → IsFront old new → new ≡ with_terms_of old add → KnowsTermsOf old add new
knows_terms old new add f e = record {
  front = front_take old new f;
  same = subst (λ t. SameBag new t) e (IsPermutation-refl new);
}

abbrev pub content : List Statement → ℕ → List Term → Content
content quads next known = record { quads = quads; next = next; known = known }

pub base_same : (terms more : List Term) (base : Entries) (known next : ℕ) → known ≤ length terms → AreEntries (take known terms) base → IsFront terms more → content (said more base) next (take known more) ≡ content (said terms base) next (take known terms)
base_same terms more base known next l h f =
    ap (λ q. content q next (take known more)) (base_said terms more base known l h f) ∙ ap (λ k. content (said terms base) next k) (front_take_less known terms more f l)

pub base_after_cut : (terms : List Term) (base : Entries) (known next : ℕ) → known ≤ length terms → AreEntries (take known terms) base → content (said (take known terms) base) next (take known (take known terms)) ≡ content (said terms base) next (take known terms)
base_after_cut terms base known next l h =
    ap (λ q. content q next (take known (take known terms))) (said_front terms known base l h) ∙ ap (λ k. content (said terms base) next k) (twice_front known terms)

pub draft_after_cut : (terms : List Term) (base : Entries) (known next : ℕ) → known ≤ length terms → AreEntries (take known terms) base → content (said (take known terms) base) next (take known terms) ≡ content (said terms base) next (take known terms)
draft_after_cut terms base known next l h = ap (λ q. content q next (take known terms)) (said_front terms known base l h)

-- some element passes
record Passes (p : Statement → Bool) (qs : List Statement) : Type 0 where
  one : Statement
  stands : Contains qs one
  passes : p one ≡ true

passes_at : (p : Statement → Bool) (qs : List Statement) → list_any p qs ≡ true → Passes p qs
passes_at p [] h = absurd (false≢true h)
passes_at p (q ∷ qs) h = at_test (p q) refl (λ k. passes_at p qs k) h
  where
    at_test : (b : Bool) → p q ≡ b → (list_any p qs ≡ true → Passes p qs) → (b || list_any p qs) ≡ true → Passes p (q ∷ qs)
    at_test true e i k = record { one = q; stands = here q qs; passes = e }
    at_test false e i k = let m = i k in record { one = m.one; stands = there q m.one qs m.stands; passes = m.passes }

-- entries that stand once say quads that stand once
pub said_once : (terms : List Term) (entries : Entries) → Distinct same_term terms → Distinct bytes_eq entries → AreEntries terms entries → Distinct same_statement (said terms entries)
said_once terms [] u o h = tt
said_once terms (x ∷ xs) u o h = (at_test (list_any (same_statement (statement_of terms x)) (said terms xs)) refl, said_once terms xs u o.1 (λ y c. h y (there x y xs c)))
  where
    at_test : (b : Bool) → list_any (same_statement (statement_of terms x)) (said terms xs) ≡ b → b ≡ false
    at_test true e =
        let m = passes_at (same_statement (statement_of terms x)) (said terms xs) e in
        let q = (same_statement-Decides (statement_of terms x) m.one).0 m.passes in
        let s = member_of_said terms m.one xs m.stands in
        let y : s.entry ≡ x = same_Some s.entry x (sym (entry_found terms s.entry u (h s.entry (there x s.entry xs s.stands))) ∙ ap (entry_of terms) (s.says ∙ sym q) ∙ entry_found terms x u (h x (here x xs))) in
        absurd (false≢true (sym o.0 ∙ any_if x xs (subst (Contains xs) y s.stands)))
    at_test false e = refl

known_at : (terms : List Term) (n : ℕ) (t : Term) → term_at terms n ≡ Some t → Contains terms t
known_at terms zero t h = absurd (none-some t h)
known_at terms (suc i) t h =
    let w = slice_get_within terms i t h in
    let e = slice_get-get_or terms i (Blank 0) w in
    subst (Contains terms) (same_Some (get_or terms i (Blank 0)) t (sym e ∙ h)) (Contains-get_or terms i (Blank 0) w)

entry_known : (terms : List Term) (x : List ℕ) → IsEntryOf terms x → HasKnownTerms terms (statement_of terms x)
entry_known terms [] e = absurd e
entry_known terms (g ∷ []) e = absurd e
entry_known terms (g ∷ s ∷ []) e = absurd e
entry_known terms (g ∷ s ∷ p ∷ []) e = absurd e
entry_known terms (g ∷ s ∷ p ∷ o ∷ x ∷ rest) e = absurd e
entry_known terms (g ∷ s ∷ p ∷ o ∷ []) e = record {
  graph = λ name h. known_at terms g name h;
  subject = known_at terms s (term_or terms s) (in_use terms s e.subject);
  predicate = known_at terms p (term_or terms p) (in_use terms p e.predicate);
  object = known_at terms o (term_or terms o) (in_use terms o e.object);
}

-- the terms of what entries say are known
pub draft_known : (terms : List Term) (entries : Entries) (next : ℕ) → AreEntries terms entries → KnowsItsTerms (content (said terms entries) next terms)
draft_known terms entries next all q c = let f = member_of_said terms q entries c in subst (HasKnownTerms terms) f.says (entry_known terms f.entry (all f.entry f.stands))

pub base_known : (terms : List Term) (entries : Entries) (known next : ℕ) → known ≤ length terms → AreEntries (take known terms) entries → KnowsItsTerms (content (said terms entries) next (take known terms))
base_known terms entries known next l all =
    subst (λ quads. KnowsItsTerms (content quads next (take known terms))) (said_front terms known entries l all) (draft_known (take known terms) entries next all)

entry_fits : (terms : List Term) (x : List ℕ) → IsEntryOf terms x → let q = statement_of terms x in IsTrue (fits_places q.graph q.subject q.predicate)
entry_fits terms [] e = absurd e
entry_fits terms (g ∷ []) e = absurd e
entry_fits terms (g ∷ s ∷ []) e = absurd e
entry_fits terms (g ∷ s ∷ p ∷ []) e = absurd e
entry_fits terms (g ∷ s ∷ p ∷ o ∷ x ∷ rest) e = absurd e
entry_fits terms (g ∷ s ∷ p ∷ o ∷ []) e = e.fits

-- what entries say stands where it may
pub draft_lawful : (terms : List Term) (entries : Entries) → AreEntries terms entries → AreLawful (said terms entries)
draft_lawful terms entries all q c =
    let f = member_of_said terms q entries c in
    subst (λ (q : Statement). IsTrue (fits_places q.graph q.subject q.predicate)) f.says (entry_fits terms f.entry (all f.entry f.stands))

pub base_lawful : (terms : List Term) (entries : Entries) (known : ℕ) → known ≤ length terms → AreEntries (take known terms) entries → AreLawful (said terms entries)
base_lawful terms entries known l all = subst AreLawful (said_front terms known entries l all) (draft_lawful (take known terms) entries all)
