-- Quads that are numbered first and put in by their entries.
use Rattle.std.proofs.Common.{◌≡◌, ℕ, ◌≤◌, IsTrue, List, [], ◌∷◌, ◌++◌, length, Some, ap, sym, ◌∙◌, subst, arith, inl, inr, ⊎_elim}
use Rattle.std.specs.List.{Contains, flat_map}
use Rattle.std.proofs.lemmas.List.{map-append}
use Rattle.std.proofs.lemmas.List.Elements.{Contains-append_cases}
use Rattle.std.proofs.lemmas.Grind.{flat_map-append}
use Rattle.qs_index.specs.inner.Entries.{IsUnion, IsDifference}
use Rattle.qs_terms.specs.Bag.{Distinct}
use Rattle.qs_terms.specs.Dataset.{is_above_blanks}
use Rattle.qs_terms.specs.Statement.{Statement, fits_places}
use Rattle.qs_terms.specs.Term.{same_term}
use Rattle.qs_terms.specs.declared.term.Term.{Term}
use Rattle.qs_store.specs.Change.{IsChanged, terms_of, with_terms_of}
use Rattle.qs_store.specs.inner.Change.{with_terms}
use Rattle.qs_store.specs.inner.Change.{IsFullAt}
use Rattle.qs_store.specs.inner.Entries.{AreEntries, IsEntryOf, IsSaidBehind, said, statement_of, entry_of}
use Rattle.qs_store.specs.inner.Layers.{drafted}
use Rattle.qs_store.specs.inner.Store.{IsStore, IsFront}
use Rattle.qs_store.specs.declared.fault.StoreFault.{StoreFault}
use Rattle.qs_store.proofs.Members.{Entries, nothing, head_or_tail}
use Rattle.qs_store.proofs.Drafted.{settled}
use Rattle.qs_store.proofs.Entries.{entry_is, entry_says, member_of_said, said_has, still_entries, still_said}
use Rattle.qs_store.proofs.Faults.{full_later}
use Rattle.qs_store.proofs.Terms.{front_keeps, front_length, front_refl, front_take_less, longer, more_of, with_terms_more}
use Rattle.qs_store.proofs.Stored.{base_said, store_changed, store_settled}

-- ---- a quad is numbered

-- the store and its draft stay as they were, with more terms after
pub store_more : (terms more : List Term) (base draft : Entries) (known next n : ℕ) → IsStore terms base draft known next n → IsFront terms more → Distinct same_term more → IsStore more base draft known next n
store_more terms more base draft known next n s f u = record {
  distinct = u;
  within = omega (arith, s.within, front_length terms more f);
  known_base = subst (λ t. AreEntries t base) (sym (front_take_less known terms more f s.within)) s.known_base;
  known_draft = still_entries terms more draft (front_length terms more f) (front_keeps terms more f) s.known_draft;
  below = subst (λ q. IsTrue (is_above_blanks next q)) (sym (base_said terms more base known s.within s.known_base f)) s.below;
  above = subst (λ q. IsTrue (is_above_blanks n q)) (sym (still_said terms more draft (front_length terms more f) (front_keeps terms more f) s.known_draft)) s.above;
}

pub draft_said : (terms more : List Term) (draft : Entries) → IsFront terms more → AreEntries terms draft → said more draft ≡ said terms draft
draft_said terms more draft f h = still_said terms more draft (front_length terms more f) (front_keeps terms more f) h

-- the quad's entry after others
pub said_behind : (terms more : List Term) (entries : Entries) (q : Statement) (e : List ℕ) → IsFront terms more → Distinct same_term more → IsTrue (fits_places q.graph q.subject q.predicate) → entry_of more q ≡ Some e → AreEntries terms entries → IsSaidBehind terms entries q more e
said_behind terms more entries q e f u fits found h =
    let before : AreEntries more entries = still_entries terms more entries (front_length terms more f) (front_keeps terms more f) h in
    let own : IsEntryOf more e = entry_is more q e u fits found in
    record {
      entries_are = λ x c. ⊎_elim (λ m. before x m) (λ m. ⊎_elim (λ w. subst (IsEntryOf more) w own) (λ n. absurd (nothing x n)) (head_or_tail e [] x m)) (Contains-append_cases entries (e ∷ []) x c);
      says = map-append (statement_of more) entries (e ∷ []) ∙ (ap (λ l. l ++ statement_of more e ∷ []) (draft_said terms more entries f h) ∙ ap (λ r. said terms entries ++ r ∷ []) (entry_says more q e u found));
    }

-- the known terms with those of the quad
pub known_behind : (old new first : List Term) (quads : List Statement) (q : Statement) → new ≡ with_terms old (terms_of q) → old ≡ with_terms_of first quads → new ≡ with_terms_of first (quads ++ q ∷ [])
known_behind old new first quads q e h = e ∙ (ap (λ t. with_terms t (terms_of q)) h ∙ more_of first quads q)

-- what is full for a quad stays so, whatever quads follow
pub full_behind : (f : StoreFault) (limit : ℕ) (old first : List Term) (quads more : List Statement) (q : Statement) → IsFullAt f limit (length (with_terms old (terms_of q))) → old ≡ with_terms_of first quads → IsFullAt f limit (length (with_terms_of first (quads ++ q ∷ more)))
full_behind f limit old first quads more q h e =
    let here : List Term = with_terms (with_terms_of first quads) (terms_of q) in
    let all : with_terms_of first (quads ++ q ∷ more) ≡ with_terms here (flat_map terms_of more) =
    ap (with_terms first) (flat_map-append terms_of quads (q ∷ more)) ∙ (sym (with_terms_more first (flat_map terms_of quads) (terms_of q ++ flat_map terms_of more)) ∙ sym (with_terms_more (with_terms_of first quads) (terms_of q) (flat_map terms_of more))) in
    let now : IsFullAt f limit (length here) = subst (λ t. IsFullAt f limit (length (with_terms t (terms_of q)))) e h in
    subst (λ t. IsFullAt f limit (length t)) (sym all) (full_later f limit (length here) (length (with_terms here (flat_map terms_of more))) (longer here (flat_map terms_of more)) now)

-- ---- quads are put in by their entries

-- what is put in beside what a draft makes of the entries
pub settled_with : (i j k n r a ins : Entries) → IsDifference i r j → IsUnion j a k → IsUnion k ins n → IsChanged (drafted i r a) [] ins n
settled_with i j k n r a ins d u v x = (
  λ c. ⊎_elim (λ m. inl ((settled i j k r a d u x).0 m, λ l. nothing x l)) (λ m. inr m) (v.only x c),
  λ h. ⊎_elim (λ o. v.has_old x ((settled i j k r a d u x).1 o.0)) (λ m. v.has_added x m) h,
)

-- where the draft adds nothing to a store that has nothing, they are all that there is
pub settled_alone : (i n r a ins : Entries) → i ≡ [] → a ≡ [] → IsUnion [] ins n → IsChanged (drafted i r a) [] ins n
settled_alone i n r a ins e f u =
    subst (λ k. IsChanged (drafted k r a) [] ins n) (sym e) (subst (λ k. IsChanged (drafted [] r k) [] ins n) (sym f) alone)
  where
    alone : IsChanged [] [] ins n
    alone x = (
      λ c. ⊎_elim (λ m. absurd (nothing x m)) (λ m. inr m) (u.only x c),
      λ h. ⊎_elim (λ o. absurd (nothing x o.0)) (λ m. u.has_added x m) h,
    )

pub entries_added : (terms : List Term) (old ins new : Entries) → AreEntries terms old → AreEntries terms ins → IsChanged old [] ins new → AreEntries terms new
entries_added terms old ins new h g w x c = ⊎_elim (λ o. h x o.0) (λ m. g x m) ((w x).0 c)

-- the same of the quads that they say
pub said_added : (terms : List Term) (old ins new : Entries) → IsChanged old [] ins new → IsChanged (said terms old) [] (said terms ins) (said terms new)
said_added terms old ins new w q = (
  λ m. let s = member_of_said terms q new m in
      ⊎_elim (λ o. inl (subst (Contains (said terms old)) s.says (said_has terms s.entry old o.0), λ n. nothing q n)) (λ i. inr (subst (Contains (said terms ins)) s.says (said_has terms s.entry ins i))) ((w s.entry).0 s.stands),
  λ h. ⊎_elim
      (λ o. let s = member_of_said terms q old o.0 in subst (Contains (said terms new)) s.says (said_has terms s.entry new ((w s.entry).1 (inl (s.stands, λ n. nothing s.entry n)))))
      (λ i. let s = member_of_said terms q ins i in subst (Contains (said terms new)) s.says (said_has terms s.entry new ((w s.entry).1 (inr s.stands)))) h,
)

pub store_with : (terms : List Term) (base draft ins new new_draft : Entries) (known next n m : ℕ) → IsStore terms base draft known next n → AreEntries terms ins → IsChanged draft [] ins new → n ≤ m → IsTrue (is_above_blanks m (said terms ins)) → new_draft ≡ new → IsStore terms new new_draft (length terms) m m
store_with terms base draft ins new new_draft known next n m s h w l g e =
    let mid : IsStore terms base new known next m = store_changed terms terms base draft new known next n m [] (said terms ins) s (front_refl terms) s.distinct (entries_added terms draft ins new s.known_draft h w) (said_added terms draft ins new w) l g in
    store_settled terms base new new new_draft known next m mid (λ x. (λ c. c, λ c. c)) e
