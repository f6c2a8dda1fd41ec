-- Entries and the quads that they say.
use Rattle.std.proofs.Common.{◌≡◌, ◌↔◌, ℕ, zero, suc, ◌<◌, ◌≤◌, Bool, false, List, [], ◌∷◌, length, take, Option, Some, None, IsTrue, refl, ap, sym, ◌∙◌, subst, arith, ⊎_elim}
use Rattle.std.specs.List.{Contains, list_any}
use Rattle.std.proofs.lemmas.Option.{same_Some, none-some, slice_get-get_or, slice_get_within}
use Rattle.std.proofs.lemmas.List.{length-take-le}
use Rattle.qs_terms.specs.Bag.{Distinct}
use Rattle.qs_terms.specs.Term.{same_term}
use Rattle.qs_terms.specs.Statement.{Statement, fits_places}
use Rattle.qs_terms.specs.declared.term.Term.{Term}
use Rattle.qs_terms.specs.declared.term.Term.TheVariants.{Blank}
use Rattle.qs_dict.specs.inner.Dict.{term_at, number_of, IsInUse}
use Rattle.qs_terms.proofs.FirstOnes.{or_left_false, or_right_false}
use Rattle.qs_dict.proofs.Numbers.{exact_number, keeps_front}
use Rattle.qs_store.specs.inner.Entries.{statement_of, entry_of, four, graph_number, term_or, or_blank, IsEntryOf, IsPlaced, AreEntries, said}
use Rattle.qs_store.proofs.Members.{here, there, head_or_tail, nothing}

pub record Four (g s p o : Option ℕ) (e : List ℕ) : Type 0 where
  pub a : ℕ
  pub b : ℕ
  pub c : ℕ
  pub d : ℕ
  pub graph : g ≡ Some a
  pub subject : s ≡ Some b
  pub predicate : p ≡ Some c
  pub object : o ≡ Some d
  pub entry : e ≡ a ∷ b ∷ c ∷ d ∷ []

pub four_some : (g s p o : Option ℕ) (e : List ℕ) → four g s p o ≡ Some e → Four g s p o e
four_some None s p o e h = absurd (let f : None ≡ Some e = h in cc)
four_some (Some g) None p o e h = absurd (let f : None ≡ Some e = h in cc)
four_some (Some g) (Some s) None o e h = absurd (let f : None ≡ Some e = h in cc)
four_some (Some g) (Some s) (Some p) None e h = absurd (let f : None ≡ Some e = h in cc)
four_some (Some g) (Some s) (Some p) (Some o) e h = record { a = g; b = s; c = p; d = o; graph = refl; subject = refl; predicate = refl; object = refl; entry = sym (same_Some _ _ h) }

pub graph_at : (terms : List Term) → Distinct same_term terms → (g : Option Term) (n : ℕ) → graph_number terms g ≡ Some n → term_at terms n ≡ g
graph_at terms u None zero h = refl
graph_at terms u None (suc n) h = absurd (omega (arith, same_Some _ _ h))
graph_at terms u (Some t) n h = (exact_number terms t u n).0 h

term_there : (terms : List Term) → Distinct same_term terms → (t : Term) (n : ℕ) → number_of terms t ≡ Some n → term_or terms n ≡ t
term_there terms u t n h = ap or_blank ((exact_number terms t u n).0 h)

made : Option Term → Term → Term → Term → Statement
made g s p o = record { graph = g; subject = s; predicate = p; object = o }

-- the entry that is found for a quad says it
pub entry_says : (terms : List Term) (q : Statement) (e : List ℕ) → Distinct same_term terms → entry_of terms q ≡ Some e → statement_of terms e ≡ q
unfolding made
entry_says terms q e u h =
    let f = four_some (graph_number terms q.graph) (number_of terms q.subject) (number_of terms q.predicate) (number_of terms q.object) e h in
    let g = graph_at terms u q.graph f.a f.graph in
    ap (statement_of terms) f.entry
    ∙ ap (λ x. made x (term_or terms f.b) (term_or terms f.c) (term_or terms f.d)) g
    ∙ ap (λ x. made q.graph x (term_or terms f.c) (term_or terms f.d)) (term_there terms u q.subject f.b f.subject)
    ∙ ap (λ x. made q.graph q.subject x (term_or terms f.d)) (term_there terms u q.predicate f.c f.predicate)
    ∙ ap (λ x. made q.graph q.subject q.predicate x) (term_there terms u q.object f.d f.object)

-- a number that is in use has a term
pub in_use : (terms : List Term) (n : ℕ) → IsInUse terms n → term_at terms n ≡ Some (term_or terms n)
in_use terms zero h = absurd (omega (arith, h.0))
in_use terms (suc i) h = let e = slice_get-get_or terms i (Blank 0) (omega (arith, h.1)) in e ∙ ap Some (sym (ap or_blank e))

number_back : (terms : List Term) → Distinct same_term terms → (n : ℕ) → IsInUse terms n → number_of terms (term_or terms n) ≡ Some n
number_back terms u n h = (exact_number terms (term_or terms n) u n).1 (in_use terms n h)

pub graph_back : (terms : List Term) → Distinct same_term terms → (n : ℕ) → n ≤ length terms → graph_number terms (term_at terms n) ≡ Some n
graph_back terms u zero h = refl
graph_back terms u (suc n) h =
    let i : IsInUse terms (suc n) = (omega arith, h) in
    ap (graph_number terms) (in_use terms (suc n) i) ∙ number_back terms u (suc n) i

-- and each entry is found again by what it says: entries and their quads are one to one
pub entry_found : (terms : List Term) (e : List ℕ) → Distinct same_term terms → IsEntryOf terms e → entry_of terms (statement_of terms e) ≡ Some e
entry_found terms [] u h = absurd h
entry_found terms (g ∷ []) u h = absurd h
entry_found terms (g ∷ s ∷ []) u h = absurd h
entry_found terms (g ∷ s ∷ p ∷ []) u h = absurd h
entry_found terms (g ∷ s ∷ p ∷ o ∷ x ∷ e) u h = absurd h
entry_found terms (g ∷ s ∷ p ∷ o ∷ []) u h =
    rw (graph_back terms u g h.graph, number_back terms u s h.subject, number_back terms u p h.predicate, number_back terms u o h.object) refl

-- an entry that says the quad
pub record Says (terms : List Term) (entries : List (List ℕ)) (q : Statement) : Type 0 where
  pub entry : List ℕ
  pub stands : Contains entries entry
  pub says : statement_of terms entry ≡ q

-- the members of what entries say
pub member_of_said : (terms : List Term) (q : Statement) (entries : List (List ℕ)) → Contains (said terms entries) q → Says terms entries q
member_of_said terms q [] c = absurd (nothing _ c)
member_of_said terms q (x ∷ xs) c =
    ⊎_elim (λ h. record { entry = x; stands = here x xs; says = h }) (λ t. let m = member_of_said terms q xs t in record { entry = m.entry; stands = there x m.entry xs m.stands; says = m.says }) (head_or_tail (statement_of terms x) (said terms xs) q c)

pub said_has : (terms : List Term) (x : List ℕ) (entries : List (List ℕ)) → Contains entries x → Contains (said terms entries) (statement_of terms x)
said_has terms x [] c = absurd (nothing _ c)
said_has terms x (y ∷ ys) c =
    ⊎_elim (λ h. subst (λ z. Contains (said terms (y ∷ ys)) (statement_of terms z)) h (here (statement_of terms y) (said terms ys)))
    (λ t. there (statement_of terms y) (statement_of terms x) (said terms ys) (said_has terms x ys t)) (head_or_tail y ys x c)

-- a quad is among those that the entries say exactly where its entry is among them
pub said_exactly : (terms : List Term) (entries : List (List ℕ)) (q : Statement) (e : List ℕ) → Distinct same_term terms → AreEntries terms entries → entry_of terms q ≡ Some e → Contains entries e ↔ Contains (said terms entries) q
said_exactly terms entries q e u all h = (
  λ m. subst (Contains (said terms entries)) (entry_says terms q e u h) (said_has terms e entries m),
  λ m. let f = member_of_said terms q entries m in
      let found = entry_found terms f.entry u (all f.entry f.stands) in
      subst (Contains entries) (same_Some f.entry e (sym found ∙ ap (entry_of terms) f.says ∙ h)) f.stands,
)

pub not_said : (terms : List Term) (entries : List (List ℕ)) (q : Statement) → Distinct same_term terms → AreEntries terms entries → entry_of terms q ≡ None → Contains (said terms entries) q → ⊥
not_said terms entries q u all h m =
    let f = member_of_said terms q entries m in
    none-some f.entry (sym h ∙ ap (entry_of terms) (sym f.says) ∙ entry_found terms f.entry u (all f.entry f.stands))

-- more terms leave what an entry says
pub still_entry : (old new : List Term) (x : List ℕ) → length old ≤ length new → ((n : ℕ) → n ≤ length old → term_at new n ≡ term_at old n) → IsEntryOf old x → IsEntryOf new x × (statement_of new x ≡ statement_of old x)
still_entry old new [] l k h = absurd h
still_entry old new (g ∷ []) l k h = absurd h
still_entry old new (g ∷ s ∷ []) l k h = absurd h
still_entry old new (g ∷ s ∷ p ∷ []) l k h = absurd h
still_entry old new (g ∷ s ∷ p ∷ o ∷ x ∷ e) l k h = absurd h
still_entry old new (g ∷ s ∷ p ∷ o ∷ []) l k h =
    let a = k g h.graph in
    let b = ap or_blank (k s h.subject.1) in
    let c = ap or_blank (k p h.predicate.1) in
    let d = ap or_blank (k o h.object.1) in (
      record {
        graph = omega (arith, l, h.graph);
        subject = (h.subject.0, omega (arith, l, h.subject.1));
        predicate = (h.predicate.0, omega (arith, l, h.predicate.1));
        object = (h.object.0, omega (arith, l, h.object.1));
        fits = rw (a, b, c) h.fits;
      },
      rw (a, b, c, d) refl,
    )

pub still_entries : (old new : List Term) (entries : List (List ℕ)) → length old ≤ length new → ((n : ℕ) → n ≤ length old → term_at new n ≡ term_at old n) → AreEntries old entries → AreEntries new entries
still_entries old new entries l k h x m = (still_entry old new x l k (h x m)).0

-- the same where the old terms are the front of the new ones
pub whole_entries : (terms : List Term) (known : ℕ) (entries : List (List ℕ)) → known ≤ length terms → AreEntries (take known terms) entries → AreEntries terms entries
whole_entries terms known entries l h =
    let short : length (take known terms) ≡ known = length-take-le known terms l in
    still_entries (take known terms) terms entries (omega (arith, short, l)) (λ n m. sym (keeps_front known terms n (omega (arith, short, m)))) h

none_front : (p : Term → Bool) (k : ℕ) (xs : List Term) → list_any p xs ≡ false → list_any p (take k xs) ≡ false
none_front p zero xs h = refl
none_front p (suc k) [] h = refl
none_front p (suc k) (x ∷ xs) h = rw (or_left_false (p x) (list_any p xs) h) (none_front p k xs (or_right_false (p x) (list_any p xs) h))

pub Distinct-front : (k : ℕ) (xs : List Term) → Distinct same_term xs → Distinct same_term (take k xs)
Distinct-front zero xs u = tt
Distinct-front (suc k) [] u = tt
Distinct-front (suc k) (x ∷ xs) u = (none_front (same_term x) k xs u.0, Distinct-front k xs u.1)

length-take-most : (k : ℕ) (xs : List Term) → length (take k xs) ≤ k
length-take-most zero xs = omega arith
length-take-most (suc k) [] = omega arith
length-take-most (suc k) (x ∷ xs) = omega (arith, length-take-most k xs)

past_front : (k : ℕ) (xs : List Term) (n : ℕ) (t : Term) → term_at (take k xs) n ≡ Some t → n ≤ k
past_front k xs zero t h = absurd (none-some t h)
past_front k xs (suc i) t h = omega (arith, slice_get_within (take k xs) i t h, length-take-most k xs)

-- a term's number among the first terms
pub found_front : (terms : List Term) (known : ℕ) (t : Term) (n : ℕ) → Distinct same_term terms → number_of terms t ≡ Some n → n ≤ known → Some n ≡ number_of (take known terms) t
found_front terms known t n u h l =
    sym ((exact_number (take known terms) t (Distinct-front known terms u) n).1 (keeps_front known terms n l ∙ (exact_number terms t u n).0 h))

number_none : (r : Option ℕ) → ((n : ℕ) → r ≡ Some n → ⊥) → None ≡ r
number_none None f = refl
number_none (Some n) f = absurd (f n refl)

pub found_behind : (terms : List Term) (known : ℕ) (t : Term) (n : ℕ) → Distinct same_term terms → number_of terms t ≡ Some n → known < n → None ≡ number_of (take known terms) t
found_behind terms known t n u h l =
    number_none (number_of (take known terms) t) (λ m e.
    let at = (exact_number (take known terms) t (Distinct-front known terms u) m).0 e in
    let w = past_front known terms m t at in
    let again = (exact_number terms t u m).1 (sym (keeps_front known terms m w) ∙ at) in
    omega (arith, same_Some m n (sym again ∙ h), w, l))

pub found_nowhere : (terms : List Term) (known : ℕ) (t : Term) → Distinct same_term terms → number_of terms t ≡ None → None ≡ number_of (take known terms) t
found_nowhere terms known t u h =
    number_none (number_of (take known terms) t) (λ m e.
    let at = (exact_number (take known terms) t (Distinct-front known terms u) m).0 e in
    none-some m (sym h ∙ (exact_number terms t u m).1 (sym (keeps_front known terms m (past_front known terms m t at)) ∙ at)))

pub still_said : (old new : List Term) (entries : List (List ℕ)) → length old ≤ length new → ((n : ℕ) → n ≤ length old → term_at new n ≡ term_at old n) → AreEntries old entries → said new entries ≡ said old entries
still_said old new [] l k h = refl
still_said old new (x ∷ xs) l k h =
    let a = (still_entry old new x l k (h x (here x xs))).1 in
    let b = still_said old new xs l k (λ y m. h y (there x y xs m)) in
    ap (λ s. s ∷ said new xs) a ∙ ap (λ r. statement_of old x ∷ r) b

-- a cut leaves what is said in terms that it leaves
pub said_front : (terms : List Term) (known : ℕ) (entries : List (List ℕ)) → known ≤ length terms → AreEntries (take known terms) entries → said (take known terms) entries ≡ said terms entries
said_front terms known entries l h =
    let short : length (take known terms) ≡ known = length-take-le known terms l in
    sym (still_said (take known terms) terms entries (omega (arith, short, l)) (λ n m. sym (keeps_front known terms n (omega (arith, short, m)))) h)

pub twice_front : (k : ℕ) (xs : List Term) → take k (take k xs) ≡ take k xs
twice_front zero xs = refl
twice_front (suc k) [] = refl
twice_front (suc k) (x ∷ xs) = ap (λ r. x ∷ r) (twice_front k xs)

-- a quad's entry, where its terms have numbers
pub record EntryFor (terms : List Term) (quads : List Statement) (x : List ℕ) : Type 0 where
  pub quad : Statement
  pub stands : Contains quads quad
  pub found : entry_of terms quad ≡ Some x

pub number_in_use : (terms : List Term) → Distinct same_term terms → (t : Term) (n : ℕ) → number_of terms t ≡ Some n → IsInUse terms n
number_in_use terms u t zero h = absurd (none-some t ((exact_number terms t u zero).0 h))
number_in_use terms u t (suc i) h = let w = slice_get_within terms i t ((exact_number terms t u (suc i)).0 h) in (omega arith, omega (arith, w))

pub graph_in_use : (terms : List Term) → Distinct same_term terms → (g : Option Term) (n : ℕ) → graph_number terms g ≡ Some n → n ≤ length terms
graph_in_use terms u None n h = omega (arith, same_Some _ _ h)
graph_in_use terms u (Some t) n h = (number_in_use terms u t n h).1

-- the entry of a lawful quad is one over the terms
pub entry_is : (terms : List Term) (q : Statement) (e : List ℕ) → Distinct same_term terms → IsTrue (fits_places q.graph q.subject q.predicate) → entry_of terms q ≡ Some e → IsEntryOf terms e
entry_is terms q e u l h =
    let f = four_some (graph_number terms q.graph) (number_of terms q.subject) (number_of terms q.predicate) (number_of terms q.object) e h in
    let placed : IsPlaced terms f.a f.b f.c f.d = record {
      graph = graph_in_use terms u q.graph f.a f.graph;
      subject = number_in_use terms u q.subject f.b f.subject;
      predicate = number_in_use terms u q.predicate f.c f.predicate;
      object = number_in_use terms u q.object f.d f.object;
      fits = rw (graph_at terms u q.graph f.a f.graph, term_there terms u q.subject f.b f.subject, term_there terms u q.predicate f.c f.predicate) l;
    } in
    subst (IsEntryOf terms) (sym f.entry) placed

pub said_more : (terms : List Term) (xs ys : List (List ℕ)) → ((x : List ℕ) → Contains xs x → Contains ys x) → (q : Statement) → Contains (said terms xs) q → Contains (said terms ys) q
said_more terms xs ys h q m = let f = member_of_said terms q xs m in subst (Contains (said terms ys)) f.says (said_has terms f.entry ys (h f.entry f.stands))
