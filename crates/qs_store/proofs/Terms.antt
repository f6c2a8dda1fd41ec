-- Lists of known terms that grow.
use Rattle.std.proofs.Common.{◌≡◌, ℕ, suc, ◌+◌, ◌<◌, ◌≤◌, Bool, true, false, if◌then◌else◌, List, [], ◌∷◌, ◌++◌, append-nil, append_assoc, length, length-append, map, take, Option, Some, None, refl, ap, sym, ◌∙◌, subst, arith}
use Rattle.std.proofs.Math.Seq.{take-append_seam}
use Rattle.std.proofs.lemmas.List.{take-append-le, take_more, take-append-drop}
use Rattle.std.proofs.Common.{get_or, drop}
use Rattle.std.proofs.lemmas.List.{map-append}
use Rattle.std.proofs.lemmas.Grind.{flat_map-append}
use Rattle.std.specs.List.{flat_map, cons_option, list_any}
use Rattle.qs_terms.specs.Bag.{Distinct, with_new}
use Rattle.qs_terms.specs.Term.{same_term}
use Rattle.qs_terms.specs.Statement.{Statement}
use Rattle.qs_terms.specs.declared.term.Term.{Term}
use Rattle.qs_dict.specs.inner.Dict.{term_at, number_of}
use Rattle.qs_dict.proofs.Numbers.{exact_number, keeps_front}
use Rattle.std.specs.List.{slice_get}
use Rattle.std.proofs.Common.{◌||◌}
use Rattle.std.proofs.lemmas.Bool.{false≢true}
use Rattle.std.proofs.lemmas.Option.{none-some}
use Rattle.qs_terms.proofs.SameTerm.{same_term-Decides}
use Rattle.qs_dict.specs.declared.fault.DictFault.{DictFault}
use Rattle.qs_dict.specs.declared.fault.DictFault.TheVariants as dict_fault
use Rattle.qs_dict.specs.declared.fault.DictFault.TheVariants.{Full, Memory}
use Rattle.qs_store.specs.inner.Fault.{store_fault_of}
use Rattle.qs_store.specs.Change.{terms_of, with_terms_of}
use Rattle.qs_store.specs.inner.Change.{with_terms}
use Rattle.qs_store.specs.inner.Change.{IsFullAt}
use Rattle.qs_store.proofs.Entries.{four_some, number_in_use, Distinct-front}
use Rattle.qs_store.specs.inner.Entries.{entry_of, graph_number}
use Rattle.qs_store.specs.inner.Content.{AreLawful}
use Rattle.qs_store.specs.inner.Store.{IsFront}
use Rattle.std.proofs.Common.{IsTrue, ⊎_elim}
use Rattle.std.specs.List.{Contains}
use Rattle.std.proofs.lemmas.List.Elements.{Contains-append_cases}
use Rattle.qs_terms.specs.Statement.{fits_places}
use Rattle.qs_store.proofs.Members.{nothing, head_or_tail}

pub front_refl : (terms : List Term) → IsFront terms terms
front_refl terms = record { more = []; is = sym (append-nil terms) }

pub front_trans : (a b c : List Term) → IsFront a b → IsFront b c → IsFront a c
front_trans a b c f g = record { more = f.more ++ g.more; is = g.is ∙ ap (λ t. t ++ g.more) f.is ∙ append_assoc a f.more g.more }

front_with : (terms : List Term) (t : Term) → IsFront terms (with_new same_term terms t)
front_with terms t = by (list_any (same_term t) terms)
  where
    by : (b : Bool) → IsFront terms (if b then terms else terms ++ t ∷ [])
    by true = record { more = []; is = sym (append-nil terms) }
    by false = record { more = t ∷ []; is = refl }

pub front_terms : (terms more : List Term) → IsFront terms (with_terms terms more)
front_terms terms [] = front_refl terms
front_terms terms (t ∷ ts) =
    front_trans terms (with_new same_term terms t) (with_terms (with_new same_term terms t) ts) (front_with terms t) (front_terms (with_new same_term terms t) ts)

pub front_length : (a b : List Term) → IsFront a b → length a ≤ length b
front_length a b f = omega (arith, ap length f.is, length-append a f.more)

pub front_take : (a b : List Term) → IsFront a b → take (length a) b ≡ a
front_take a b f = ap (take (length a)) f.is ∙ take-append_seam a f.more

pub front_take_less : (k : ℕ) (a b : List Term) → IsFront a b → k ≤ length a → take k b ≡ take k a
front_take_less k a b f h = ap (take k) f.is ∙ take-append-le k a f.more h

-- terms keep their numbers
pub front_keeps : (a b : List Term) → IsFront a b → (n : ℕ) → n ≤ length a → term_at b n ≡ term_at a n
front_keeps a b f n h = sym (keeps_front (length a) b n h) ∙ ap (λ t. term_at t n) (front_take a b f)

pub with_terms_more : (terms xs ys : List Term) → with_terms (with_terms terms xs) ys ≡ with_terms terms (xs ++ ys)
with_terms_more terms [] ys = refl
with_terms_more terms (x ∷ xs) ys = with_terms_more (with_new same_term terms x) xs ys

-- the known terms and those of one quad
pub with_quad : (terms : List Term) (g : Option Term) (rest : List Term) → with_terms terms (cons_option g rest) ≡ with_terms (with_terms terms (cons_option g [])) rest
with_quad terms None rest = refl
with_quad terms (Some t) rest = refl

flat_map_push : (qs : List Statement) (q : Statement) → flat_map terms_of (qs ++ q ∷ []) ≡ flat_map terms_of qs ++ terms_of q
flat_map_push [] q = append-nil (terms_of q)
flat_map_push (r ∷ qs) q = ap (λ l. terms_of r ++ l) (flat_map_push qs q) ∙ sym (append_assoc (terms_of r) (flat_map terms_of qs) (terms_of q))

pub more_of : (terms : List Term) (quads : List Statement) (q : Statement) → with_terms (with_terms_of terms quads) (terms_of q) ≡ with_terms_of terms (quads ++ q ∷ [])
more_of terms quads q = with_terms_more terms (flat_map terms_of quads) (terms_of q) ∙ ap (with_terms terms) (sym (flat_map_push quads q))

pub longer : (terms more : List Term) → length terms ≤ length (with_terms terms more)
longer terms more = front_length terms (with_terms terms more) (front_terms terms more)

pub distinct_front : (a b : List Term) → IsFront a b → Distinct same_term b → Distinct same_term a
distinct_front a b f u = subst (Distinct same_term) (front_take a b f) (Distinct-front (length a) b u)

-- a term keeps its number
pub number_later : (a b : List Term) (t : Term) (n : ℕ) → IsFront a b → Distinct same_term b → number_of a t ≡ Some n → number_of b t ≡ Some n
number_later a b t n f u h =
    let ua = distinct_front a b f u in
    (exact_number b t u n).1 (front_keeps a b f n (number_in_use a ua t n h).1 ∙ (exact_number a t ua n).0 h)

pub graph_later : (a b : List Term) (g : Option Term) (n : ℕ) → IsFront a b → Distinct same_term b → graph_number a g ≡ Some n → graph_number b g ≡ Some n
graph_later a b None n f u h = h
graph_later a b (Some t) n f u h = number_later a b t n f u h

-- the entry whose numbers were found one after another
pub entry_in_steps : (a b c d : List Term) (q : Statement) (g s p o : ℕ) → IsFront a b → IsFront b c → IsFront c d → Distinct same_term d → graph_number a q.graph ≡ Some g → number_of b q.subject ≡ Some s → number_of c q.predicate ≡ Some p → number_of d q.object ≡ Some o → entry_of d q ≡ Some (g ∷ s ∷ p ∷ o ∷ [])
entry_in_steps a b c d q g s p o f1 f2 f3 u hg hs hp ho =
    let bd = front_trans b c d f2 f3 in
    let ad = front_trans a b d f1 bd in
    rw (graph_later a d q.graph g ad u hg, number_later b d q.subject s bd u hs, number_later c d q.predicate p f3 u hp, ho) refl

-- a quad keeps its entry
pub entry_later : (a b : List Term) (q : Statement) (e : List ℕ) → IsFront a b → Distinct same_term b → entry_of a q ≡ Some e → entry_of b q ≡ Some e
entry_later a b q e f u h =
    let w = four_some (graph_number a q.graph) (number_of a q.subject) (number_of a q.predicate) (number_of a q.object) e h in
    rw (graph_later a b q.graph w.a f u w.graph, number_later a b q.subject w.b f u w.subject, number_later a b q.predicate w.c f u w.predicate, number_later a b q.object w.d f u w.object) (ap Some (sym w.entry))

cons_parts : {X : Type 0} (x y : X) (xs ys : List X) → x ∷ xs ≡ y ∷ ys → (x ≡ y) × (xs ≡ ys)
cons_parts x y xs ys e = (cc, cc)

pub entries_later : (a b : List Term) (qs : List Statement) (es : List (List ℕ)) → IsFront a b → Distinct same_term b → map (entry_of a) qs ≡ map Some es → map (entry_of b) qs ≡ map Some es
entries_later a b [] es f u h = h
entries_later a b (q ∷ qs) [] f u h = absurd (let e = h in cc)
entries_later a b (q ∷ qs) (e ∷ es) f u h =
    let p = cons_parts (entry_of a q) (Some e) (map (entry_of a) qs) (map Some es) h in
    rw (entry_later a b q e f u p.0) (ap (λ r. Some e ∷ r) (entries_later a b qs es f u p.1))

record Place (terms : List Term) (t : Term) : Type 0 where
  at : ℕ
  is : slice_get terms at ≡ Some t

place_of : (terms : List Term) (t : Term) → list_any (same_term t) terms ≡ true → Place terms t
place_of [] t h = absurd (false≢true h)
place_of (x ∷ xs) t h = at_test (same_term t x) refl (λ k. place_of xs t k) h
  where
    at_test : (b : Bool) → same_term t x ≡ b → (list_any (same_term t) xs ≡ true → Place xs t) → (b || list_any (same_term t) xs) ≡ true → Place (x ∷ xs) t
    at_test true e i k = record { at = 0; is = ap Some (sym ((same_term-Decides t x).0 e)) }
    at_test false e i k = let m = i k in record { at = suc m.at; is = m.is }

absent : (terms : List Term) (t : Term) → Distinct same_term terms → number_of terms t ≡ None → list_any (same_term t) terms ≡ false
absent terms t u h = at_test (list_any (same_term t) terms) refl
  where
    at_test : (b : Bool) → list_any (same_term t) terms ≡ b → b ≡ false
    at_test true e = let m = place_of terms t e in absurd (none-some _ (sym h ∙ (exact_number terms t u (suc m.at)).1 m.is))
    at_test false e = refl

-- a dictionary is full exactly where a new term has no room
pub put_full : (f : DictFault) (terms : List Term) (t : Term) (limit : ℕ) → Distinct same_term terms → (f ≡ dict_fault.Full → (number_of terms t ≡ None) × (length terms ≡ limit)) → IsFullAt (store_fault_of f) limit (length (with_new same_term terms t))
put_full Memory terms t limit u h = tt
put_full Full terms t limit u h =
    let w = h refl in
    rw (absent terms t u w.0) (omega (arith, w.1, length-append terms (t ∷ [])))

taken : (qs : List Statement) (i : ℕ) (q : Statement) → i < length qs → q ≡ get_or qs i q → take (i + 1) qs ≡ take i qs ++ q ∷ []
taken qs i q h s = take_more qs i q h ∙ ap (λ z. take i qs ++ z ∷ []) (sym s)

-- one quad more has its entry
pub numbered_more : (a b : List Term) (qs : List Statement) (i : ℕ) (q : Statement) (es : List (List ℕ)) (e : List ℕ) → i < length qs → q ≡ get_or qs i q → IsFront a b → Distinct same_term b → map (entry_of a) (take i qs) ≡ map Some es → entry_of b q ≡ Some e → map (entry_of b) (take (i + 1) qs) ≡ map Some (es ++ e ∷ [])
numbered_more a b qs i q es e h s f u m n =
    ap (map (entry_of b)) (taken qs i q h s) ∙ map-append (entry_of b) (take i qs) (q ∷ []) ∙ ap (λ l. l ++ entry_of b q ∷ []) (entries_later a b (take i qs) es f u m) ∙ ap (λ x. map Some es ++ x ∷ []) n ∙ sym (map-append Some es (e ∷ []))

pub terms_more : (first a b : List Term) (qs : List Statement) (i : ℕ) (q : Statement) → i < length qs → q ≡ get_or qs i q → a ≡ with_terms_of first (take i qs) → b ≡ with_terms a (terms_of q) → b ≡ with_terms_of first (take (i + 1) qs)
terms_more first a b qs i q h s m n =
    n ∙ ap (λ t. with_terms t (terms_of q)) m ∙ more_of first (take i qs) q ∙ ap (with_terms_of first) (sym (taken qs i q h s))

pub no_fewer : (first : List Term) (qs : List Statement) (k : ℕ) → length (with_terms_of first (take k qs)) ≤ length (with_terms_of first qs)
no_fewer first qs k =
    let xs = flat_map terms_of (take k qs) in
    let ys = flat_map terms_of (drop k qs) in
    let whole : with_terms (with_terms first xs) ys ≡ with_terms_of first qs = with_terms_more first xs ys ∙ ap (with_terms first) (sym (flat_map-append terms_of (take k qs) (drop k qs)) ∙ ap (flat_map terms_of) (take-append-drop k qs)) in
    omega (arith, longer (with_terms first xs) ys, ap length whole)

pub lawful_more : (qs : List Statement) (i : ℕ) (q : Statement) → i < length qs → q ≡ get_or qs i q → AreLawful (take i qs) → IsTrue (fits_places q.graph q.subject q.predicate) → AreLawful (take (i + 1) qs)
lawful_more qs i q h s l f r c =
    ⊎_elim (λ t. l r t) (λ t. ⊎_elim (λ z. subst (λ v. IsTrue (fits_places v.graph v.subject v.predicate)) z f) (λ n. absurd (nothing r n)) (head_or_tail q [] r t)) (Contains-append_cases (take i qs) (q ∷ []) r (subst (λ z. Contains z r) (taken qs i q h s) c))
