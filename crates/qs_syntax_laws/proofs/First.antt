-- The fault that is told is the first.
use Rattle.std.proofs.Common.{◌≡◌, ◌≤◌, ◌<◌, ◌⊎◌, inl, inr, ℕ, Bool, true, false, List, [], ◌∷◌, ◌++◌, Option, Some, None, Ok, Err, Result, refl, sym, ap, ◌∙◌, subst, arith}
use Rattle.std.proofs.lemmas.Bool.{ltb-true, ltb-false}
use Rattle.std.specs.Prelude.{nat_lt, if◌then◌else◌}
use Rattle.std.specs.List.{AllByRecursion, Contains, before_first, after_first}
use Rattle.std.specs.Map.{lookup}
use Rattle.std.specs.Str.{bytes_eq}
use Rattle.qs_lex_escapes.specs.Piece.{piece}
use Rattle.qs_terms.specs.Outcome.{Outcome, and_then}
use Rattle.qs_terms.specs.declared.fault.QFault.{QFault}
use Rattle.qs_terms.specs.declared.fault.QFault.TheVariants as fault
use Rattle.qs_terms.specs.declared.fault.TermFault.{TermFault}
use Rattle.qs_syntax_resolve.specs.Names.{Names, full, prefixed, declare}
use Rattle.qs_syntax_resolve.specs.inner.Names.{absolute, joined, is_colon, with_prefix}
use Rattle.qs_syntax_resolve.specs.declared.resolver.Resolver.{Resolver}
use Rattle.qs_syntax.specs.Outcome.{by_place, earlier, nearer, in_scope}
use Rattle.qs_syntax_tree.specs.declared.token.Span.{Span}
use Rattle.qs_syntax_tree.specs.declared.token.Token.{Token}
use Rattle.qs_syntax_laws.specs.inner.NameFaults.{Role, iri, name, prefix, keyword, nothing, role, Before, anything, declares, declared, at_token, kept, fault_of, Place, look, behind, faults_from, at}
use Rattle.qs_syntax_laws.specs.inner.TellsFirst.{place_of, IsNameFirst, IsLimitFirst, IsBeyond, TellsFirst}
use Rattle.qs_syntax_laws.proofs.Ascending.{Ascends}
use Rattle.qs_syntax_laws.proofs.Walks.{Comes}

-- a fault of a name at the place, if there is one
abbrev pub IsOf : ℕ → QFault → Type 0
IsOf place f = (f ≡ fault.Prefix place) ⊎ (f ≡ fault.RelativeIri place)

abbrev IsAt : {A : Type 0} → ℕ → Outcome A → Type 0
IsAt place (Ok a) = Unit {0}
IsAt place (Err f) = IsOf place f

absolute_at : (place : ℕ) (r : Result (List ℕ) TermFault) → IsAt place (absolute place r)
absolute_at place (Ok i) = tt
absolute_at place (Err f) = inr refl

full_at : (text : List ℕ) (span : Span) → IsAt span.start (full text span)
unfolding full
full_at text span = absolute_at span.start _

joined_at : (place : ℕ) (i : Option (List ℕ)) (local : List ℕ) → IsAt place (joined place i local)
joined_at place None local = inl refl
joined_at place (Some i) local = absolute_at place _

prefixed_at : (names : Names) (span : Span) → IsAt span.start (prefixed names span)
unfolding prefixed
prefixed_at names span =
    let text : List ℕ = piece names.text span.start span.end in
    joined_at span.start (lookup (bytes_eq (before_first is_colon text)) names.prefixes) (after_first is_colon text)

with_prefix_at : (names : Names) (p : List ℕ) (place : ℕ) (i : Outcome (List ℕ)) → IsAt place i → IsAt place (with_prefix names p i)
with_prefix_at names p place (Ok i) h = tt
with_prefix_at names p place (Err f) h = h

kept_at : {A : Type 0} (names : Names) (place : ℕ) (o : Outcome A) → IsAt place o → IsAt place (kept names o)
kept_at names place (Ok a) h = tt
kept_at names place (Err f) h = h

look_at : (names : Names) (before : Before) (r : Role) (span : Span) → IsAt span.start (at_token names before r span)
unfolding declare
look_at names (declared p) iri span = with_prefix_at names _ span.start (full names.text span) (full_at names.text span)
look_at names anything iri span = kept_at names span.start (full names.text span) (full_at names.text span)
look_at names declares iri span = kept_at names span.start (full names.text span) (full_at names.text span)
look_at names before name span = kept_at names span.start (prefixed names span) (prefixed_at names span)
look_at names anything prefix span = kept_at names span.start (prefixed names span) (prefixed_at names span)
look_at names declares prefix span = tt
look_at names (declared p) prefix span = kept_at names span.start (prefixed names span) (prefixed_at names span)
look_at names before keyword span = tt
look_at names before nothing span = tt

-- ---- the faults of a text ascend

named_place : (place : ℕ) (f : QFault) → IsOf place f → place_of f ≡ place
named_place place f (inl e) = ap place_of e
named_place place f (inr e) = ap place_of e

abbrev AllFrom : ℕ → List QFault → Type 0
AllFrom place fs = AllByRecursion (λ (f : QFault). place ≤ place_of f) fs

-- the first has the least place, and is a name's
abbrev pub FirstIsLeast : List QFault → Type 0
FirstIsLeast [] = Unit {0}
FirstIsLeast (f ∷ fs) = ((place : ℕ) × IsOf place f) × AllFrom (place_of f) fs

fault_from : (place at : ℕ) (o : Outcome Names) (fs : List QFault) → place ≤ at → IsAt at o → AllFrom place fs → AllFrom place (fault_of o ++ fs)
fault_from place at (Ok names) fs le h k = k
fault_from place at (Err f) fs le h k = (let e = named_place at f h in omega (arith, e, le), k)

faults_later : (place : ℕ) (p : Place) (ts : List Token) → AllByRecursion (λ (u : Token). place ≤ u.span.start) ts → AllFrom place (faults_from p ts)
faults_later place p [] h = tt
faults_later place p (t ∷ ts) h = fault_from place t.span.start (look p t) (faults_from (behind p t) ts) h.0 (look_at p.names p.before (role t.kind) t.span) (faults_later place (behind p t) ts h.1)

first_of_two : (at : ℕ) (o : Outcome Names) (fs : List QFault) → IsAt at o → AllFrom at fs → FirstIsLeast fs → FirstIsLeast (fault_of o ++ fs)
first_of_two at (Ok names) fs h k l = l
first_of_two at (Err f) fs h k l = ((at, h), subst (λ n. AllFrom n fs) (sym (named_place at f h)) k)

pub first_is_least : (p : Place) (ts : List Token) → Ascends ts → FirstIsLeast (faults_from p ts)
first_is_least p [] h = tt
first_is_least p (t ∷ ts) h =
    first_of_two t.span.start (look p t) (faults_from (behind p t) ts) (look_at p.names p.before (role t.kind) t.span) (faults_later t.span.start (behind p t) ts h.0)
    (first_is_least (behind p t) ts h.1)

-- ---- what is told

-- no fault, or the first
abbrev pub Met : {A : Type 0} → List QFault → Outcome (A × Resolver) → Type 0
Met faults (Ok r) = faults ≡ []
Met faults (Err f) = (rest : List QFault) × (faults ≡ f ∷ rest)

scope_tested : {A : Type 0} (b : Bool) (a : A) → IsBeyond (if b then Ok a else Err fault.Scope)
scope_tested true a = tt
scope_tested false a = refl

pub scope_is_beyond : {A : Type 0} (keeps : A → Bool) (a : A) → IsBeyond (in_scope keeps a)
scope_is_beyond keeps a = scope_tested (keeps a) a

module _ {A B : Type 0} (settle : A → Outcome B) (beyond : (a : A) → IsBeyond (settle a)) where
  abbrev Told : Outcome (Option A) → Option ℕ → Outcome B
  Told resolved limit = and_then (by_place resolved limit) settle

  module _ (faults : List QFault) (limit : Option ℕ) where
    told_beyond : (found : Option A) → IsBeyond (Told (Ok found) None)
    told_beyond None = refl
    told_beyond (Some a) = beyond a

    -- no name is faulty
    no_fault : (found : Option A) → faults ≡ [] → (l : Option ℕ) → limit ≡ l → TellsFirst faults limit (Told (Ok found) l)
    no_fault found e None q = inr (inr (e, q, told_beyond found))
    no_fault found e (Some place) q = inr (inl (place, refl, record { is_passed = q; no_name = subst (AllByRecursion (λ (g : QFault). place < place_of g)) (sym e) tt }))

    module _ (f : QFault) (rest : List QFault) (is : faults ≡ f ∷ rest) (least : AllFrom (place_of f) rest) where
      contains : Contains faults f
      contains = subst (λ (fs : List QFault). Contains fs f) (sym is) (0, omega arith, refl)

      above : (n : ℕ) (fs : List QFault) → n < place_of f → AllFrom (place_of f) fs → AllByRecursion (λ (g : QFault). n < place_of g) fs
      above n [] lt h = tt
      above n (g ∷ fs) lt h = (let k = h.0 in omega (arith, k, lt), above n fs lt h.1)

      all_from : AllFrom (place_of f) faults
      all_from = subst (AllFrom (place_of f)) (sym is) (omega arith, least)

      name_first : ((place : ℕ) → limit ≡ Some place → place_of f ≤ place) → IsNameFirst faults limit f
      name_first h = record { is_one = contains; no_name = all_from; no_limit = h }

      limit_first : (place : ℕ) → limit ≡ Some place → place < place_of f → IsLimitFirst faults limit place
      limit_first place q lt = record { is_passed = q; no_name = subst (AllByRecursion (λ (g : QFault). place < place_of g)) (sym is) (lt, above place rest lt least) }

      of_limit : (at place : ℕ) → place_of f ≡ at → limit ≡ Some place → (b : Bool) → nat_lt place at ≡ b → TellsFirst {A = B} faults limit (Err (if b then (fault.TooLarge place) else f))
      of_limit at place e q true l = inr (inl (place, refl, limit_first place q (let k = ltb-true place at l in omega (arith, k, e))))
      of_limit at place e q false l = inl (f, refl, name_first (λ other r. (let k = ltb-false place at l in let s : Some place ≡ Some other = sym q ∙ r in let i : place ≡ other = cc in omega (arith, k, e, i))))

      nearer_is : (at : ℕ) → place_of f ≡ at → (l : Option ℕ) → limit ≡ l → TellsFirst {A = B} faults limit (Err (nearer f at l))
      nearer_is at e None q = inl (f, refl, name_first (λ place r. absurd (let s : None ≡ Some place = sym q ∙ r in cc)))
      nearer_is at e (Some place) q = of_limit at place e q (nat_lt place at) refl

      one_fault : (l : Option ℕ) → limit ≡ l → (place : ℕ) → IsOf place f → TellsFirst faults limit (Told (Err f) l)
      one_fault l q place (inl e) = subst (λ z. TellsFirst {A = B} faults limit (Err z)) (sym (ap (λ z. earlier z l) e ∙ ap (λ z. nearer z place l) (sym e))) (nearer_is place (ap place_of e) l q)
      one_fault l q place (inr e) = subst (λ z. TellsFirst {A = B} faults limit (Err z)) (sym (ap (λ z. earlier z l) e ∙ ap (λ z. nearer z place l) (sym e))) (nearer_is place (ap place_of e) l q)

    pub by_walk : (o : Outcome (A × Resolver)) (lawful : A → Resolver → Option A) → Met faults o → FirstIsLeast faults → TellsFirst faults limit (Told (and_then o (λ r. Ok (lawful r.0 r.1))) limit)
    by_walk (Ok r) lawful h k = no_fault (lawful r.0 r.1) h limit refl
    by_walk (Err f) lawful h k = let l = subst FirstIsLeast h.1 k in one_fault f h.0 h.1 l.1 limit refl l.0.0 l.0.1

pub met : {A : Type 0} (s : Resolver) (ts : List Token) (o : Outcome (A × Resolver)) → Comes s ts o → Met (faults_from (at s.names) ts) o
met s ts (Ok r) h = h.0
met s ts (Err f) h = h

-- ---- what is changed at the end changes no fault

still_beyond : {B : Type 0} (list : B → B) (o : Outcome B) → IsBeyond o → IsBeyond (and_then o (λ b. Ok (list b)))
still_beyond list (Ok b) h = tt
still_beyond list (Err f) h = h

pub still_told : {B : Type 0} (list : B → B) (faults : List QFault) (limit : Option ℕ) (o : Outcome B) → TellsFirst faults limit o → TellsFirst faults limit (and_then o (λ b. Ok (list b)))
still_told list faults limit o (inl h) = inl (h.0, rw h.1 refl, h.2)
still_told list faults limit o (inr (inl h)) = inr (inl (h.0, rw h.1 refl, h.2))
still_told list faults limit o (inr (inr h)) = inr (inr (h.0, h.1, still_beyond list o h.2))
