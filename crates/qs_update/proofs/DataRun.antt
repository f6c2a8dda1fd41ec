-- A run of INSERT DATA and DELETE DATA is one effect: what it makes of a content, the operations make of it one after another.
use Rattle.std.proofs.Common.{◌≡◌, ◌⊎◌, ◌<◌, ◌≤◌, ◌+◌, ◌^◌, ℕ, zero, suc, Bool, true, false, not, ◌||◌, if◌then◌else◌, nat_lt, List, [], ◌∷◌, ◌++◌, length, take, get_or, Ok, Err, IfOk, IsTrue, inl, inr, ⊎_elim, refl, sym, subst, ap, ◌∙◌, arith}
use Rattle.std.specs.List.{Contains, filter, list_any, flat_map}
use Rattle.std.proofs.lemmas.Bool.{false≢true, le-ltb}
use Rattle.std.proofs.lemmas.Bool.Decides.{nat_tests}
use Rattle.std.proofs.lemmas.Grind.{flat_map-append}
use Rattle.std.proofs.lemmas.List.{append-nil, take_more, length-take}
use Rattle.std.proofs.lemmas.List.Elements.{Contains-append_left, Contains-append_right, Contains-append_cases}
use Rattle.std.proofs.lemmas.Map.Views.{Contains-from_any}
use Rattle.qs_terms.specs.Bag.{with_new}
use Rattle.qs_terms.specs.Outcome.{Outcome, and_then}
use Rattle.qs_terms.specs.Dataset.{is_statement_below, is_above_blanks}
use Rattle.qs_terms.specs.Statement.{Statement, same_statement}
use Rattle.qs_terms.specs.declared.fault.QFault.{QFault}
use Rattle.qs_terms.specs.declared.fault.QFault.TheVariants.{Full}
use Rattle.qs_terms.specs.Term.{same_term}
use Rattle.qs_terms.specs.declared.term.Term.{Term}
use Rattle.qs_terms.proofs.SameStatement.{same_statement-Decides}
use Rattle.qs_syntax_ast.specs.declared.update.Operation.{Operation}
use Rattle.qs_syntax_ast.specs.declared.update.Operation.TheVariants as operation
use Rattle.qs_syntax_ast.specs.declared.update.QuadBlock.{QuadBlock}
use Rattle.qs_algebra_solutions.specs.Solution.{unbound}
use Rattle.qs_query_template.specs.Instances.{instances, next_after}
use Rattle.qs_query_template.specs.Template.{template_of_blocks}
use Rattle.qs_query_template.specs.inner.DataBlocks.{inserted, deleted}
use Rattle.qs_store.specs.Change.{IsChanged, KnowsTermsOf, terms_of, with_terms_of}
use Rattle.qs_store.specs.inner.Change.{with_terms}
use Rattle.qs_store.specs.Content.{Content}
use Rattle.qs_store.specs.Same.{SameSet}
use Rattle.qs_store.specs.declared.default_graph.DefaultGraph.{DefaultGraph}
use Rattle.qs_store.proofs.Members.{nothing as no_member, head_or_tail, member_of_filter, filter_has}
use Rattle.qs_update.specs.Effect.{nothing, of_data, IsEffect}
use Rattle.qs_update.specs.inner.Effect.{deletion}
use Rattle.qs_update.specs.Request.{Bounds, IsApplied, IsCarriedOut, IsOperation, AreOperations}
use Rattle.qs_update.specs.inner.DataRun.{with_insertion, with_deletion, IsWith, IsCarriedInTurn, IsEffectOf, AreRefused, IsRun}
use Rattle.qs_update.specs.inner.Lawful.{IsLawful}
use Rattle.qs_update.specs.declared.effect.Effect.{Effect}
use Rattle.qs_update.proofs.Tested.{all_appended}
use Rattle.qs_update.proofs.Turns.{alone, before, in_turn, stopped}

-- ---- quads

has_any : (q : Statement) (quads : List Statement) → Contains quads q → list_any (same_statement q) quads ≡ true
has_any q [] c = absurd (no_member q c)
has_any q (x ∷ xs) c =
    ⊎_elim (λ e. first (same_statement q x) (list_any (same_statement q) xs) ((same_statement-Decides q x).1 (sym e))) (λ t. later (same_statement q x) (list_any (same_statement q) xs) (has_any q xs t)) (head_or_tail x xs q c)
  where
    first : (a b : Bool) → a ≡ true → (a || b) ≡ true
    first true b h = refl
    first false b h = absurd (false≢true h)

    later : (a b : Bool) → b ≡ true → (a || b) ≡ true
    later true b h = refl
    later false b h = h

-- the quads without the removed ones, with the added ones after them
abbrev stays : List Statement → Statement → Bool
stays removed q = not (list_any (same_statement q) removed)

abbrev changed_quads : List Statement → List Statement → List Statement → List Statement
changed_quads old removed added = filter (stays removed) old ++ added

one_stays : (removed : List Statement) (q : Statement) → (Contains removed q → ⊥) → stays removed q ≡ true
one_stays removed q n = at_test (list_any (same_statement q) removed) refl
  where
    at_test : (b : Bool) → list_any (same_statement q) removed ≡ b → not b ≡ true
    at_test true e = absurd (n (Contains-from_any (λ x y. (same_statement-Decides x y).0) q removed e))
    at_test false e = refl

not_removed : (removed : List Statement) (q : Statement) → stays removed q ≡ true → Contains removed q → ⊥
not_removed removed q h c = false≢true (subst (λ (b : Bool). not b ≡ true) (has_any q removed c) h)

are_changed : (old removed added : List Statement) → IsChanged old removed added (changed_quads old removed added)
are_changed old removed added q = (
  λ c. ⊎_elim (λ k. let m = member_of_filter (stays removed) q old k in inl (m.0, not_removed removed q m.1)) (λ a. inr a) (Contains-append_cases (filter (stays removed) old) added q c),
  ⊎_elim (λ k. Contains-append_left (filter (stays removed) old) added q (filter_has (stays removed) q old k.0 (one_stays removed q k.1))) (λ a. Contains-append_right (filter (stays removed) old) added q a),
)

-- a change in two steps, where the second removes nothing that the first adds
in_two_steps : (old removed added mid removed2 added2 new : List Statement) → ((q : Statement) → Contains added q → Contains removed2 q → ⊥) → IsChanged old removed added mid → IsChanged old (removed ++ removed2) (added ++ added2) new
    → IsChanged mid removed2 added2 new
in_two_steps old removed added mid removed2 added2 new apart m n q = (
  λ c. ⊎_elim
      (λ k. inl ((m q).1 (inl (k.0, λ r. k.1 (Contains-append_left removed removed2 q r))), λ r. k.1 (Contains-append_right removed removed2 q r)))
      (λ a. ⊎_elim (λ f. inl ((m q).1 (inr f), apart q f)) (λ l. inr l) (Contains-append_cases added added2 q a)) ((n q).0 c),
  ⊎_elim
      (λ k. ⊎_elim (λ o. (n q).1 (inl (o.0, λ r. ⊎_elim o.1 k.1 (Contains-append_cases removed removed2 q r)))) (λ f. (n q).1 (inr (Contains-append_left added added2 q f))) ((m q).0 k.0))
      (λ l. (n q).1 (inr (Contains-append_right added added2 q l))),
)

-- ---- known terms

with_more : (known xs ys : List Term) → with_terms (with_terms known xs) ys ≡ with_terms known (xs ++ ys)
with_more known [] ys = refl
with_more known (x ∷ xs) ys = with_more (with_new same_term known x) xs ys

terms_in_turn : (known : List Term) (quads more : List Statement) → with_terms_of (with_terms_of known quads) more ≡ with_terms_of known (quads ++ more)
terms_in_turn known quads more = with_more known (flat_map terms_of quads) (flat_map terms_of more) ∙ ap (with_terms known) (sym (flat_map-append terms_of quads more))

-- the law of the store: the known terms with those of quads after them are what a change that adds the quads makes known
abbrev pub BecomeKnown : Type 0
BecomeKnown = (known : List Term) (quads : List Statement) → KnowsTermsOf known quads (with_terms_of known quads)

no_fewer : BecomeKnown → (known : List Term) (quads : List Statement) → length known ≤ length (with_terms_of known quads)
no_fewer law known quads =
    let e : length known ≡ _ = ap length (sym (law known quads).front) ∙ length-take (length known) (with_terms_of known quads) in
    omega arith

-- ---- one more operation

-- what the effect makes of a content
abbrev content_after : Content → Effect → Content
content_after old e = record { quads = changed_quads old.quads e.removed e.added; next = e.next; known = with_terms_of old.known e.added }

-- what an operation does that reads no quads, whichever these are
abbrev Does : Operation → ℕ → Outcome Effect → Type 0
Does o next outcome = (max_rows : ℕ) (default : DefaultGraph) (quads : List Statement) → IsEffect max_rows default o quads next outcome

-- the operation does f after operations whose effect is e, and both are the effect all; what is removed isn't added before
record IsJoined (o : Operation) (e f all : Effect) : Type 0 where
  does : Does o e.next (Ok f)
  removed : all.removed ≡ e.removed ++ f.removed
  added : all.added ≡ e.added ++ f.added
  next : all.next ≡ f.next
  apart : (q : Statement) → Contains e.added q → Contains f.removed q → ⊥

room_or_none : (limit terms : ℕ) → (terms ≤ limit) ⊎ (limit < terms)
room_or_none limit terms = at_test (nat_lt limit terms) refl
  where
    at_test : (b : Bool) → nat_lt limit terms ≡ b → (terms ≤ limit) ⊎ (limit < terms)
    at_test true e = inr (grind (arith, nat_tests))
    at_test false e = inl (grind (arith, nat_tests))

same : (quads : List Statement) → SameSet quads quads
same quads q = (λ c. c, λ c. c)

-- one operation alone
module _ (next : ℕ) (o : Operation) where
  first_refused : (f : QFault) → Does o next (Err f) → AreRefused (o ∷ []) next f
  first_refused f does bounds old at = alone bounds o old (Err f) (old.quads, same old.quads, (Err f, subst (λ (n : ℕ). IsEffect bounds.rows bounds.default_graph o old.quads n (Err f)) (sym at) (does bounds.rows bounds.default_graph old.quads), refl))

  first_alone : (f : Effect) → Does o next (Ok f) → IsEffectOf (o ∷ []) next f
  first_alone f does bounds old outcome at h =
      alone bounds o old outcome (
        old.quads,
        same old.quads,
        (Ok f, subst (λ (n : ℕ). IsEffect bounds.rows bounds.default_graph o old.quads n (Ok f)) (sym at) (does bounds.rows bounds.default_graph old.quads), carried outcome h),
      )
    where
      carried : (outcome : Outcome Content) → IsCarriedInTurn bounds.terms old f outcome → IsCarriedOut bounds.terms old (Ok f) outcome
      carried (Ok new) h = h.0
      carried (Err g) h = h

  -- after operations that do nothing
  all_is : (f all : Effect) → IsJoined o (nothing next) f all → f ≡ all
  all_is f all j =
      let with_removed : List Statement → Effect = λ l. record { removed = l; added = f.added; next = f.next } in
      let with_added : List Statement → Effect = λ l. record { removed = all.removed; added = l; next = f.next } in
      let with_next : ℕ → Effect = λ n. record { removed = all.removed; added = all.added; next = n } in
      ap with_removed (sym j.removed) ∙ (ap with_added (sym j.added) ∙ ap with_next (sym j.next))

  first_joined : (f all : Effect) → IsJoined o (nothing next) f all → IsEffectOf (o ∷ []) next all
  first_joined f all j = subst (IsEffectOf (o ∷ []) next) (all_is f all j) (first_alone f j.does)

module _ (law : BecomeKnown) where
  there_is_room : (limit : ℕ) (old : Content) (e : Effect) → length (with_terms_of old.known e.added) ≤ limit → IsCarriedInTurn limit old e (Ok (content_after old e))
  there_is_room limit old e room = (
    record { room = room; quads = are_changed old.quads e.removed e.added; next = refl; known = law old.known e.added },
    refl,
  )

  -- an operation after others whose effect is e
  module _ (operations : List Operation) (next : ℕ) (o : Operation) (e : Effect) (h : IsEffectOf operations next e) where
    then_operation : (bounds : Bounds) (old : Content) (outcome : Outcome Content) → old.next ≡ next → length (with_terms_of old.known e.added) ≤ bounds.terms → IsOperation bounds o (content_after old e) outcome
        → AreOperations bounds (operations ++ o ∷ []) old outcome
    then_operation bounds old outcome at room k =
        let c = content_after old e in
        in_turn bounds operations (o ∷ []) old c outcome (h bounds old (Ok c) at (there_is_room bounds.terms old e room)) (alone bounds o c outcome k)

    -- where there is no room for the terms of the others
    no_room : (bounds : Bounds) (old : Content) (f : QFault) → old.next ≡ next → bounds.terms < length (with_terms_of old.known e.added) → f ≡ Full → AreOperations bounds (operations ++ o ∷ []) old (Err f)
    no_room bounds old f at lt is = before bounds operations (o ∷ []) f old (h bounds old (Err f) at (lt, is))

    next_refused : (f : QFault) → f ≡ Full → Does o e.next (Err f) → AreRefused (operations ++ o ∷ []) next f
    next_refused f is does bounds old at =
        let c = content_after old e in
        ⊎_elim (λ room. then_operation bounds old (Err f) at room (c.quads, same c.quads, (Err f, does bounds.rows bounds.default_graph c.quads, refl))) (λ lt. no_room bounds old f at lt is)
        (room_or_none bounds.terms (length (with_terms_of old.known e.added)))

    module _ (f all : Effect) (j : IsJoined o e f all) where
      terms : (known : List Term) → with_terms_of known all.added ≡ with_terms_of (with_terms_of known e.added) f.added
      terms known = ap (with_terms_of known) j.added ∙ sym (terms_in_turn known e.added f.added)

      changed : (old new : List Statement) → IsChanged old all.removed all.added new → IsChanged (changed_quads old e.removed e.added) f.removed f.added new
      changed old new n =
          in_two_steps old e.removed e.added (changed_quads old e.removed e.added) f.removed f.added new j.apart (are_changed old e.removed e.added)
          (subst (λ (l : List Statement). IsChanged old l (e.added ++ f.added) new) j.removed (subst (λ (l : List Statement). IsChanged old all.removed l new) j.added n))

      applied_next : (limit : ℕ) (old new : Content) → IsApplied limit old all new → new.known ≡ with_terms_of old.known all.added → IsApplied limit (content_after old e) f new
      applied_next limit old new a known = record {
        room = subst (λ (l : List Term). length l ≤ limit) (terms old.known) a.room;
        quads = changed old.quads new.quads a.quads;
        next = a.next ∙ j.next;
        known = subst (KnowsTermsOf (with_terms_of old.known e.added) f.added) (sym (known ∙ terms old.known)) (law (with_terms_of old.known e.added) f.added);
      }

      room_before : (limit : ℕ) (old : Content) → length (with_terms_of old.known all.added) ≤ limit → length (with_terms_of old.known e.added) ≤ limit
      room_before limit old r =
          let k = no_fewer law (with_terms_of old.known e.added) f.added in
          let l = ap length (terms old.known) in
          omega arith

      next_joined : IsEffectOf (operations ++ o ∷ []) next all
      next_joined bounds old (Ok new) at k =
          let c = content_after old e in
          then_operation bounds old (Ok new) at (room_before bounds.terms old k.0.room) (c.quads, same c.quads, (Ok f, j.does bounds.rows bounds.default_graph c.quads, applied_next bounds.terms old new k.0 k.1))
      next_joined bounds old (Err g) at k =
          let c = content_after old e in
          ⊎_elim
          (λ room. then_operation bounds old (Err g) at room
          (c.quads, same c.quads, (Ok f, j.does bounds.rows bounds.default_graph c.quads, (subst (λ (l : List Term). bounds.terms < length l) (terms old.known) k.0, k.1))))
          (λ lt. no_room bounds old g at lt k.1) (room_or_none bounds.terms (length (with_terms_of old.known e.added)))

-- ---- INSERT DATA and DELETE DATA

-- the value before a second one, or the fault of the first
record ThenOk {A B : Type 0} (o : Outcome A) (k : A → Outcome B) (b : B) : Type 0 where
  first : A
  is : o ≡ Ok first
  second : k first ≡ Ok b

then_ok : {A B : Type 0} (o : Outcome A) (k : A → Outcome B) (b : B) → and_then o k ≡ Ok b → ThenOk o k b
then_ok (Ok a) k b h = record { first = a; is = refl; second = h }
then_ok (Err e) k b h = absurd (let x : Err e ≡ Ok b = h in cc)

then_err : {A B : Type 0} (o : Outcome A) (k : A → B) (f : QFault) → and_then o (λ a. Ok (k a)) ≡ Err f → o ≡ Err f
then_err (Ok a) k f h = absurd (let x : Ok (k a) ≡ Err f = h in cc)
then_err (Err e) k f h = let x : Err e ≡ Err f = h in let y : e ≡ f = cc in ap Err y

-- what both do, by the test of whether the numbers of blank nodes don't suffice
abbrev done : Bool → ℕ → List Statement → List Statement → Outcome Effect
done full after removed added = and_then (if full then Err Full else Ok added) (λ l. Ok (record { removed = removed; added = l; next = after }))

done_is : (full : Bool) (after : ℕ) (removed added : List Statement) (f : Effect) → done full after removed added ≡ Ok f → record { removed = removed; added = added; next = after } ≡ f
done_is true after removed added f h = absurd (let x : Err Full ≡ Ok f = h in cc)
done_is false after removed added f h = let x : Ok (record { removed = removed; added = added; next = after }) ≡ Ok f = h in cc

done_full : (full : Bool) (after : ℕ) (removed added : List Statement) (f : QFault) → done full after removed added ≡ Err f → f ≡ Full
done_full true after removed added f h = let x : Err Full ≡ Err f = h in cc
done_full false after removed added f h = absurd (let x : Ok (record { removed = removed; added = added; next = after }) ≡ Err f = h in cc)

abbrev too_many : ℕ → Bool
too_many after = nat_lt 18446744073709551615 after

abbrev quads_of : List QuadBlock → ℕ → List Statement
quads_of blocks next = instances (template_of_blocks [] blocks) next (unbound 0 ∷ [])

abbrev after_blanks : List QuadBlock → ℕ → ℕ
after_blanks blocks next = next_after (template_of_blocks [] blocks) next 1

module _ (blocks : List QuadBlock) (e : Effect) where
  insertion_joined : (all : Effect) → Ok all ≡ with_insertion e blocks → (f : Effect) × IsJoined (operation.InsertData blocks) e f all
  insertion_joined all h =
      let w = then_ok (of_data [] blocks e.next) (λ more. Ok (record { removed = e.removed; added = e.added ++ more.added; next = more.next })) all (sym h) in
      let is = done_is (too_many (after_blanks blocks e.next)) (after_blanks blocks e.next) [] (quads_of blocks e.next) w.first w.is in
      let second : record { removed = e.removed; added = e.added ++ w.first.added; next = w.first.next } ≡ all = (let x = w.second in cc) in
      let none : [] ≡ w.first.removed = ap (λ (x : Effect). x.removed) is in (
        w.first,
        record {
          does = λ max_rows default quads. sym w.is;
          removed = sym (ap (λ (x : Effect). x.removed) second) ∙ (sym (append-nil e.removed) ∙ ap (λ (l : List Statement). e.removed ++ l) none);
          added = sym (ap (λ (x : Effect). x.added) second);
          next = sym (ap (λ (x : Effect). x.next) second);
          apart = λ q a r. no_member q (subst (λ (l : List Statement). Contains l q) (sym none) r);
        },
      )

  insertion_refused : (f : QFault) → Err f ≡ with_insertion e blocks → Does (operation.InsertData blocks) e.next (Err f) × (f ≡ Full)
  insertion_refused f h =
      let is = then_err (of_data [] blocks e.next) (λ (more : Effect). record { removed = e.removed; added = e.added ++ more.added; next = more.next }) f (sym h) in
      (λ max_rows default quads. sym is, done_full (too_many (after_blanks blocks e.next)) (after_blanks blocks e.next) [] (quads_of blocks e.next) f is)

  abbrev gone : List Statement
  gone = instances (deletion (template_of_blocks [] blocks)) e.next (unbound 0 ∷ [])

  deletion_joined : (all : Effect) → e.added ≡ [] → Ok all ≡ with_deletion e blocks → (f : Effect) × IsJoined (operation.DeleteData blocks) e f all
  deletion_joined all start h =
      let w = then_ok (of_data blocks [] e.next) (λ more. Ok (record { removed = e.removed ++ more.removed; added = e.added; next = more.next })) all (sym h) in
      let is = done_is (too_many (after_blanks [] e.next)) (after_blanks [] e.next) gone [] w.first w.is in
      let second : record { removed = e.removed ++ w.first.removed; added = e.added; next = w.first.next } ≡ all = (let x = w.second in cc) in
      let none : [] ≡ w.first.added = ap (λ (x : Effect). x.added) is in (
        w.first,
        record {
          does = λ max_rows default quads. sym w.is;
          removed = sym (ap (λ (x : Effect). x.removed) second);
          added = sym (ap (λ (x : Effect). x.added) second) ∙ (sym (append-nil e.added) ∙ ap (λ (l : List Statement). e.added ++ l) none);
          next = sym (ap (λ (x : Effect). x.next) second);
          apart = λ q a r. no_member q (subst (λ (l : List Statement). Contains l q) start a);
        },
      )

  deletion_refused : (f : QFault) → Err f ≡ with_deletion e blocks → Does (operation.DeleteData blocks) e.next (Err f) × (f ≡ Full)
  deletion_refused f h =
      let is = then_err (of_data blocks [] e.next) (λ (more : Effect). record { removed = e.removed ++ more.removed; added = e.added; next = more.next }) f (sym h) in
      (λ max_rows default quads. sym is, done_full (too_many (after_blanks [] e.next)) (after_blanks [] e.next) gone [] f is)

-- the quads that are put into an effect
abbrev numbered : ℕ → List Statement → Outcome (ℕ × List Statement)
numbered after quads = Ok (after, quads)

abbrev effect : List Statement → List Statement → ℕ → Outcome Effect
effect removed added next = Ok (record { removed = removed; added = added; next = next })

same_pair : (n m : ℕ) (a b : List Statement) → numbered n a ≡ numbered m b → (n ≡ m) × (a ≡ b)
same_pair n m a b h =
    let left : ℕ × List Statement = (n, a) in
    let right : ℕ × List Statement = (m, b) in
    let e : left ≡ right = cc in
    (ap (λ (p : ℕ × List Statement). p.0) e, ap (λ (p : ℕ × List Statement). p.1) e)

put_ok : (full : Bool) (n after : ℕ) (e : Effect) (made quads : List Statement) → (if full then Err Full else numbered n (e.added ++ made)) ≡ numbered after quads
    → and_then (done full n [] made) (λ more. effect e.removed (e.added ++ more.added) more.next) ≡ effect e.removed quads after
put_ok true n after e made quads h = absurd (let x : Err Full ≡ numbered after quads = h in cc)
put_ok false n after e made quads h =
    let p = same_pair n after (e.added ++ made) quads h in
    ap (λ (l : List Statement). effect e.removed l n) p.1 ∙ ap (effect e.removed quads) p.0

put_err : (full : Bool) (n : ℕ) (e : Effect) (made : List Statement) (f : QFault) → (if full then Err Full else numbered n (e.added ++ made)) ≡ Err f
    → and_then (done full n [] made) (λ more. effect e.removed (e.added ++ more.added) more.next) ≡ Err f
put_err true n e made f h = let x : Err Full ≡ Err f = h in let y : Full ≡ f = cc in ap Err y
put_err false n e made f h = absurd (let x : numbered n (e.added ++ made) ≡ Err f = h in cc)

remove_ok : (full : Bool) (n : ℕ) (e : Effect) (made quads : List Statement) → full ≡ false → n ≡ e.next → quads ≡ e.removed ++ made
    → and_then (done full n made []) (λ more. effect (e.removed ++ more.removed) e.added more.next) ≡ effect quads e.added e.next
remove_ok true n e made quads enough next is = absurd (false≢true (sym enough))
remove_ok false n e made quads enough next is = ap (λ (l : List Statement). effect l e.added n) (sym is) ∙ ap (effect quads e.added) next

module _ (blocks : List QuadBlock) (e : Effect) where
  pub insertion_ok : (after : ℕ) (quads : List Statement) → inserted e.added blocks e.next ≡ numbered after quads → with_insertion e blocks ≡ effect e.removed quads after
  insertion_ok after quads h = put_ok (too_many (after_blanks blocks e.next)) (after_blanks blocks e.next) after e (quads_of blocks e.next) quads h

  pub insertion_err : (f : QFault) → inserted e.added blocks e.next ≡ Err f → with_insertion e blocks ≡ Err f
  insertion_err f h = put_err (too_many (after_blanks blocks e.next)) (after_blanks blocks e.next) e (quads_of blocks e.next) f h

  -- no number of a blank node is taken
  pub deletion_ok : (quads : List Statement) → e.next < 2 ^ 64 → ((n : ℕ) → quads ≡ e.removed ++ deleted blocks n) → with_deletion e blocks ≡ effect quads e.added e.next
  deletion_ok quads fits h =
      let next : after_blanks [] e.next ≡ e.next = omega arith in
      let enough : too_many (after_blanks [] e.next) ≡ false = le-ltb 18446744073709551615 (after_blanks [] e.next) (omega arith) in
      remove_ok (too_many (after_blanks [] e.next)) (after_blanks [] e.next) e (deleted blocks e.next) quads enough next (h e.next)

joined_by : (o : Operation) (e all : Effect) → IsWith e o (Ok all) → (f : Effect) × IsJoined o e f all
joined_by (operation.InsertData blocks) e all h = insertion_joined blocks e all h
joined_by (operation.DeleteData blocks) e all h = deletion_joined blocks e all h.0 h.1
joined_by (operation.DeleteWhere d) e all h = absurd h
joined_by (operation.Modify m) e all h = absurd h
joined_by (operation.Clear s t) e all h = absurd h
joined_by (operation.Drop s t) e all h = absurd h
joined_by (operation.Create s n) e all h = absurd h
joined_by (operation.Add t) e all h = absurd h
joined_by (operation.Move t) e all h = absurd h
joined_by (operation.Copy t) e all h = absurd h

refused_by : (o : Operation) (e : Effect) (f : QFault) → IsWith e o (Err f) → Does o e.next (Err f) × (f ≡ Full)
refused_by (operation.InsertData blocks) e f h = insertion_refused blocks e f h
refused_by (operation.DeleteData blocks) e f h = deletion_refused blocks e f h.1
refused_by (operation.DeleteWhere d) e f h = absurd h
refused_by (operation.Modify m) e f h = absurd h
refused_by (operation.Clear s t) e f h = absurd h
refused_by (operation.Drop s t) e f h = absurd h
refused_by (operation.Create s n) e f h = absurd h
refused_by (operation.Add t) e f h = absurd h
refused_by (operation.Move t) e f h = absurd h
refused_by (operation.Copy t) e f h = absurd h

-- ---- a run

zero_or_more : (i : ℕ) → (i ≡ 0) ⊎ (0 < i)
zero_or_more zero = inl refl
zero_or_more (suc i) = inr (omega arith)

module _ (law : BecomeKnown) (operations : List Operation) (i next : ℕ) (o : Operation) (e : Effect) (lt : i < length operations) (is : o ≡ get_or operations i o) (run : IsRun operations i next e) where
  front : take (i + 1) operations ≡ take i operations ++ o ∷ []
  front = take_more operations i o lt ∙ ap (λ (x : Operation). take i operations ++ x ∷ []) (sym is)

  none_before : i ≡ 0 → take i operations ++ o ∷ [] ≡ o ∷ []
  none_before z = ap (λ (n : ℕ). take n operations ++ o ∷ []) z

  more_joined : (all : Effect) → IsWith e o (Ok all) → IsEffectOf (take i operations ++ o ∷ []) next all
  more_joined all h =
      let j = joined_by o e all h in
      ⊎_elim
      (λ z. subst (λ (l : List Operation). IsEffectOf l next all) (sym (none_before z)) (first_joined next o j.0 all (subst (λ (x : Effect). IsJoined o x j.0 all) (run.none z) j.1)))
      (λ p. next_joined law (take i operations) next o e (run.some p) j.0 all j.1) (zero_or_more i)

  pub one_more : (all : Effect) → IsWith e o (Ok all) → IsRun operations (i + 1) next all
  one_more all h = record {
    none = λ z. absurd (omega arith);
    some = λ p. subst (λ (l : List Operation). IsEffectOf l next all) (sym front) (more_joined all h);
  }

  more_refused : (f : QFault) → IsWith e o (Err f) → AreRefused (take i operations ++ o ∷ []) next f
  more_refused f h =
      let r = refused_by o e f h in
      ⊎_elim
      (λ z. subst (λ (l : List Operation). AreRefused l next f) (sym (none_before z)) (first_refused next o f (subst (λ (x : Effect). Does o x.next (Err f)) (run.none z) r.0)))
      (λ p. next_refused law (take i operations) next o e (run.some p) f r.1 r.0) (zero_or_more i)

  pub refused : (f : QFault) → IsWith e o (Err f) → AreRefused operations next f
  refused f h bounds old at = stopped bounds (i + 1) operations old f (subst (λ (l : List Operation). AreOperations bounds l old (Err f)) (sym front) (more_refused f h bounds old at))

-- ---- numbers of blank nodes

-- the laws: a number above those of all blank nodes stays so as it grows, and the number after data is above theirs
abbrev Later : Type 0
Later = (quads : List Statement) (next later : ℕ) → next ≤ later → IsTrue (is_above_blanks next quads) → IsTrue (is_above_blanks later quads)

abbrev DataIsLawful : Type 0
DataIsLawful = (delete insert : List QuadBlock) (next : ℕ) → IfOk (of_data delete insert next) (IsLawful next)

module _ (later : Later) (data_is_lawful : DataIsLawful) (first : ℕ) (e all : Effect) (l : IsLawful first e) where
  data_lawful : (delete insert : List QuadBlock) (f : Effect) → of_data delete insert e.next ≡ Ok f → IsLawful e.next f
  data_lawful delete insert f is = subst (λ (o : Outcome Effect). IfOk o (IsLawful e.next)) is (data_is_lawful delete insert e.next)

  pub insertion_lawful : (blocks : List QuadBlock) → with_insertion e blocks ≡ Ok all → IsLawful first all
  insertion_lawful blocks h =
      let w = then_ok (of_data [] blocks e.next) (λ more. Ok (record { removed = e.removed; added = e.added ++ more.added; next = more.next })) all h in
      let f = data_lawful [] blocks w.first w.is in
      let second : record { removed = e.removed; added = e.added ++ w.first.added; next = w.first.next } ≡ all = (let x = w.second in cc) in
      subst (IsLawful first) second (omega arith, all_appended (is_statement_below w.first.next) e.added w.first.added (later e.added e.next w.first.next f.0 l.1) f.1)
