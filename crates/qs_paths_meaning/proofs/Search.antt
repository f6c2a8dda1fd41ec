-- The breadth-first search finds the ends of a closure.
use Rattle.std.proofs.Common.{◌≡◌, ◌≢◌, ℕ, ◌+◌, ◌-◌, ◌<◌, ◌≤◌, Bool, true, false, ◌||◌, ◌⊎◌, inl, inr, List, [], ◌∷◌, ◌++◌, length, take, drop, get_or, Some, None, refl, sym, ◌∙◌, ap, subst, arith, length-append}
use Rattle.std.specs.List.{list_any}
use Rattle.std.proofs.lemmas.List.{take_more, take_all, take-append-le, take-append-drop}
use Rattle.std.proofs.lemmas.List.Sorted.{list_any-IsPermutation}
use Rattle.qs_terms.specs.declared.term.Term.{Term}
use Rattle.qs_terms.specs.Bag.{SameBag, Distinct, with_new}
use Rattle.qs_terms.specs.Term.{same_term}
use Rattle.qs_terms.specs.Dataset.{nodes_of}
use Rattle.qs_terms.proofs.SameTerm.{same_term-Decides}
use Rattle.qs_syntax_tree.specs.declared.path.Repetition.{Repetition}
use Rattle.qs_syntax_tree.specs.declared.path.Repetition.TheVariants.{ZeroOrOne, ZeroOrMore, OneOrMore}
use Rattle.qs_paths_meaning.specs.Pair.{Pair}
use Rattle.qs_paths_meaning.specs.Steps.{Graph}
use Rattle.qs_paths_meaning.specs.Closure.{candidates, leads, repeats, ends}
use Rattle.qs_paths_meaning.specs.inner.Found.{with_all, rights, begins, Holds}
use Rattle.qs_paths_meaning.specs.Pairs.{AtEnds, is_step}
use Rattle.qs_paths_meaning.specs.inner.Walk.{IsWalk}
use Rattle.qs_paths_meaning.proofs.Members.{Mem, mem_at, mem_left, mem_right, mem_split, mem_filter, mem_of_filter, in_mem, mem_in, or_cases, or_left, or_right, bool_same, distinct_filter, distinct_once, same_bag}
use Rattle.qs_paths_meaning.proofs.Members as members
use Rattle.qs_paths_meaning.proofs.Near.{Tied, start_candidate, candidates_closed}
use Rattle.qs_paths_meaning.proofs.WalkLaws.{leads_one, leads_on, leads_walk, leads_inside}

-- ---- many terms at the end

pub all_is : (xs ys : List Term) → with_all xs ys ≡ members.with_all same_term same_term-Decides xs ys
all_is xs [] = refl
all_is xs (y ∷ ys) = all_is (with_new same_term xs y) ys

pub mem_with_all : (y : Term) (xs ys : List Term) → Mem y (with_all xs ys) → Mem y xs ⊎ Mem y ys
mem_with_all y xs ys h = members.mem_with_all same_term same_term-Decides y xs ys (subst (λ (l : List Term). Mem y l) (all_is xs ys) h)

pub with_all_has : (y : Term) (xs ys : List Term) → Mem y xs ⊎ Mem y ys → Mem y (with_all xs ys)
with_all_has y xs ys h = subst (λ (l : List Term). Mem y l) (sym (all_is xs ys)) (members.with_all_has same_term same_term-Decides y xs ys h)

pub distinct_with_all : (xs ys : List Term) → Distinct same_term xs → Distinct same_term (with_all xs ys)
distinct_with_all xs ys d = subst (Distinct same_term) (sym (all_is xs ys)) (members.distinct_with_all same_term same_term-Decides xs ys d)

-- the right ends of pairs
pub right_in : (y : Term) (es : List Pair) → Mem y (rights es) → list_any (λ e. same_term y e.right) es ≡ true
right_in y [] h = elim h [ ]
right_in y (e ∷ es) (inl i) = or_left (same_term y e.right) (list_any (λ f. same_term y f.right) es) ((same_term-Decides y e.right).1 i)
right_in y (e ∷ es) (inr h) = or_right (same_term y e.right) (list_any (λ f. same_term y f.right) es) (right_in y es h)

pub in_right : (y : Term) (es : List Pair) → list_any (λ e. same_term y e.right) es ≡ true → Mem y (rights es)
in_right y [] h = let f : false ≡ true = h in cc
in_right y (e ∷ es) h =
    elim (or_cases (same_term y e.right) (list_any (λ f. same_term y f.right) es) h) [
      | inl s ↦ inl ((same_term-Decides y e.right).0 s)
      | inr k ↦ inr (in_right y es k)
    ]

module _ (graph : Graph) (f : AtEnds) (tied : Tied graph f) (x : Term) where
  abbrev step : Term → Term → Bool
  step = is_step f

  abbrev cs : List Term
  cs = candidates graph x

  abbrev Reaches : Repetition → Term → Type 0
  Reaches repetition y = repeats repetition (is_step f) (candidates graph x) x y ≡ true

  -- the pairs that the program has from u are the steps from u
  pub stepped : (u y : Term) (next : List Pair) → SameBag next (f (Some u) None) → Mem y (rights next) → is_step f u y ≡ true
  stepped u y next h m = sym (list_any-IsPermutation (λ (e : Pair). same_term y e.right) next (f (Some u) None) h) ∙ right_in y next m

  pub steps : (u y : Term) (next : List Pair) → SameBag next (f (Some u) None) → is_step f u y ≡ true → Mem y (rights next)
  steps u y next h m = in_right y next (list_any-IsPermutation (λ (e : Pair). same_term y e.right) next (f (Some u) None) h ∙ m)

  pub inside : (repetition : Repetition) (y : Term) → Reaches repetition y → Mem y cs
  inside ZeroOrOne y h =
      elim (or_cases (same_term x y) (step x y) h) [
        | inl s ↦ mem_at x y cs ((same_term-Decides x y).0 s) (start_candidate graph x)
        | inr s ↦ candidates_closed graph f tied x x y (start_candidate graph x) s
      ]
  inside ZeroOrMore y h =
      elim (or_cases (same_term x y) (leads step cs x y) h) [
        | inl s ↦ mem_at x y cs ((same_term-Decides x y).0 s) (start_candidate graph x)
        | inr s ↦ leads_inside step cs (candidates_closed graph f tied x) cs x y (λ d m. m) (start_candidate graph x) s
      ]
  inside OneOrMore y h = leads_inside step cs (candidates_closed graph f tied x) cs x y (λ d m. m) (start_candidate graph x) h

  -- a list that has exactly what is led to is the bag of the ends
  ends_bag : (repetition : Repetition) (terms : List Term) → Distinct same_term terms → ((y : Term) → Mem y terms → Reaches repetition y) → ((y : Term) → Reaches repetition y → Mem y terms) → SameBag terms (ends repetition (is_step f) graph x)
  ends_bag repetition terms d sound complete =
      same_bag same_term same_term-Decides terms (ends repetition step graph x) d
      (distinct_filter same_term same_term-Decides (repeats repetition step cs x) cs (distinct_once same_term same_term-Decides (x ∷ nodes_of graph)))
      (λ y m. mem_filter (repeats repetition step cs x) y cs (sound y m) (inside repetition y (sound y m)))
      (λ y m. complete y (mem_of_filter (repeats repetition step cs x) y cs m).0)

  holds_mem : (terms : List Term) (test : Term → Bool) (y : Term) → Holds terms test → test y ≡ true → Mem y terms
  holds_mem terms test y h t = in_mem same_term same_term-Decides y terms (h.1 y ∙ t)

  mem_holds : (terms : List Term) (test : Term → Bool) (y : Term) → Holds terms test → Mem y terms → test y ≡ true
  mem_holds terms test y h m = sym (h.1 y) ∙ mem_in same_term same_term-Decides y terms m

  -- `?` needs no search
  pub optional_ends : (terms : List Term) → Holds terms (begins ZeroOrOne (is_step f) x) → SameBag terms (ends ZeroOrOne (is_step f) graph x)
  optional_ends terms h = ends_bag ZeroOrOne terms h.0 (λ y m. mem_holds terms _ y h m) (λ y r. holds_mem terms _ y h r)

  -- what holds between two passes: the terms at places below `at` were gone on from
  pub record Searching (repetition : Repetition) (terms : List Term) (at : ℕ) : Type 0 where
    pub within : at ≤ length terms
    pub distinct : Distinct same_term terms
    pub sound : (y : Term) → Mem y terms → Reaches repetition y
    pub first : (y : Term) → begins repetition (is_step f) x y ≡ true → Mem y terms
    pub closed : (u y : Term) → Mem u (take at terms) → is_step f u y ≡ true → Mem y terms

  begin_sound : (repetition : Repetition) (y : Term) → begins repetition step x y ≡ true → Reaches repetition y
  begin_sound ZeroOrOne y h = h
  begin_sound ZeroOrMore y h = or_left (same_term x y) (leads step cs x y) h
  begin_sound OneOrMore y h = leads_one step cs x y h

  pub search_begins : (repetition : Repetition) (terms : List Term) → Holds terms (begins repetition (is_step f) x) → Searching repetition terms 0
  search_begins repetition terms h = record {
    within = omega arith;
    distinct = h.0;
    sound = λ y m. begin_sound repetition y (mem_holds terms _ y h m);
    first = λ y t. holds_mem terms _ y h t;
    closed = λ u y m s. elim m [ ];
  }

  sound_on : (repetition : Repetition) (u y : Term) → repetition ≢ ZeroOrOne → Reaches repetition u → step u y ≡ true → Reaches repetition y
  sound_on ZeroOrOne u y ne h s = absurd (ne refl)
  sound_on ZeroOrMore u y ne h s =
      or_right (same_term x y) (leads step cs x y)
      (elim (or_cases (same_term x u) (leads step cs x u) h) [
        | inl e ↦ leads_one step cs x y (subst (λ (z : Term). step z y ≡ true) (sym ((same_term-Decides x u).0 e)) s)
        | inr k ↦ leads_on step cs x u y (inside ZeroOrMore u h) k (leads_one step cs u y s)
      ])
  sound_on OneOrMore u y ne h s = leads_on step cs x u y (inside OneOrMore u h) h (leads_one step cs u y s)

  pub get_mem : (terms : List Term) (at : ℕ) (u : Term) → at < length terms → u ≡ get_or terms at u → Mem u (take (at + 1) terms)
  get_mem terms at u lt is = subst (λ (l : List Term). Mem u l) (sym (take_more terms at u lt)) (mem_right u (take at terms) (get_or terms at u ∷ []) (inl is))

  pub mem_take : (n : ℕ) (u : Term) (terms : List Term) → Mem u (take n terms) → Mem u terms
  mem_take n u terms m = subst (λ (l : List Term). Mem u l) (take-append-drop n terms) (mem_left u (take n terms) (drop n terms) m)

  pub search_on : (repetition : Repetition) (terms terms' : List Term) (at : ℕ) (u : Term) (next : List Pair) → repetition ≢ ZeroOrOne → Searching repetition terms at → at < length terms → u ≡ get_or terms at u → SameBag next (f (Some u) None) → terms' ≡ with_all terms (rights next) → Searching repetition terms' (at + 1)
  search_on repetition terms terms' at u next ne was lt is h e =
      let extended : (zs : List Term) × (with_all terms (rights next) ≡ terms ++ zs) =
      let w = members.extends_with_all same_term same_term-Decides terms (rights next) in (w.0, all_is terms (rights next) ∙ w.1) in
      let here : Mem u terms = mem_take (at + 1) u terms (get_mem terms at u lt is) in
      let longer : terms' ≡ terms ++ extended.0 = e ∙ extended.1 in
      let front : take (at + 1) terms' ≡ take at terms ++ get_or terms at u ∷ [] =
      ap (take (at + 1)) longer ∙ (take-append-le (at + 1) terms extended.0 (omega arith) ∙ take_more terms at u lt) in record {
        within = omega (arith, ap length longer, length-append terms extended.0);
        distinct = subst (Distinct same_term) (sym e) (distinct_with_all terms (rights next) was.distinct);
        sound = λ y m.
            elim (mem_with_all y terms (rights next) (subst (λ (l : List Term). Mem y l) e m)) [
              | inl k ↦ was.sound y k
              | inr k ↦ sound_on repetition u y ne (was.sound u here) (stepped u y next h k)
            ];
        first = λ y t. subst (λ (l : List Term). Mem y l) (sym e) (with_all_has y terms (rights next) (inl (was.first y t)));
        closed = λ v y m s.
            subst (λ (l : List Term). Mem y l) (sym e)
            (elim (mem_split v (take at terms) (get_or terms at u ∷ []) (subst (λ (l : List Term). Mem v l) front m)) [
              | inl k ↦ with_all_has y terms (rights next) (inl (was.closed v y k s))
              | inr k ↦ elim k [
                | inl i ↦ with_all_has y terms (rights next) (inr (steps u y next h (subst (λ (z : Term). step z y ≡ true) (i ∙ sym is) s)))
                | inr f ↦ elim f [ ]
              ]
            ]);
      }

  pub search_ends : (repetition : Repetition) (terms : List Term) (at : ℕ) → repetition ≢ ZeroOrOne → Searching repetition terms at → length terms ≤ at → SameBag terms (ends repetition (is_step f) graph x)
  search_ends repetition terms at ne was le = ends_bag repetition terms was.distinct was.sound (complete repetition ne was.first)
    where
      all : take at terms ≡ terms
      all = take_all at terms le

      go : (u y : Term) (us : List Term) → Mem u terms → IsWalk (λ a b. step a b ≡ true) u us y → Mem y terms
      go u y [] m w = mem_at u y terms w m
      go u y (v ∷ us) m w = go v y us (was.closed u v (subst (λ (l : List Term). Mem u l) (sym all) m) w.0) w.1

      complete : (r : Repetition) → r ≢ ZeroOrOne → ((y : Term) → begins r step x y ≡ true → Mem y terms) → (y : Term) → Reaches r y → Mem y terms
      complete ZeroOrOne n first y t = absurd (n refl)
      complete ZeroOrMore n first y t =
          elim (or_cases (same_term x y) (leads step cs x y) t) [
            | inl s ↦ first y s
            | inr s ↦ let w = leads_walk step cs x y s in go x y w.0 (first x ((same_term-Decides x x).1 refl)) w.1.1
          ]
      complete OneOrMore n first y t = let w = leads_walk step cs x y t in by w.0 w.1.0 w.1.1
        where
          by : (us : List Term) → 1 ≤ length us → IsWalk (λ a b. step a b ≡ true) x us y → Mem y terms
          by [] k w = absurd (omega arith)
          by (u ∷ us) k w = go u y us (first u w.0) w.1

  -- before the search
  pub begun_both : (repetition : Repetition) (next : List Pair) (es : List Pair) (t0 t1 t2 : List Term) → repetition ≡ ZeroOrOne → t0 ≡ [] → t1 ≡ with_new same_term t0 x → SameBag next (f (Some x) None) → es ≡ next → t2 ≡ with_all t1 (rights es) → Holds t2 (begins repetition (is_step f) x)
  begun_both repetition next es t0 t1 t2 is e f h s g =
      subst (λ (r : Repetition). Holds t2 (begins r step x)) (sym is)
      (subst (λ (l : List Term). Holds l (begins ZeroOrOne step x)) (sym (g ∙ (ap (λ l. with_all l (rights es)) (f ∙ ap (λ l. with_new same_term l x) e) ∙ ap (λ l. with_all (x ∷ []) (rights l)) s))) (
        distinct_with_all (x ∷ []) (rights next) (refl, tt),
        λ y.
            bool_same (list_any (same_term y) (with_all (x ∷ []) (rights next))) (same_term x y || step x y)
            (λ k.
            elim (mem_with_all y (x ∷ []) (rights next) (in_mem same_term same_term-Decides y (with_all (x ∷ []) (rights next)) k)) [
              | inl m ↦ elim m [ inl i ↦ or_left (same_term x y) (step x y) ((same_term-Decides x y).1 (sym i)) | inr f ↦ elim f [ ] ]
              | inr m ↦ or_right (same_term x y) (step x y) (stepped x y next h m)
            ])
            (λ k.
            mem_in same_term same_term-Decides y (with_all (x ∷ []) (rights next))
            (with_all_has y (x ∷ []) (rights next)
            (elim (or_cases (same_term x y) (step x y) k) [
              | inl m ↦ inl (inl (sym ((same_term-Decides x y).0 m)))
              | inr m ↦ inr (steps x y next h m)
            ]))),
      ))

  pub begun_steps : (repetition : Repetition) (next : List Pair) (es : List Pair) (t0 t2 : List Term) → repetition ≡ OneOrMore → t0 ≡ [] → SameBag next (f (Some x) None) → es ≡ next → t2 ≡ with_all t0 (rights es) → Holds t2 (begins repetition (is_step f) x)
  begun_steps repetition next es t0 t2 is e h s g =
      subst (λ (r : Repetition). Holds t2 (begins r step x)) (sym is)
      (subst (λ (l : List Term). Holds l (begins OneOrMore step x)) (sym (g ∙ (ap (λ l. with_all l (rights es)) e ∙ ap (λ l. with_all [] (rights l)) s))) (
        distinct_with_all [] (rights next) tt,
        λ y.
            bool_same (list_any (same_term y) (with_all [] (rights next))) (step x y)
            (λ k.
            elim (mem_with_all y [] (rights next) (in_mem same_term same_term-Decides y (with_all [] (rights next)) k)) [
              | inl m ↦ elim m [ ]
              | inr m ↦ stepped x y next h m
            ])
            (λ k. mem_in same_term same_term-Decides y (with_all [] (rights next)) (with_all_has y [] (rights next) (inr (steps x y next h k)))),
      ))

  pub optional_at : (repetition : Repetition) (terms ts : List Term) → repetition ≡ ZeroOrOne → ts ≡ terms → Holds terms (begins repetition (is_step f) x) → SameBag ts (ends repetition (is_step f) graph x)
  optional_at repetition terms ts is e h =
      subst (λ (r : Repetition). SameBag ts (ends r step graph x)) (sym is)
      (subst (λ (l : List Term). SameBag l (ends ZeroOrOne step graph x)) (sym e)
      (optional_ends terms (subst (λ (r : Repetition). Holds terms (begins r step x)) is h)))

  pub search_result : (repetition : Repetition) (terms ts : List Term) (at : ℕ) → repetition ≢ ZeroOrOne → Searching repetition terms at → length terms ≤ at → ts ≡ terms → SameBag ts (ends repetition (is_step f) graph x)
  search_result repetition terms ts at ne was le e = subst (λ (l : List Term). SameBag l (ends repetition step graph x)) (sym e) (search_ends repetition terms at ne was le)
