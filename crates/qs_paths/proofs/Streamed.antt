-- What is handed out one by one, under a naming.
use Rattle.std.proofs.Common.{◌≡◌, ℕ, ◌+◌, ◌<◌, Bool, true, false, not, cond, inl, inr, List, [], ◌∷◌, ◌++◌, length, map, take, drop, get_or, Option, Some, None, refl, sym, ◌∙◌, ap, subst, arith}
use Rattle.std.specs.List.{filter, list_any}
use Rattle.std.proofs.lemmas.Bool.Decides.{Decides-eqb}
use Rattle.std.proofs.lemmas.List.{take_more, take-append-drop}
use Rattle.std.proofs.lemmas.List.Sorted.{IsPermutation-map, IsPermutation-refl, IsPermutation-sym, length_permutation, list_any-IsPermutation}
use Rattle.qs_terms.specs.declared.term.Term.{Term}
use Rattle.qs_terms.specs.declared.term.Term.TheVariants as term
use Rattle.qs_terms.specs.Bag.{Distinct, SameBag, with_new}
use Rattle.qs_terms.specs.Term.{same_term}
use Rattle.qs_terms.proofs.SameTerm.{same_term-Decides}
use Rattle.qs_syntax_tree.specs.declared.path.Repetition.{Repetition}
use Rattle.qs_syntax_ast.specs.declared.path.NegatedIri.{NegatedIri}
use Rattle.qs_syntax_ast.specs.declared.path.Path.{Path}
use Rattle.qs_syntax_ast.specs.declared.path.Path.TheVariants as path
use Rattle.qs_paths_meaning.specs.Closure.{closure}
use Rattle.qs_paths_meaning.specs.inner.Steps.{from_start}
use Rattle.qs_paths_meaning.specs.Pair.{Pair, swapped}
use Rattle.qs_paths_meaning.specs.Pairs.{AtEnds, is_step, pairs}
use Rattle.qs_paths_meaning.specs.Steps.{Graph, along, negated}
use Rattle.qs_paths_meaning.specs.inner.Found.{turned}
use Rattle.qs_paths_meaning.specs.inner.Links.{same_number, with_numbers}
use Rattle.qs_paths_meaning.proofs.Meaning.{pairs_iri, pairs_negated, pairs_inverse, pairs_repeated}
use Rattle.qs_paths_meaning.proofs.Members.{Mem, distinct_filter, distinct_once, false_from, in_mem, is_out, mem_at, mem_filter, mem_in, mem_left, mem_of_filter, mem_right, mem_split, not_both, not_in, same_bag}
use Rattle.qs_paths_meaning.proofs.Members as members
use Rattle.qs_paths_meaning.proofs.Turned.{left_arm, right_arm}
use Rattle.qs_paths.specs.declared.node.NodePair.{NodePair}
use Rattle.qs_paths.specs.inner.Nodes.{named_pair, names}
use Rattle.qs_paths.specs.inner.State.{turn, turned_pairs}

-- ---- bags

pub nil_of : (ps : List Pair) → SameBag ps [] → ps ≡ []
nil_of [] h = refl
nil_of (p ∷ ps) h = absurd (omega (arith, length_permutation _ _ h))

pub to_nil : (ps qs : List Pair) → SameBag ps qs → qs ≡ [] → ps ≡ []
to_nil ps qs h e = nil_of ps (subst (λ (l : List Pair). SameBag ps l) e h)

pub bag_is : (ps qs rs : List Pair) → SameBag ps qs → qs ≡ rs → SameBag ps rs
bag_is ps qs rs h e = subst (λ (l : List Pair). SameBag ps l) e h

swapped_twice : (ps : List Pair) → map swapped (map swapped ps) ≡ ps
swapped_twice [] = refl
swapped_twice (p ∷ ps) = ap (λ l. p ∷ l) (swapped_twice ps)

pub turned_twice : (b : Bool) (ps : List Pair) → turned_pairs b (turned_pairs b ps) ≡ ps
turned_twice true ps = swapped_twice ps
turned_twice false ps = refl

pub turned_bag : (b : Bool) (ps qs : List Pair) → SameBag ps qs → SameBag (turned_pairs b ps) (turned_pairs b qs)
turned_bag true ps qs h = IsPermutation-map swapped ps qs h
turned_bag false ps qs h = h

pub turned_first : (b : Bool) (name : ℕ → Term) (e : NodePair) (ps : List Pair) → turned_pairs b (named_pair name e ∷ ps) ≡ named_pair name (turn b e) ∷ turned_pairs b ps
turned_first true name e ps = refl
turned_first false name e ps = refl

turned_nil : (b : Bool) → let none : List Pair = [] in turned_pairs b [] ≡ none
turned_nil true = refl
turned_nil false = refl

-- ---- what a path is opened as

module _ (graph : Graph) where
  pub as_iri : (p : Path) (i : List ℕ) (l r : Option Term) → p ≡ path.Iri i → pairs graph p l r ≡ along (same_term (term.Iri i)) graph l r
  as_iri p i l r e = ap (λ (q : Path). pairs graph q l r) e ∙ ap (λ (f : AtEnds). f l r) (pairs_iri graph i)

  pub as_set : (p : Path) (ms members : List NegatedIri) (l r : Option Term) → p ≡ path.NegatedSet ms → members ≡ ms → pairs graph p l r ≡ negated members graph l r
  as_set p ms members l r e m = ap (λ (q : Path). pairs graph q l r) e ∙ (ap (λ (f : AtEnds). f l r) (pairs_negated graph ms) ∙ ap (λ z. negated z graph l r) (sym m))

  pub as_inverse : (p inner q : Path) (l r : Option Term) → p ≡ path.Inverse inner → q ≡ inner → pairs graph p l r ≡ map swapped (pairs graph q r l)
  as_inverse p inner q l r e m = ap (λ (k : Path). pairs graph k l r) e ∙ (ap (λ (f : AtEnds). f l r) (pairs_inverse graph inner) ∙ ap (λ z. map swapped (pairs graph z r l)) (sym m))

  pub as_closure : (p inner : Path) (repetition : Repetition) (l r : Option Term) → p ≡ path.Repeated inner repetition → pairs graph p l r ≡ closure repetition (is_step (pairs graph inner)) graph l r
  as_closure p inner repetition l r e = ap (λ (k : Path). pairs graph k l r) e ∙ ap (λ (f : AtEnds). f l r) (pairs_repeated graph inner repetition)

  -- the pairs of a closure from its left end, or into its right end
  pub from_left : (p : Path) (repetition : Repetition) (x : Term) (r : Option Term) → SameBag (closure repetition (is_step (pairs graph p)) graph (Some x) r) (turned_pairs false (from_start repetition (is_step (turned false (pairs graph p))) graph r x))
  from_left p repetition x r = IsPermutation-sym _ _ (left_arm graph p repetition (Some x) r x (from_start repetition (is_step (turned false (pairs graph p))) graph r x) refl (IsPermutation-refl _))

  pub into_right : (p : Path) (repetition : Repetition) (y : Term) → SameBag (closure repetition (is_step (pairs graph p)) graph None (Some y)) (turned_pairs true (from_start repetition (is_step (turned true (pairs graph p))) graph None y))
  into_right p repetition y = IsPermutation-sym _ _ (right_arm graph p repetition None (Some y) y (from_start repetition (is_step (turned true (pairs graph p))) graph None y) (map swapped (from_start repetition (is_step (turned true (pairs graph p))) graph None y)) refl refl (IsPermutation-refl _) refl)

-- ---- walks

filter_true : {X : Type 0} (p : X → Bool) (xs : List X) → ((x : X) → p x ≡ true) → filter p xs ≡ xs
filter_true p [] h = refl
filter_true p (x ∷ xs) h = ap (λ b. cond b (x ∷ filter p xs) (filter p xs)) (h x) ∙ ap (λ l. x ∷ l) (filter_true p xs h)

-- none of them was handed out
pub none_given : (ns : List ℕ) (name : ℕ → Term) (es : List Term) → filter (λ y. not (list_any (same_term y) (names name (take 0 ns)))) es ≡ es
none_given [] name es = filter_true (λ y. true) es (λ y. refl)
none_given (n ∷ ns) name es = filter_true (λ y. true) es (λ y. refl)

pub filter_none : {X : Type 0} (p : X → Bool) (xs : List X) → ((x : X) → Mem x xs → p x ≡ false) → filter p xs ≡ []
filter_none p [] h = refl
filter_none p (x ∷ xs) h = ap (λ b. cond b (x ∷ filter p xs) (filter p xs)) (h x (inl refl)) ∙ filter_none p xs (λ y m. h y (inr m))

-- what is new
abbrev pub fresh : List Term → Term → Bool
fresh ts y = not (list_any (same_term y) ts)

fresh_out : (ts : List Term) (y : Term) → fresh ts y ≡ true → Mem y ts → ⊥
fresh_out ts y h m = by (list_any (same_term y) ts) refl h
  where
    by : (b : Bool) → list_any (same_term y) ts ≡ b → not b ≡ true → ⊥
    by true e k = let f : false ≡ true = k in cc
    by false e k = is_out same_term same_term-Decides y ts e m

out_fresh : (ts : List Term) (y : Term) → (Mem y ts → ⊥) → fresh ts y ≡ true
out_fresh ts y h = ap not (not_in same_term same_term-Decides y ts h)

-- all were handed out
pub all_given : (ts es : List Term) → SameBag ts es → filter (fresh ts) es ≡ []
all_given ts es h = filter_none (fresh ts) es (λ y m. ap not (mem_in same_term same_term-Decides y ts (back y m)))
  where
    back : (y : Term) → Mem y es → Mem y ts
    back y m = in_mem same_term same_term-Decides y ts (list_any-IsPermutation (same_term y) ts es h ∙ mem_in same_term same_term-Decides y es m)

-- the next of those that were found is one of the ends, and the others are left
pub hands_out : (ts es : List Term) (g : ℕ) (y : Term) → Distinct same_term ts → Distinct same_term es → ((x : Term) → Mem x ts → Mem x es) → g < length ts → y ≡ get_or ts g y
    → SameBag (filter (fresh (take g ts)) es) (y ∷ filter (fresh (take (g + 1) ts)) es)
hands_out ts es g y d e sub lt is =
    same_bag same_term same_term-Decides (filter (fresh (take g ts)) es) (y ∷ filter (fresh (take (g + 1) ts)) es)
    (distinct_filter same_term same_term-Decides (fresh (take g ts)) es e)
    (not_in same_term same_term-Decides y (filter (fresh (take (g + 1) ts)) es) (λ m. fresh_out (take (g + 1) ts) y (mem_of_filter (fresh (take (g + 1) ts)) y es m).0 now), distinct_filter same_term same_term-Decides (fresh (take (g + 1) ts)) es e)
    into out
  where
    more : take (g + 1) ts ≡ take g ts ++ y ∷ []
    more = take_more ts g y lt ∙ ap (λ z. take g ts ++ z ∷ []) (sym is)

    now : Mem y (take (g + 1) ts)
    now = subst (λ (l : List Term). Mem y l) (sym more) (mem_right y (take g ts) (y ∷ []) (inl refl))

    there : Mem y ts
    there = subst (λ (l : List Term). Mem y l) (take-append-drop (g + 1) ts) (mem_left y (take (g + 1) ts) (drop (g + 1) ts) now)

    -- a term stands once
    not_before : Mem y (take g ts) → ⊥
    not_before m = twice (take g ts) (drop (g + 1) ts) (subst (Distinct same_term) (sym (take-append-drop (g + 1) ts) ∙ ap (λ l. l ++ drop (g + 1) ts) more) d) m
      where
        twice : (us vs : List Term) → Distinct same_term ((us ++ y ∷ []) ++ vs) → Mem y us → ⊥
        twice [] vs k m = elim m [ ]
        twice (u ∷ us) vs k (inl i) = is_out same_term same_term-Decides u ((us ++ y ∷ []) ++ vs) k.0 (mem_left u (us ++ y ∷ []) vs (mem_right u us (y ∷ []) (inl (sym i))))
        twice (u ∷ us) vs k (inr m) = twice us vs k.1 m

    into : (x : Term) → Mem x (filter (fresh (take g ts)) es) → Mem x (y ∷ filter (fresh (take (g + 1) ts)) es)
    into x m =
        let w = mem_of_filter (fresh (take g ts)) x es m in
        by (same_term x y) refl w
      where
        by : (b : Bool) → same_term x y ≡ b → (fresh (take g ts) x ≡ true) × Mem x es → Mem x (y ∷ filter (fresh (take (g + 1) ts)) es)
        by true i w = inl ((same_term-Decides x y).0 i)
        by false i w =
            inr (mem_filter (fresh (take (g + 1) ts)) x es
            (out_fresh (take (g + 1) ts) x (λ k. elim (mem_split x (take g ts) (y ∷ []) (subst (λ (l : List Term). Mem x l) more k)) [
              | inl j ↦ fresh_out (take g ts) x w.0 j
              | inr j ↦ elim j [ inl z ↦ not_both (same_term x y) ((same_term-Decides x y).1 z) i | inr f ↦ elim f [ ] ]
            ])) w.1)

    out : (x : Term) → Mem x (y ∷ filter (fresh (take (g + 1) ts)) es) → Mem x (filter (fresh (take g ts)) es)
    out x (inl i) = mem_filter (fresh (take g ts)) x es (out_fresh (take g ts) x (λ m. not_before (mem_at x y (take g ts) i m))) (mem_at y x es (sym i) (sub y there))
    out x (inr m) =
        let w = mem_of_filter (fresh (take (g + 1) ts)) x es m in
        mem_filter (fresh (take g ts)) x es (out_fresh (take g ts) x (λ k. fresh_out (take (g + 1) ts) x w.0 (subst (λ (l : List Term). Mem x l) (sym more) (mem_left x (take g ts) (y ∷ []) k)))) w.1

-- ---- numbers at the end of a list

numbers_are : (ns ms : List ℕ) → with_numbers ns ms ≡ members.with_all same_number Decides-eqb ns ms
numbers_are ns [] = refl
numbers_are ns (m ∷ ms) = numbers_are (with_new same_number ns m) ms

pub numbers_front : (ns ms ns' : List ℕ) → ns' ≡ with_numbers ns ms → (zs : List ℕ) × (ns' ≡ ns ++ zs)
numbers_front ns ms ns' e = let w = members.extends_with_all same_number Decides-eqb ns ms in (w.0, e ∙ (numbers_are ns ms ∙ w.1))
