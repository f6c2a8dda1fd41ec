-- Quads that are added, one after another.
use Rattle.std.proofs.Common.{◌≡◌, ◌+◌, ◌*◌, ◌<◌, ◌≤◌, ℕ, suc, List, [], ◌∷◌, ◌++◌, append-nil, append_assoc, length, length-take-le, map, take, drop, get_or, ap, sym, ◌∙◌, subst, arith}
use Rattle.std.specs.List.{flat_map}
use Rattle.std.proofs.lemmas.Grind.{flat_map-append}
use Rattle.std.proofs.lemmas.List.{length-map, map-append, take-append-drop, take_more}
use Rattle.qs_terms.specs.Statement.{Statement}
use Rattle.qs_terms.specs.declared.term.Term.{Term}
use Rattle.qs_algebra_solutions.specs.Solution.{Solution}
use Rattle.qs_store.specs.Change.{with_terms_of, terms_of}
use Rattle.qs_store.specs.inner.Change.{with_terms}
use Rattle.qs_store.specs.inner.Change.{IsFullAt}
use Rattle.qs_store.specs.declared.fault.StoreFault.{StoreFault}
use Rattle.qs_store.proofs.Faults.{full_later}
use Rattle.qs_store.proofs.Terms.{longer, with_terms_more}
use Rattle.qs_query_template.specs.Instances.{instances, next_after}
use Rattle.qs_query_template.specs.inner.Instances.{instances_under}
use Rattle.qs_query_template.specs.declared.template.Template.{Template}

-- more quads have no fewer terms
longer_of : (first : List Term) (xs ys : List Statement) → length (with_terms_of first xs) ≤ length (with_terms_of first (xs ++ ys))
longer_of first xs ys =
    let whole : with_terms (with_terms_of first xs) (flat_map terms_of ys) ≡ with_terms_of first (xs ++ ys) = with_terms_more first (flat_map terms_of xs) (flat_map terms_of ys) ∙ ap (with_terms first) (sym (flat_map-append terms_of xs ys)) in
    omega (arith, longer (with_terms_of first xs) (flat_map terms_of ys), ap length whole)

pub full_of_more : (f : StoreFault) (limit : ℕ) (first : List Term) (xs ys zs : List Statement) → zs ≡ xs ++ ys → IsFullAt f limit (length (with_terms_of first xs)) → IsFullAt f limit (length (with_terms_of first zs))
full_of_more f limit first xs ys zs e h =
    subst (λ l. IsFullAt f limit (length (with_terms_of first l))) (sym e)
    (full_later f limit (length (with_terms_of first xs)) (length (with_terms_of first (xs ++ ys))) (longer_of first xs ys) h)

taken : {X : Type 0} → (xs : List X) (i : ℕ) (x : X) → i < length xs → x ≡ get_or xs i x → take (i + 1) xs ≡ take i xs ++ x ∷ []
taken xs i x h s = take_more xs i x h ∙ ap (λ y. take i xs ++ y ∷ []) (sym s)

length_taken : {X : Type 0} → (xs : List X) (i : ℕ) → i < length xs → length (take i xs) ≡ i
length_taken xs i h = length-take-le i xs (omega (arith, h))

-- ---- by the quads of a template

module _ {X Y : Type 0} (f : X → List Y) (xs : List X) (i : ℕ) (x : X) (h : i < length xs) (s : x ≡ get_or xs i x) where
  pub one_more : flat_map f (take (i + 1) xs) ≡ flat_map f (take i xs) ++ f x
  one_more = ap (flat_map f) (taken xs i x h s) ∙ (flat_map-append f (take i xs) (x ∷ []) ∙ ap (λ l. flat_map f (take i xs) ++ l) (append-nil (f x)))

-- the same behind other quads
module _ {X : Type 0} (f : X → List Statement) (xs : List X) (i : ℕ) (x : X) (h : i < length xs) (s : x ≡ get_or xs i x) (quads one : List Statement) (e : f x ≡ one) where
  pub behind : (quads ++ flat_map f (take i xs)) ++ one ≡ quads ++ flat_map f (take (i + 1) xs)
  behind = append_assoc quads (flat_map f (take i xs)) one ∙ ap (λ l. quads ++ l) (ap (λ l. flat_map f (take i xs) ++ l) (sym e) ∙ sym (one_more f xs i x h s))

  whole : quads ++ flat_map f xs ≡ ((quads ++ flat_map f (take i xs)) ++ one) ++ flat_map f (drop (i + 1) xs)
  whole =
      ap (λ l. quads ++ l) (ap (flat_map f) (sym (take-append-drop (i + 1) xs)) ∙ flat_map-append f (take (i + 1) xs) (drop (i + 1) xs))
      ∙ (sym (append_assoc quads (flat_map f (take (i + 1) xs)) (flat_map f (drop (i + 1) xs))) ∙ ap (λ l. l ++ flat_map f (drop (i + 1) xs)) (sym behind))

  pub full_behind : (fault : StoreFault) (now limit : ℕ) (known : List Term) → now ≡ limit → IsFullAt fault now (length (with_terms_of known ((quads ++ flat_map f (take i xs)) ++ one))) → IsFullAt fault limit (length (with_terms_of known (quads ++ flat_map f xs)))
  full_behind fault now limit known l h =
      full_of_more fault limit known ((quads ++ flat_map f (take i xs)) ++ one) (flat_map f (drop (i + 1) xs)) (quads ++ flat_map f xs) whole
      (subst (λ n. IsFullAt fault n (length (with_terms_of known ((quads ++ flat_map f (take i xs)) ++ one)))) l h)

-- ---- by solutions

next_more : (next b n : ℕ) → (next + b) + b * n ≡ next + b * suc n
next_more next b n = omega arith

pub instances_append : (t : Template) (next : ℕ) (xs ys : List Solution) → instances t next (xs ++ ys) ≡ instances t next xs ++ instances t (next_after t next (length xs)) ys
instances_append t next [] ys = let e : next + t.blanks * 0 ≡ next = omega arith in ap (λ n. instances t n ys) (sym e)
instances_append t next (x ∷ xs) ys =
    ap (λ l. instances_under t next x ++ l) (instances_append t (next + t.blanks) xs ys ∙ ap (λ n. instances t (next + t.blanks) xs ++ instances t n ys) (next_more next t.blanks (length xs)))
    ∙ sym (append_assoc (instances_under t next x) (instances t (next + t.blanks) xs) (instances t (next_after t next (suc (length xs))) ys))

module _ {X : Type 0} (t : Template) (next : ℕ) (f : X → Solution) (xs : List X) (i : ℕ) (x : X) (h : i < length xs) (s : x ≡ get_or xs i x) (first : ℕ) (is : first ≡ next_after t next i) where
  -- the number of the first fresh blank node of the next solution
  pub next_first : first + t.blanks ≡ next_after t next (i + 1)
  next_first = let e = next_more next t.blanks i in omega (arith, is, e)

  pub more_instances : instances t next (map f (take (i + 1) xs)) ≡ instances t next (map f (take i xs)) ++ instances_under t first (f x)
  more_instances =
      let before = map f (take i xs) in
      let count : length before ≡ i = length-map (take i xs) f ∙ length_taken xs i h in
      let number : next_after t next (length before) ≡ first = ap (next_after t next) count ∙ sym is in
      ap (instances t next) (ap (map f) (taken xs i x h s) ∙ map-append f (take i xs) (x ∷ []))
      ∙ (instances_append t next before (f x ∷ [])
      ∙ ap (λ l. instances t next before ++ l) (ap (λ n. instances t n (f x ∷ [])) number ∙ append-nil (instances_under t first (f x))))

  -- those of the solutions after it
  abbrev pub rest_of_instances : List Statement
  rest_of_instances = instances t (next_after t next (length (map f (take (i + 1) xs)))) (map f (drop (i + 1) xs))

  pub with_rest_of_instances : instances t next (map f xs) ≡ (instances t next (map f (take i xs)) ++ instances_under t first (f x)) ++ rest_of_instances
  with_rest_of_instances =
      ap (instances t next) (ap (map f) (sym (take-append-drop (i + 1) xs)) ∙ map-append f (take (i + 1) xs) (drop (i + 1) xs))
      ∙ (instances_append t next (map f (take (i + 1) xs)) (map f (drop (i + 1) xs)) ∙ ap (λ l. l ++ rest_of_instances) more_instances)
