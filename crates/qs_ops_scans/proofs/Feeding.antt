-- An end that a row binds may be given to a path where it is a node; where it is none, no pair ends there.
use Rattle.std.proofs.Common.{◌≡◌, Bool, true, false, cond, ◌⊎◌, inl, inr, List, [], ◌∷◌, Option, Some, None, refl, sym, ◌∙◌, ap, subst}
use Rattle.std.specs.List.{filter}
use Rattle.std.proofs.lemmas.List.Sorted.{IsPermutation-refl, IsPermutation-trans}
use Rattle.qs_terms.specs.Bag.{SameBag}
use Rattle.qs_terms.specs.Term.{same_term}
use Rattle.qs_terms.specs.declared.term.Term.{Term}
use Rattle.qs_terms.proofs.SameTerm.{same_term-Decides}
use Rattle.qs_syntax_ast.specs.declared.path.Path.{Path}
use Rattle.qs_paths_meaning.specs.Pair.{Pair}
use Rattle.qs_paths_meaning.specs.inner.Pair.{same_pair}
use Rattle.qs_paths_meaning.specs.Pairs.{AtEnds, pairs}
use Rattle.qs_paths_meaning.specs.Steps.{Graph, agrees, is_between}
use Rattle.qs_paths_meaning.proofs.Arms.{filter_same_by, same_pair-Decides}
use Rattle.qs_paths_meaning.proofs.Members.{Mem, mem_at, mem_of_filter, not_both}
use Rattle.qs_paths_meaning.proofs.Near.{Node, tied}
use Rattle.qs_paths_meaning.proofs.Steady.{at_left, at_right, steady}
use Rattle.qs_paths_meaning.proofs.WalkLaws.{both}
use Rattle.qs_paths.proofs.Listed.{no_member}

-- a filter by a test that says more
filter_within : {X : Type 0} (p q : X → Bool) → ((x : X) → p x ≡ true → q x ≡ true) → (xs : List X) → filter p (filter q xs) ≡ filter p xs
filter_within p q h [] = refl
filter_within p q h (x ∷ xs) = by (q x) refl (p x) refl (filter_within p q h xs)
  where
    by : (b : Bool) → q x ≡ b → (c : Bool) → p x ≡ c → filter p (filter q xs) ≡ filter p xs → filter p (cond b (x ∷ filter q xs) (filter q xs)) ≡ cond c (x ∷ filter p xs) (filter p xs)
    by true e c f i = ap (λ d. cond d (x ∷ filter p (filter q xs)) (filter p (filter q xs))) f ∙ ap (λ l. cond c (x ∷ l) l) i
    by false e true f i = not_both (q x) (h x f) e
    by false e false f i = i

-- what the text gives at an end, or a node that a row has there, where the text leaves it open
pub record IsNodeEnd (graph : Graph) (text bound end : Option Term) : Type 0 where
  pub term : Term
  pub free : text ≡ None
  pub has : bound ≡ Some term
  pub is : end ≡ Some term
  pub node : Node graph term

abbrev pub IsEnd : Graph → Option Term → Option Term → Option Term → Type 0
IsEnd graph text bound end = (end ≡ text) ⊎ IsNodeEnd graph text bound end

module _ (graph : Graph) (p : Path) where
  abbrev f : AtEnds
  f = pairs graph p

  open_left : (text bound end other right : Option Term) → IsEnd graph text bound end → SameBag (filter (is_between bound other) (f end right)) (filter (is_between bound other) (f text right))
  open_left text bound end other right (inl e) =
      subst (λ (z : Option Term). SameBag (filter (is_between bound other) (f end right)) (filter (is_between bound other) (f z right))) e (IsPermutation-refl _)
  open_left text bound end other right (inr w) =
      let x = w.term in
      let h : SameBag (filter (is_between (Some x) other) (f (Some x) right)) (filter (is_between (Some x) other) (at_left x (f None right))) =
      filter_same_by same_pair same_pair-Decides (is_between (Some x) other) (f (Some x) right) (at_left x (f None right)) ((steady graph p).left x right w.node) in
      let k : filter (is_between (Some x) other) (at_left x (f None right)) ≡ filter (is_between (Some x) other) (f None right) =
      filter_within (is_between (Some x) other) (λ (e : Pair). same_term x e.left) (λ e t. (both (same_term x e.left) (agrees other e.right) t).0) (f None right) in
      rw (w.free, w.has, w.is) (subst (SameBag (filter (is_between (Some x) other) (f (Some x) right))) k h)

  open_right : (text bound end other left : Option Term) → IsEnd graph text bound end → SameBag (filter (is_between other bound) (f left end)) (filter (is_between other bound) (f left text))
  open_right text bound end other left (inl e) =
      subst (λ (z : Option Term). SameBag (filter (is_between other bound) (f left end)) (filter (is_between other bound) (f left z))) e (IsPermutation-refl _)
  open_right text bound end other left (inr w) =
      let y = w.term in
      let h : SameBag (filter (is_between other (Some y)) (f left (Some y))) (filter (is_between other (Some y)) (at_right y (f left None))) =
      filter_same_by same_pair same_pair-Decides (is_between other (Some y)) (f left (Some y)) (at_right y (f left None)) ((steady graph p).right left y w.node) in
      let k : filter (is_between other (Some y)) (at_right y (f left None)) ≡ filter (is_between other (Some y)) (f left None) =
      filter_within (is_between other (Some y)) (λ (e : Pair). same_term y e.right) (λ e t. (both (agrees other e.left) (same_term y e.right) t).1) (f left None) in
      rw (w.free, w.has, w.is) (subst (SameBag (filter (is_between other (Some y)) (f left (Some y)))) k h)

  -- A BOUND END MAY BE GIVEN
  pub ends_given : (left right bound other l r : Option Term) → IsEnd graph left bound l → IsEnd graph right other r → SameBag (filter (is_between bound other) (f l r)) (filter (is_between bound other) (f left right))
  ends_given left right bound other l r h k =
      IsPermutation-trans _ _ _ (open_left left bound l other r h) (open_right right other r bound left k)

  -- from a term that is no node a path with this end open leads nowhere, but to itself where the text gives it
  no_left : (x : Term) (right : Option Term) → (right ≡ Some x → ⊥) → (Node graph x → ⊥) → (e : Pair) → Mem e (f None right) → x ≡ e.left → ⊥
  no_left x right apart out e m is =
      let b = tied graph p None right e m in
      elim b.near [
        | inr n ↦ out (mem_at e.left x _ (sym is) n.0)
        | inl s ↦ by right apart m b.at_right s
      ]
    where
      by : (o : Option Term) → (o ≡ Some x → ⊥) → Mem e (f None o) → agrees o e.right ≡ true → e.left ≡ e.right → ⊥
      by None a k t s = out (mem_at e.left x _ (sym is) ((steady graph p).within e k).0)
      by (Some y) a k t s = a (ap Some ((same_term-Decides y e.right).0 t ∙ (sym s ∙ sym is)))

  no_right : (y : Term) (left : Option Term) → (left ≡ Some y → ⊥) → (Node graph y → ⊥) → (e : Pair) → Mem e (f left None) → y ≡ e.right → ⊥
  no_right y left apart out e m is =
      let b = tied graph p left None e m in
      elim b.near [
        | inr n ↦ out (mem_at e.right y _ (sym is) n.1)
        | inl s ↦ by left apart m b.at_left s
      ]
    where
      by : (o : Option Term) → (o ≡ Some y → ⊥) → Mem e (f o None) → agrees o e.left ≡ true → e.left ≡ e.right → ⊥
      by None a k t s = out (mem_at e.right y _ (sym is) ((steady graph p).within e k).1)
      by (Some x) a k t s = a (ap Some ((same_term-Decides x e.left).0 t ∙ (s ∙ sym is)))

  -- NO PAIR ENDS AT A TERM THAT IS NO NODE
  pub none_at_left : (x : Term) (left right bound other : Option Term) → left ≡ None → bound ≡ Some x → (right ≡ Some x → ⊥) → (Node graph x → ⊥) → filter (is_between bound other) (f left right) ≡ []
  none_at_left x left right bound other free has apart out =
      rw (free, has)
      (no_member (filter (is_between (Some x) other) (f None right)) (λ e m.
      let w = mem_of_filter (is_between (Some x) other) e (f None right) m in
      no_left x right apart out e w.1 ((same_term-Decides x e.left).0 (both (same_term x e.left) (agrees other e.right) w.0).0)))

  pub none_at_right : (y : Term) (left right bound other : Option Term) → right ≡ None → other ≡ Some y → (left ≡ Some y → ⊥) → (Node graph y → ⊥) → filter (is_between bound other) (f left right) ≡ []
  none_at_right y left right bound other free has apart out =
      rw (free, has)
      (no_member (filter (is_between bound (Some y)) (f left None)) (λ e m.
      let w = mem_of_filter (is_between bound (Some y)) e (f left None) m in
      no_right y left apart out e w.1 ((same_term-Decides y e.right).0 (both (agrees bound e.left) (same_term y e.right) w.0).1)))
