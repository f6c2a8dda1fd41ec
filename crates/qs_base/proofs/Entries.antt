-- The entries of an ordered map, found by the values of their keys.
use Rattle.std.proofs.Common.{◌≡◌, Bool, true, false, cond, List, [], ◌∷◌, Option, Some, None, is_eq, refl, sym, ◌∙◌, ap}
use Rattle.std.specs.Bool.{Decides}
use Rattle.std.specs.BTreeMap.{is_at, insert_entry}
use Rattle.std.specs.Map.{lookup, set_value}
use Rattle.std.specs.Ordering.{match_ordering}
use Rattle.std.specs.declared.cmp.Ordering.{Ordering}
use Rattle.std.specs.declared.cmp.Ordering.TheVariants.{Less, Equal, Greater}

module _ {K : Type 0} (same : K → K → Bool) (decides : (a b : K) → Decides (same a b) (a ≡ b)) (order : K → K → Ordering) (test : (a b : K) → is_eq (order a b) ≡ same a b) where
  apart_at : (x k e : K) → same k e ≡ false → same x k ≡ true → same x e ≡ true → ⊥
  apart_at x k e f a b =
      let i : k ≡ e = sym ((decides x k).0 a) ∙ (decides x e).0 b in
      let t : same k e ≡ true = (decides k e).1 i in
      let z : true ≡ false = sym t ∙ f in cc

  module _ {V : Type 0} where
    abbrev find : K → List (K × V) → Option V
    find x es = lookup (same x) es

    -- the map finds a key by its value
    pub find_is : (x : K) (es : List (K × V)) → lookup (is_at (order x)) es ≡ find x es
    find_is x [] = refl
    find_is x (e ∷ es) = rw (test x e.0, find_is x es) refl

    twice_at : (a b : Bool) (v w : Option V) (r s : Option V) → (a ≡ true → b ≡ true → ⊥) → s ≡ cond a v r → cond b w s ≡ cond a v (cond b w r)
    twice_at true true v w r s apart e = absurd (apart refl refl)
    twice_at true false v w r s apart e = e
    twice_at false true v w r s apart e = refl
    twice_at false false v w r s apart e = e

    again_at : (b : Bool) (v w r : Option V) → cond b v r ≡ cond b v (cond b w r)
    again_at true v w r = refl
    again_at false v w r = refl

    -- a value that is written at a key that is there
    pub find_set : (x k : K) (es : List (K × V)) (v w : V) → find k es ≡ Some v → find x (set_value (is_at (order k)) es w) ≡ cond (same x k) (Some w) (find x es)
    find_set x k [] v w h = let z : None ≡ Some v = h in cc
    find_set x k (e ∷ es) v w h =
        ap (λ c. find x (cond c ((e.0, w) ∷ es) (e ∷ set_value (is_at (order k)) es w))) (test k e.0)
        ∙ by (same k e.0) refl (λ g. find_set x k es v w g)
      where
        by : (c : Bool) → same k e.0 ≡ c → (find k es ≡ Some v → find x (set_value (is_at (order k)) es w) ≡ cond (same x k) (Some w) (find x es))
            → find x (cond c ((e.0, w) ∷ es) (e ∷ set_value (is_at (order k)) es w)) ≡ cond (same x k) (Some w) (cond (same x e.0) (Some e.1) (find x es))
        by true i ih =
            ap (λ (z : K). cond (same x z) (Some w) (find x es)) (sym ((decides k e.0).0 i))
            ∙ (again_at (same x k) (Some w) (Some e.1) (find x es) ∙ ap (λ (z : K). cond (same x k) (Some w) (cond (same x z) (Some e.1) (find x es))) ((decides k e.0).0 i))
        by false i ih =
            twice_at (same x k) (same x e.0) (Some w) (Some e.1) (find x es) _ (apart_at x k e.0 i)
            (ih (sym (ap (λ c. cond c (Some e.1) (find k es)) i) ∙ h))

    -- a new key
    pub find_insert : (x : K) (k : K) (es : List (K × V)) (w : V) → find x (insert_entry order es k w) ≡ cond (same x k) (Some w) (find x es)
    find_insert x k [] w = refl
    find_insert x k (e ∷ es) w = by (order k e.0) refl (find_insert x k es w)
      where
        by : (o : Ordering) → order k e.0 ≡ o → find x (insert_entry order es k w) ≡ cond (same x k) (Some w) (find x es)
            → find x (match_ordering o ((k, w) ∷ e ∷ es) ((e.0, w) ∷ es) (e ∷ insert_entry order es k w)) ≡ cond (same x k) (Some w) (cond (same x e.0) (Some e.1) (find x es))
        by Less o ih = refl
        by Equal o ih =
            let i : k ≡ e.0 = (decides k e.0).0 (sym (test k e.0) ∙ ap is_eq o) in
            ap (λ (z : K). cond (same x z) (Some w) (find x es)) (sym i)
            ∙ (again_at (same x k) (Some w) (Some e.1) (find x es) ∙ ap (λ (z : K). cond (same x k) (Some w) (cond (same x z) (Some e.1) (find x es))) i)
        by Greater o ih =
            twice_at (same x k) (same x e.0) (Some w) (Some e.1) (find x es) _
            (apart_at x k e.0 (sym (test k e.0) ∙ ap is_eq o)) ih
