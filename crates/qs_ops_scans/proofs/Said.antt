-- What the entries of a scan say: nothing twice, where they ascend and what they say tells them apart.
use Rattle.std.proofs.Common.{◌≡◌, ℕ, Bool, true, false, Some, List, [], ◌∷◌, map, refl, sym, ◌∙◌, ap, subst}
use Rattle.std.specs.Bool.{Decides}
use Rattle.std.specs.List.{Contains, list_any}
use Rattle.qs_terms.specs.Bag.{Distinct}
use Rattle.qs_terms.specs.declared.term.Term.{Term}
use Rattle.qs_dict.specs.inner.Dict.{term_at}
use Rattle.qs_index.specs.inner.Entry.{IsAscending}
use Rattle.qs_store.specs.inner.ActiveGraph.{IsSeen}
use Rattle.qs_store.specs.Content.{Content}
use Rattle.qs_store.specs.inner.Entries.{or_blank}
use Rattle.qs_store.proofs.Members.{before_member, here, not_before_itself, there}
use Rattle.qs_store.proofs.TriplesSaid.{same_number}
use Rattle.qs_paths.proofs.Lists.{map_has, member_of_map, of_any}

-- the terms determine the numbers
pub one_number : (c : Content) → IsSeen c → (n k : ℕ) (t u : Term) → term_at c.known n ≡ Some t → term_at c.known k ≡ Some u → or_blank (term_at c.known n) ≡ or_blank (term_at c.known k) → n ≡ k
one_number c seen n k t u e f g =
    let h : t ≡ u = sym (ap or_blank e) ∙ (g ∙ ap or_blank f) in
    same_number c.known seen.lawful.terms_once n k u (e ∙ ap Some h) f

module _ {Y : Type 0} (same : Y → Y → Bool) (exact : (a b : Y) → Decides (same a b) (a ≡ b)) (say : List ℕ → Y) (turn : List ℕ → List ℕ) (Is : List ℕ → Type 0) (one : (x z : List ℕ) → Is x → Is z → say x ≡ say z → x ≡ z) where
  none_again : (x : List ℕ) (xs : List (List ℕ)) → Is x → ((z : List ℕ) → Contains xs z → Is z) → IsAscending (map turn (x ∷ xs)) → (b : Bool) → list_any (same (say x)) (map say xs) ≡ b → b ≡ false
  none_again x xs h each up true e =
      let m = member_of_map say (say x) xs (of_any same exact (say x) (map say xs) e) in
      let i : x ≡ m.of = one x m.of h (each m.of m.stands) (sym m.is) in
      let k : Contains (map turn xs) (turn x) = map_has turn x xs (subst (Contains xs) (sym i) m.stands) in
      let f = before_member (turn x) (map turn xs) (turn x) up.0 k in
      let g : true ≡ false = sym f ∙ not_before_itself (turn x) in g
  none_again x xs h each up false e = refl

  pub said_distinct : (xs : List (List ℕ)) → ((z : List ℕ) → Contains xs z → Is z) → IsAscending (map turn xs) → Distinct same (map say xs)
  said_distinct [] each up = tt
  said_distinct (x ∷ xs) each up =
      (none_again x xs (each x (here x xs)) (λ z k. each z (there x z xs k)) up (list_any (same (say x)) (map say xs)) refl, said_distinct xs (λ z k. each z (there x z xs k)) up.1)
