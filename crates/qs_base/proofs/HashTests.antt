-- The order by hashes tells values apart as their own order does.
use Rattle.std.proofs.Common.{◌≡◌, ℕ, Bool, true, false, ◌&&◌, nat_eq, nat_cmp, is_eq, refl, sym, ◌∙◌, ap}
use Rattle.std.specs.Bool.{Decides}
use Rattle.std.specs.Cmp.{both_tied, unsigned_ties}
use Rattle.std.specs.Ordering.{ordering_then}
use Rattle.std.specs.declared.cmp.Ordering.{Ordering}
use Rattle.std.proofs.lemmas.Bool.{eq-eqb}

module _ {K : Type 0} (same : K → K → Bool) (decides : (a b : K) → Decides (same a b) (a ≡ b)) (hash : K → ℕ) (order : K → K → Ordering) (ties : (a b : K) → same a b ≡ is_eq (order a b)) where
  both_at : (s t : Bool) → (t ≡ true → s ≡ true) → (s && t) ≡ t
  both_at true t f = refl
  both_at false true f = f refl
  both_at false false f = refl

  pub tells : (a b : K) → is_eq (ordering_then (nat_cmp (hash a) (hash b)) (order a b)) ≡ same a b
  tells a b =
      sym (both_tied (nat_eq (hash a) (hash b)) (same a b) (nat_cmp (hash a) (hash b)) (order a b) (unsigned_ties (hash a) (hash b)) (ties a b))
      ∙ both_at (nat_eq (hash a) (hash b)) (same a b) (λ t. eq-eqb (hash a) (hash b) (ap hash ((decides a b).0 t)))
