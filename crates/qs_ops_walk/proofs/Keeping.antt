-- Rows of right sides in a list.
use Rattle.std.proofs.Common.{◌≡◌, inl, inr, ℕ, zero, suc, ◌<◌, List, [], ◌∷◌, ◌++◌, Option, length, get_or, refl, sym, subst, arith}
use Rattle.std.proofs.Math.ListN.{length-append}
use Rattle.std.specs.List.{AllByRecursion}
use Rattle.qs_expr.specs.declared.cell.Cell.{Cell}
use Rattle.qs_ops_tables.specs.inner.Tables.{KeptRows}
use Rattle.qs_ops_walk.specs.declared.right.Aside.{Aside}
use Rattle.qs_ops_walk.specs.inner.Works.{IsPut, Keeps}

-- ---- the one that is put

at_end : (old : List Aside) (a : Aside) → a ≡ get_or (old ++ a ∷ []) (length old) a
at_end [] a = refl
at_end (x ∷ old) a = at_end old a

end_inside : (old : List Aside) (a : Aside) → length old < length (old ++ a ∷ [])
end_inside old a = omega (arith, length-append old (a ∷ []))

pub put_keeps : (old : List Aside) (a : Aside) (new : List Aside) (n : ℕ) (x : Option Cell) (k : KeptRows) → IsPut old a new → a.cells ≡ n → a.name ≡ x → k ≡ a.kept → Keeps new n x k
put_keeps old a new n x k (inl e) c m is =
    subst (λ (list : List Aside). Keeps list n x k) (sym e) (record { a = a; at = length old; inside = end_inside old a; is = at_end old a; cells = c; name = m; kept = is })
put_keeps old a new n x k (inr e) c m is = subst (λ (list : List Aside). Keeps list n x k) (sym e) (record { a = a; at = 0; inside = omega arith; is = refl; cells = c; name = m; kept = is })

-- ---- what holds of each

module _ (P : Aside → Type 0) where
  all_push : (list : List Aside) (a : Aside) → AllByRecursion P list → P a → AllByRecursion P (list ++ a ∷ [])
  all_push [] a h k = (k, tt)
  all_push (x ∷ list) a h k = (h.0, all_push list a h.1 k)

  pub put_all : (old : List Aside) (a : Aside) (new : List Aside) → IsPut old a new → AllByRecursion P old → P a → AllByRecursion P new
  put_all old a new (inl e) h k = subst (AllByRecursion P) (sym e) (all_push old a h k)
  put_all old a new (inr e) h k = subst (AllByRecursion P) (sym e) (k, tt)

  at_place : (list : List Aside) (at : ℕ) (a : Aside) → at < length list → a ≡ get_or list at a → AllByRecursion P list → P a
  at_place [] at a l e h = let z : at < 0 = l in absurd (omega arith)
  at_place (x ∷ list) zero a l e h = subst P (sym e) h.0
  at_place (x ∷ list) (suc at) a l e h = at_place list at a (omega arith) e h.1

  pub kept_has : (list : List Aside) (n : ℕ) (x : Option Cell) (k : KeptRows) (z : Keeps list n x k) → AllByRecursion P list → P z.a
  kept_has list n x k z h = at_place list z.at z.a z.inside z.is h
