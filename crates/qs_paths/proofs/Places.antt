-- Places of nodes in a set.
use Rattle.std.proofs.Common.{◌≡◌, ℕ, ◌+◌, Bool, true, false, not, cond, true≢false, List, [], ◌∷◌, ◌++◌, length, Some, slice_get, refl, sym, ap, ◌∙◌, arith}
use Rattle.std.specs.List.{list_any}
use Rattle.std.proofs.lemmas.Bool.Decides.{Decides-eqb}
use Rattle.std.proofs.lemmas.List.{length-append, get_or_append_left}
use Rattle.std.proofs.lemmas.Option.{get_or_from_slice_get, slice_get_within}
use Rattle.qs_paths_meaning.specs.inner.Links.{same_number}
use Rattle.qs_paths.specs.inner.Links.{StandsAt}

pub stands_more : (nodes more : List ℕ) (at n : ℕ) → StandsAt nodes at n → StandsAt (nodes ++ more) at n
stands_more nodes more at n h = (
  let e : length (nodes ++ more) ≡ length nodes + length more = length-append nodes more in omega (arith, e, h.0),
  get_or_append_left nodes more n at h.0 ∙ h.1,
)

-- where a set tells that it keeps the node
pub stands_there : (nodes : List ℕ) (n at k : ℕ) → slice_get nodes at ≡ Some k → same_number n k ≡ true → StandsAt nodes at n
stands_there nodes n at k e s = (slice_get_within nodes at k e, get_or_from_slice_get nodes at k n e ∙ sym ((Decides-eqb n k).0 s))

-- ---- a node that is put into a set

pub is_absent : (there b : Bool) → b ≡ not there → b ≡ true → there ≡ false
is_absent false b e h = refl
is_absent true b e h = absurd (true≢false (sym h ∙ e))

pub is_there : (there b : Bool) → b ≡ not there → b ≡ false → there ≡ true
is_there true b e h = refl
is_there false b e h = absurd (true≢false (sym e ∙ h))

pub keys_with : (b : Bool) (nodes nodes' : List ℕ) (n : ℕ) → list_any (same_number n) nodes ≡ b → nodes' ≡ cond (list_any (same_number n) nodes) nodes (nodes ++ n ∷ []) → nodes' ≡ cond b nodes (nodes ++ n ∷ [])
keys_with b nodes nodes' n f e = e ∙ ap (λ c. cond c nodes (nodes ++ n ∷ [])) f
