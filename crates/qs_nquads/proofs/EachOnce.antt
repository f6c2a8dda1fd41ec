-- The statements in the order of their lines are those that were given, each once.
use Rattle.std.proofs.Common.{◌≡◌, ◌⊎◌, inl, inr, zero, suc, ◌<◌, List, [], ◌∷◌, length, map, sym, ap, subst, arith, Ordering}
use Rattle.std.specs.Prelude.{◌↔◌}
use Rattle.std.specs.declared.cmp.Ordering.TheVariants.{Less, Equal, Greater}
use Rattle.std.specs.Ordering.{nat_cmp, match_ordering}
use Rattle.std.specs.Cmp.Lexicographic.{slice_cmp}
use Rattle.std.specs.List.{Contains}
use Rattle.qs_terms.specs.Statement.{Statement}
use Rattle.qs_nquads.specs.Written.{line, put_in, ordered}
use Rattle.qs_nquads.specs.inner.Renumbered.{IsQuad, AreQuads}
use Rattle.qs_nquads.proofs.Sorting.{In, has_lines}
use Rattle.qs_nquads.proofs.WholeText.{ordered_quads}
use Rattle.qs_nquads.proofs.OneReading.{same_line}

in_from : (xs : List Statement) (z : Statement) → Contains xs z → In z xs
in_from [] z (k, h, e) = absurd (omega arith)
in_from (x ∷ xs) z (zero, h, e) = inl (sym e)
in_from (x ∷ xs) z (suc k, h, e) = inr (in_from xs z (k, omega arith, e))

in_to : (xs : List Statement) (z : Statement) → In z xs → Contains xs z
in_to [] z h = absurd h
in_to (x ∷ xs) z h = elim h [ inl e ↦ (0, omega arith, sym e) | inr i ↦ (let c : Contains xs z = in_to xs z i in (suc c.0, (let l : c.0 < length xs = c.1 in omega arith), c.2)) ]

quad_in : (qs : List Statement) (q : Statement) → AreQuads qs → In q qs → IsQuad q
quad_in [] q h i = absurd i
quad_in (r ∷ qs) q h i = elim i [ inl e ↦ subst IsQuad (sym e) h.0 | inr j ↦ quad_in qs q h.1 j ]

line_in : (qs : List Statement) (q : Statement) → In q qs → In (line q) (map line qs)
line_in [] q i = absurd i
line_in (r ∷ qs) q i = elim i [ inl e ↦ inl (ap line e) | inr j ↦ inr (line_in qs q j) ]

of_line : (qs : List Statement) (q : Statement) → IsQuad q → AreQuads qs → In (line q) (map line qs) → In q qs
of_line [] q hq h i = absurd i
of_line (r ∷ qs) q hq h i = elim i [ inl e ↦ inl (same_line q r hq h.0 e) | inr j ↦ inr (of_line qs q hq h.1 j) ]

put_at : (o : Ordering) (q r : Statement) (rs more : List Statement) (z : Statement) → (In z more → (z ≡ q) ⊎ In z rs) → In z (match_ordering o (q ∷ r ∷ rs) (r ∷ rs) (r ∷ more)) → (z ≡ q) ⊎ In z (r ∷ rs)
put_at Less q r rs more z f h = h
put_at Equal q r rs more z f h = inr h
put_at Greater q r rs more z f h = elim h [ inl a ↦ inr (inl a) | inr i ↦ (elim (f i) [ inl a ↦ inl a | inr j ↦ inr (inr j) ]) ]

put_from : (q : Statement) (rs : List Statement) (z : Statement) → In z (put_in q rs) → (z ≡ q) ⊎ In z rs
unfolding put_in
put_from q [] z h = h
put_from q (r ∷ rs) z h = put_at (slice_cmp nat_cmp (line q) (line r)) q r rs (put_in q rs) z (put_from q rs z) h

from_ordered : (qs : List Statement) (z : Statement) → In z (ordered qs) → In z qs
unfolding ordered
from_ordered [] z h = h
from_ordered (q ∷ qs) z h = elim (put_from q (ordered qs) z h) as (λ _. In z (q ∷ qs)) [ inl a ↦ inl a | inr i ↦ inr (from_ordered qs z i) ]

pub same_quads : (qs : List Statement) (q : Statement) → AreQuads qs → Contains (ordered qs) q ↔ Contains qs q
same_quads qs q h = (
  λ c. in_to qs q (from_ordered qs q (in_from (ordered qs) q c)),
  λ c. (let i : In q qs = in_from qs q c in in_to (ordered qs) q (of_line (ordered qs) q (quad_in qs q h i) (ordered_quads qs h) (has_lines qs (line q) (line_in qs q i)))),
)
