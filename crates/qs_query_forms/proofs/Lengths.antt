-- Sequences of the same solutions have one length.
use Rattle.std.proofs.Common.{◌≡◌, ◌-◌, ℕ, Bool, true, false, List, length, drop, min, map, Option, Some, None, sym, ap, ◌∙◌}
use Rattle.std.proofs.lemmas.List.{length-take, length-drop}
use Rattle.std.proofs.lemmas.List.Sorted.{length_permutation, IsPermutation-map}
use Rattle.qs_terms.specs.Bag.{SameBag}
use Rattle.qs_algebra_solutions.specs.Solution.{Solution, projected, same_solution}
use Rattle.qs_algebra_solutions.proofs.Same.{same_solution-Decides}
use Rattle.qs_query_forms.specs.Sequence.{sliced, listed_rows, IsSequence, count}
use Rattle.qs_query_forms.specs.inner.Sequence.{limited}
use Rattle.qs_query_forms.specs.inner.Sequence.{once_where}
use Rattle.qs_query_forms.specs.declared.selection.Selection.{Selection}
use Rattle.qs_query_forms.specs.declared.modifiers.Slice.{Slice}
use Rattle.qs_query_forms.proofs.Once.{same_once}

limited_length : (limit : Option ℕ) (xs ys : List Solution) → length xs ≡ length ys → length (limited limit xs) ≡ length (limited limit ys)
limited_length None xs ys h = h
limited_length (Some n) xs ys h = length-take n xs ∙ ap (min n) h ∙ sym (length-take n ys)

pub sliced_length : (slice : Slice) (xs ys : List Solution) → length xs ≡ length ys → length (sliced slice xs) ≡ length (sliced slice ys)
sliced_length slice xs ys h =
    limited_length slice.limit (drop slice.offset xs) (drop slice.offset ys) (length-drop slice.offset xs ∙ ap (λ n. n - slice.offset) h ∙ sym (length-drop slice.offset ys))

same_where : (distinct : Bool) (xs ys : List Solution) → SameBag xs ys → SameBag (once_where distinct xs) (once_where distinct ys)
same_where true xs ys h = same_once same_solution same_solution-Decides xs ys h
same_where false xs ys h = h

-- solutions in another order are listed in another order
same_listed : (asked : Selection) (a b : List Solution) → SameBag a b → SameBag (listed_rows asked a) (listed_rows asked b)
same_listed asked a b h =
    same_where asked.is_distinct (map (projected asked.columns) a) (map (projected asked.columns) b) (IsPermutation-map (projected asked.columns) a b h)

pub counts_agree : (asked : Selection) (a b : List Solution) → SameBag a b → count asked a ≡ count asked b
counts_agree asked a b h =
    sliced_length asked.slice (listed_rows asked a) (listed_rows asked b) (sym (length_permutation (listed_rows asked a) (listed_rows asked b) (same_listed asked a b h)))

pub length_of_sequence : (asked : Selection) (solutions rows : List Solution) → IsSequence asked solutions rows → length rows ≡ count asked solutions
length_of_sequence asked solutions rows s = ap length s.2 ∙ counts_agree asked s.0 solutions s.1.0
