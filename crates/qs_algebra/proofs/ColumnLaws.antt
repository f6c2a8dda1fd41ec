-- The columns of a table, one more.
use Rattle.std.proofs.Common.{◌≡◌, ℕ, ◌+◌, ◌<◌, Bool, ◌||◌, ◌&&◌, ◌==◌, List, length, take, get_or, slice_set, true, sym, ap, ◌∙◌, arith}
use Rattle.std.specs.List.{list_any}
use Rattle.std.proofs.lemmas.List.Folds.{list_any_more}
use Rattle.qs_algebra.specs.inner.Flags.{flags_from}
use Rattle.qs_algebra.specs.inner.Flags.{flag_at}
use Rattle.qs_algebra.proofs.FlagLaws.{same_flags, flag_is}
use Rattle.qs_algebra.proofs.MentionLaws.{set_one}

pub set_here : (f : ℕ → Bool) (n k : ℕ) → slice_set (flags_from f 0 n) k true ≡ flags_from (λ w. f w || (k == w)) 0 n
set_here f n k = set_one f 0 n k ∙ same_flags _ _ 0 n (λ w low high. ap (λ x. f w || (x == w)) (omega arith))

pub column_more : (vs : List ℕ) (i n d v : ℕ) (flags flags' : List Bool) → i < length vs → v ≡ get_or vs i d → flags ≡ flags_from (λ w. list_any (λ x. x == w) (take i vs)) 0 n
    → flags' ≡ slice_set flags v true → flags' ≡ flags_from (λ w. list_any (λ x. x == w) (take (i + 1) vs)) 0 n
column_more vs i n d v flags flags' lt is h e =
    e ∙ ap (λ l. slice_set l v true) h ∙ set_here (λ w. list_any (λ x. x == w) (take i vs)) n v
    ∙ same_flags _ _ 0 n (λ w low high. ap (λ x. list_any (λ y. y == w) (take i vs) || (x == w)) is ∙ sym (list_any_more (λ x. x == w) vs i d lt))

-- the flags of both, by their answers
pub both_are : (f g : ℕ → Bool) (n : ℕ) (xs ys flags : List Bool) → xs ≡ flags_from f 0 n → ys ≡ flags_from g 0 n → flags ≡ flags_from (λ v. flag_at xs v && flag_at ys v) 0 n → flags ≡ flags_from (λ v. f v && g v) 0 n
both_are f g n xs ys flags h k e =
    e ∙ same_flags _ _ 0 n (λ v low high.
    let below : v < n = omega (arith, high) in
    ap (λ l. flag_at l v && flag_at ys v) h ∙ ap (λ b. b && flag_at ys v) (flag_is f n v below) ∙ ap (λ b. f v && b) (ap (λ l. flag_at l v) k ∙ flag_is g n v below))

pub either_are : (f g : ℕ → Bool) (n : ℕ) (xs ys flags : List Bool) → xs ≡ flags_from f 0 n → ys ≡ flags_from g 0 n → flags ≡ flags_from (λ v. flag_at xs v || flag_at ys v) 0 n → flags ≡ flags_from (λ v. f v || g v) 0 n
either_are f g n xs ys flags h k e =
    e ∙ same_flags _ _ 0 n (λ v low high.
    let below : v < n = omega (arith, high) in
    ap (λ l. flag_at l v || flag_at ys v) h ∙ ap (λ b. b || flag_at ys v) (flag_is f n v below) ∙ ap (λ b. f v || b) (ap (λ l. flag_at l v) k ∙ flag_is g n v below))
