-- What chains of `||` and `&&` say in words.
use Rattle.std.proofs.Common.{◌≡◌, Bool, true, false, List, [], ◌∷◌, Option, Some, None, refl, ap, ◌∙◌, if◌then◌else◌}
use Rattle.std.specs.List.{list_any}
use Rattle.std.specs.Option.{is_none}
use Rattle.qs_expr_meaning.specs.Truth.{either, both, any, every}
use Rattle.qs_expr_meaning.specs.inner.Words.{is, any_said, every_said}

either_error : (t e : Bool) → either None (if t then Some true else (if e then None else Some false)) ≡ (if t then Some true else None)
either_error true e = refl
either_error false true = refl
either_error false false = refl

both_error : (t e : Bool) → both None (if t then Some false else (if e then None else Some true)) ≡ (if t then Some false else None)
both_error true e = refl
both_error false true = refl
both_error false false = refl

pub any_in_words : (xs : List (Option Bool)) → any xs ≡ any_said xs
any_in_words [] = refl
any_in_words (Some true ∷ xs) = refl
any_in_words (Some false ∷ xs) = any_in_words xs
any_in_words (None ∷ xs) = ap (either None) (any_in_words xs) ∙ either_error (list_any (is true) xs) (list_any is_none xs)

pub every_in_words : (xs : List (Option Bool)) → every xs ≡ every_said xs
every_in_words [] = refl
every_in_words (Some false ∷ xs) = refl
every_in_words (Some true ∷ xs) = every_in_words xs
every_in_words (None ∷ xs) = ap (both None) (every_in_words xs) ∙ both_error (list_any (is false) xs) (list_any is_none xs)
