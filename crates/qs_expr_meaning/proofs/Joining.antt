-- One string after another is all strings joined.
use Rattle.std.proofs.Common.{◌≡◌, List, [], ◌∷◌, ◌++◌, Option, Some, None, refl, ap, sym, ◌∙◌, append_assoc, append-nil}
use Rattle.std.specs.List.{fold}
use Rattle.std.specs.Option.{option_map, option_and_then, unwrap_or}
use Rattle.std.specs.Prelude.{ℕ}
use Rattle.qs_terms.specs.Literal.{Literal}
use Rattle.qs_terms.specs.declared.term.Term.{Term}
use Rattle.qs_expr_values.specs.Values.{strung}
use Rattle.qs_expr_meaning.specs.Calls.{Value, string_of, strings, common_tag, joined}
use Rattle.qs_expr_meaning.specs.inner.Calls.{literal_parts, forms, agreed}
use Rattle.qs_expr_meaning.specs.inner.Joined.{SoFar, Tag, nothing, with_tag, with_parts, with_value, joined_from}

abbrev tag_after : Option Tag → List Literal → Tag
tag_after None ls = common_tag ls
tag_after (Some t) ls = fold agreed t ls

abbrev with_all : SoFar → List Literal → Term
with_all s ls = strung (tag_after s.1 ls) (s.0 ++ forms ls)

at_end : (t : Option Tag) (form : List ℕ) → strung (unwrap_or t None) form ≡ strung (tag_after t []) (form ++ [])
at_end None form = ap (strung None) (sym (append-nil form))
at_end (Some t) form = ap (strung t) (sym (append-nil form))

tags : (t : Option Tag) (l : Literal) (ls : List Literal) → tag_after (Some (with_tag t l.tag)) ls ≡ tag_after t (l ∷ ls)
tags None l ls = refl
tags (Some t) l ls = refl

module _ (s : SoFar) (l : Literal) where
  more : (q : Option (List Literal)) → option_map (with_all (with_parts s (l.form, l.tag))) q ≡ option_map (with_all s) (option_map (λ ls. l ∷ ls) q)
  more None = refl
  more (Some ls) =
      ap (λ form. Some (strung (tag_after (Some (with_tag s.1 l.tag)) ls) form)) (append_assoc s.0 l.form (forms ls))
      ∙ ap (λ t. Some (strung t (s.0 ++ (l.form ++ forms ls)))) (tags s.1 l ls)

step : (s : SoFar) (xs : List Value) → ((n : SoFar) → joined_from n xs ≡ option_map (with_all n) (strings xs)) → (o : Option Literal) → option_and_then (λ n. joined_from n xs) (option_map (with_parts s) (option_map literal_parts o)) ≡ option_map (with_all s) (option_and_then (λ l. option_map (λ ls. l ∷ ls) (strings xs)) o)
step s xs ih None = refl
step s xs ih (Some l) = ih (with_parts s (l.form, l.tag)) ∙ more s l (strings xs)

from : (s : SoFar) (xs : List Value) → joined_from s xs ≡ option_map (with_all s) (strings xs)
from s [] = ap Some (at_end s.1 s.0)
from s (None ∷ xs) = refl
from s (Some t ∷ xs) = step s xs (λ n. from n xs) (string_of t)

-- from the first string on, it is all strings joined
pub all_joined : (xs : List Value) → joined_from nothing xs ≡ option_map joined (strings xs)
all_joined xs = from nothing xs

pub one_more : (s n : SoFar) (x : Value) (xs : List Value) → option_and_then (with_value s) x ≡ Some n → joined_from s (x ∷ xs) ≡ joined_from n xs
one_more s n None xs h = cc
one_more s n (Some t) xs h = ap (option_and_then (λ next. joined_from next xs)) h

pub no_more : (s : SoFar) (x : Value) (xs : List Value) → option_and_then (with_value s) x ≡ None → joined_from s (x ∷ xs) ≡ None
no_more s None xs h = refl
no_more s (Some t) xs h = ap (option_and_then (λ next. joined_from next xs)) h
