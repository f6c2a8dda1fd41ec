-- What the tokens of rows result in.
use Rattle.std.proofs.Common.{◌≡◌, ◌≤◌, ℕ, List, [], ◌∷◌, ◌++◌, false, map, length, drop, sym, ◌∙◌, ap, append_assoc}
use Rattle.std.proofs.lemmas.List.{drop_all}
use Rattle.json.specs.Token.{Token}
use Rattle.json.specs.Tree.{items_tokens, members_tokens}
use Rattle.json.specs.Print.{print, print_from}
use Rattle.serde_json.specs.Data.{Items, array, object}
use Rattle.serde_json.specs.View.{items_of}
use Rattle.serde_json.specs.Written.{items_outline, items_text, members_outline}
use Rattle.serde_json.proofs.Texts.{print-outline}
use Rattle.qs_algebra_solutions.specs.Solution.{Solution}
use Rattle.qs_results.specs.Json.{binding_data}
use Rattle.qs_results.specs.inner.Columns.{members_of, tokens_of}

-- the tokens of a row, once none of its columns is left
module _ (cs : List (List ℕ × ℕ)) (row : Solution) where
  abbrev left_of : ℕ → List Token
  left_of i = members_tokens (members_outline (members_of (drop i cs) row))

  pub row_written : (i : ℕ) (before old now : List Token) → length cs ≤ i → old ++ left_of i ≡ before ++ Token.begin_object ∷ members_tokens (members_outline (members_of cs row)) → now ≡ old ++ Token.end_object ∷ []
      → now ≡ before ++ tokens_of (object (members_of cs row))
  row_written i before old now l e n = n ∙ (ap (λ z. old ++ members_tokens (members_outline (members_of z row))) (sym (drop_all i cs l)) ∙ e)

-- the text of items after their opening bracket
items_print : (ds : Items) → print (items_tokens (items_outline ds)) ≡ items_text false ds
unfolding print_from
items_print ds = ap (λ s. drop 1 s) (print-outline (array ds))

-- the text of the rows, once none is left
module _ (names : List (List ℕ)) (rows : List Solution) where
  abbrev rows_from : List Solution → Items
  rows_from some = items_of (map (binding_data names) some)

  pub rows_written : (i : ℕ) (before after out : List ℕ) (old now : List Token) → length rows ≤ i → old ++ items_tokens (items_outline (rows_from (drop i rows))) ≡ items_tokens (items_outline (rows_from rows))
      → now ≡ old ++ Token.end_array ∷ [] → after ≡ before → out ≡ after ++ print now → out ≡ before ++ items_text false (rows_from rows)
  rows_written i before after out old now l e n b o =
      let whole : now ≡ items_tokens (items_outline (rows_from rows)) = n ∙ (ap (λ z. old ++ items_tokens (items_outline (rows_from z))) (sym (drop_all i rows l)) ∙ e) in
      rw (o, b) (ap (λ z. before ++ z) (ap print whole ∙ items_print (rows_from rows)))

-- four pieces, one after the other
pub behind : (a b c d e more last : List Token) (x w : Token) → b ≡ a ++ x ∷ [] → c ≡ b ++ more → d ≡ c ++ last → e ≡ d ++ w ∷ [] → e ≡ a ++ (x ∷ (more ++ (last ++ (w ∷ []))))
behind a b c d e more last x w e1 e2 e3 e4 = rw (e4, e3, e2, e1) (simp append_assoc)
