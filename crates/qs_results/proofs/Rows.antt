-- Small answers, computed by the definitions.
use Rattle.std.proofs.Common.{◌≡◌, [], ◌∷◌, true, codes, Some, None, refl}
use Rattle.std.specs.Fmt.{digits}
use Rattle.serde_json.specs.Written.{compact_text}
use Rattle.serde_json.proofs.OnLiterals.{serde_json_on_literals}
use Rattle.qs_terms.specs.declared.term.Term.TheVariants.{Blank, Iri}
use Rattle.qs_algebra_solutions.specs.declared.answer.Answer.TheVariants.{Solutions, Truth}
use Rattle.qs_results.specs.Json.{json_of}

-- the one solution that binds nothing is an empty object
one_empty_row : compact_text (json_of (Solutions [] ([] ∷ []))) ≡ codes "{\"head\":{\"vars\":[]},\"results\":{\"bindings\":[{}]}}"
unfolding serde_json_on_literals
one_empty_row = refl

no_rows : compact_text (json_of (Solutions [] [])) ≡ codes "{\"head\":{\"vars\":[]},\"results\":{\"bindings\":[]}}"
unfolding serde_json_on_literals
no_rows = refl

-- the names keep their order, and the members of a solution ascend
two_names : compact_text (json_of (Solutions (codes "z" ∷ codes "a" ∷ []) ((Some (Iri (codes "e:a")) ∷ Some (Iri (codes "e:b")) ∷ []) ∷ [])))
    ≡ codes "{\"head\":{\"vars\":[\"z\",\"a\"]},\"results\":{\"bindings\":[{\"a\":{\"type\":\"uri\",\"value\":\"e:b\"},\"z\":{\"type\":\"uri\",\"value\":\"e:a\"}}]}}"
unfolding serde_json_on_literals
two_names = refl

-- what is unbound is left out, and a blank node is `b` and its number
two_rows : compact_text (json_of (Solutions (codes "a" ∷ []) ((None ∷ []) ∷ (Some (Blank 20) ∷ []) ∷ [])))
    ≡ codes "{\"head\":{\"vars\":[\"a\"]},\"results\":{\"bindings\":[{},{\"a\":{\"type\":\"bnode\",\"value\":\"b20\"}}]}}"
unfolding serde_json_on_literals digits
two_rows = refl

truth : compact_text (json_of (Truth true)) ≡ codes "{\"boolean\":true,\"head\":{}}"
unfolding serde_json_on_literals
truth = refl
