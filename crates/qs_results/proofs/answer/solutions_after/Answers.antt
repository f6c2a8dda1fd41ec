use Rattle.std.proofs.Common.{◌≡◌, ℕ, List, ◌++◌, codes, false, map, append_assoc, IsUtf8, refl, sym, ap, ◌∙◌, subst}
use Rattle.std.proofs.lemmas.Str.{IsUtf8-string_bytes}
use Rattle.serde_json.specs.View.{items_of}
use Rattle.serde_json.specs.Written.{compact_text, items_text}
use Rattle.serde_json.proofs.OnLiterals.{serde_json_on_literals}
use Rattle.qs_algebra_solutions.specs.Solution.{Solution}
use Rattle.qs_algebra_solutions.specs.declared.answer.Answer.TheVariants.{Solutions}
use Rattle.qs_results.specs.Json.{binding_data, json_of}
use Rattle.qs_results.specs.inner.Json.{names_data}
use Rattle.qs_results.proofs.Utf8.{utf8_after, literal_after}
use Rattle.qs_results.proofs.answer.solutions_after.Goals as goal

regroup : (a n b r e : List ℕ) → (((a ++ n) ++ (e ++ b)) ++ r) ++ (e ++ e) ≡ a ++ ((n ++ e) ++ (b ++ ((r ++ e) ++ e)))
regroup a n b r e = simp append_assoc

-- the parts of the text, one after the other
whole : (names : List (List ℕ)) (rows : List Solution) → (((codes "{\"head\":{\"vars\":" ++ compact_text (names_data names)) ++ codes "},\"results\":{\"bindings\":[")
    ++ items_text false (items_of (map (binding_data names) rows))) ++ codes "}}" ≡ compact_text (json_of (Solutions names rows))
unfolding serde_json_on_literals
whole names rows =
    regroup (codes "{\"head\":{\"vars\":") (compact_text (names_data names)) (codes ",\"results\":{\"bindings\":[") (items_text false (items_of (map (binding_data names) rows)))
    (codes "}")

after : (before a b c d e : List ℕ) → ((((before ++ a) ++ b) ++ c) ++ d) ++ e ≡ before ++ ((((a ++ b) ++ c) ++ d) ++ e)
after before a b c d e = simp append_assoc

-- each part after those before it
joined : (names : List (List ℕ)) (rows : List Solution) (before head vars bindings bytes end text : List ℕ) → head ≡ before ++ codes "{\"head\":{\"vars\":" → text ≡ compact_text (names_data names)
    → vars ≡ head ++ text → bindings ≡ vars ++ codes "},\"results\":{\"bindings\":[" → bytes ≡ bindings ++ items_text false (items_of (map (binding_data names) rows))
    → end ≡ bytes ++ codes "}}" → end ≡ before ++ compact_text (json_of (Solutions names rows))
joined names rows before head vars bindings bytes end text e1 e2 e3 e4 e5 e6 =
    rw (e6, e5, e4, e3, e2, e1)
    (after before (codes "{\"head\":{\"vars\":") (compact_text (names_data names)) (codes "},\"results\":{\"bindings\":[") (items_text false (items_of (map (binding_data names) rows))) (codes "}}")
    ∙ ap (λ (l : List ℕ). before ++ l) (whole names rows))

pub returns-clause-text : goal.returns-clause-text
returns-clause-text c =
    joined _ _ c.args.before.items _ _ _ _ _ _ c.in_ok-extend_from_slice.ensures.items (c.as_bytes.ensures.value ∙ c.in_ok-names.ensures) c.in_ok-extend_from_slice-2.ensures.items c.in_ok-extend_from_slice-3.ensures.items
    c.in_ok-text.ensures.text c.in_ok-extend_from_slice-4.ensures.items

pub returns-clause-utf8 : goal.returns-clause-utf8
returns-clause-utf8 c before =
    let head = literal_after _ (codes "{\"head\":{\"vars\":") _ c.in_ok-extend_from_slice.ensures.items refl before in
    let names = subst IsUtf8 (sym c.as_bytes.ensures.value) (IsUtf8-string_bytes c.in_ok-names.names) in
    let vars = utf8_after _ _ _ c.in_ok-extend_from_slice-2.ensures.items names head in
    let bindings = literal_after _ (codes "},\"results\":{\"bindings\":[") _ c.in_ok-extend_from_slice-3.ensures.items refl vars in
    literal_after _ (codes "}}") _ c.in_ok-extend_from_slice-4.ensures.items refl (c.in_ok-text.ensures.utf8 bindings)
