-- IRIs that were read before: they are lawful, so no backslash stands in them.
use Rattle.std.proofs.Common.{◌≡◌, ◌++◌, ◌∙◌, ℕ, List, [], ◌∷◌, Bool, true, false, Some, Ok, refl, sym, ap, true≢false, eqb-true}
use Rattle.std.specs.Prelude.{◌||◌, ◌==◌, not}
use Rattle.std.specs.List.{list_any}
use Rattle.std.proofs.lemmas.List.Folds.{list_any-append}
use Rattle.std.proofs.lemmas.Bool.{and_parts}
use Rattle.qs_terms.specs.Iri.{has_scheme, is_excluded, checked_iri}
use Rattle.qs_terms.specs.inner.Iri.{is_iri_text}
use Rattle.qs_lex_escapes.specs.Escape.{uchar}
use Rattle.qs_lex_escapes.specs.Decoded.{decoded, decoded_after, unescaped}
use Rattle.qs_syntax_resolve.specs.inner.Names.{absolute, joined}

or-parts : (a b : Bool) → (a || b) ≡ false → (a ≡ false) × (b ≡ false)
or-parts true b e = absurd (true≢false e)
or-parts false b e = (refl, e)

not-false : (b : Bool) → not b ≡ true → b ≡ false
not-false true e = absurd (true≢false (sym e))
not-false false e = refl

lawful_parts : (i : List ℕ) → is_iri_text i ≡ true → (has_scheme i ≡ true) × (list_any is_excluded i ≡ false)
lawful_parts i h = let q : (has_scheme i ≡ true) × (not (list_any is_excluded i) ≡ true) = and_parts _ _ h in (q.0, not-false (list_any is_excluded i) q.1)

checked : (i : List ℕ) → is_iri_text i ≡ true → checked_iri i ≡ Ok i
checked i h = let q = lawful_parts i h in let a : has_scheme i ≡ true = q.0 in let b : list_any is_excluded i ≡ false = q.1 in rw (a, b) refl

no_backslash : (c : ℕ) → is_excluded c ≡ false → (c == 92) ≡ false
no_backslash c e = by_test (c == 92) refl where
  by_test : (b : Bool) → (c == 92) ≡ b → (c == 92) ≡ false
  by_test true h = absurd (true≢false (ap is_excluded (sym (eqb-true c 92 h)) ∙ e))
  by_test false h = h

plain_decodes : (i : List ℕ) → list_any is_excluded i ≡ false → decoded uchar i ≡ i
unfolding decoded_after
plain_decodes [] e = refl
plain_decodes (c ∷ i) e =
    let q : (is_excluded c ≡ false) × (list_any is_excluded i ≡ false) = or-parts (is_excluded c) (list_any is_excluded i) e in
    let s : (c == 92) ≡ false = no_backslash c q.0 in rw s (ap (λ z. c ∷ z) (plain_decodes i q.1))

plain_unescaped : (i : List ℕ) → list_any is_excluded i ≡ false → unescaped i ≡ i
plain_unescaped [] e = refl
plain_unescaped (c ∷ i) e =
    let q : (is_excluded c ≡ false) × (list_any is_excluded i ≡ false) = or-parts (is_excluded c) (list_any is_excluded i) e in
    let s : (c == 92) ≡ false = no_backslash c q.0 in rw s (ap (λ z. c ∷ z) (plain_unescaped i q.1))

-- a lawful IRI as it is written
pub full_again : (place : ℕ) (i : List ℕ) → is_iri_text i ≡ true → absolute place (checked_iri (decoded uchar i)) ≡ Ok i
full_again place i h = ap (λ z. absolute place (checked_iri z)) (plain_decodes i (lawful_parts i h).1) ∙ ap (absolute place) (checked i h)

-- a lawful IRI as a prefix and a local name
pub joined_again : (place : ℕ) (front local : List ℕ) → is_iri_text (front ++ local) ≡ true → joined place (Some front) local ≡ Ok (front ++ local)
joined_again place front local h =
    let both : (list_any is_excluded front || list_any is_excluded local) ≡ false = sym (list_any-append is_excluded front local) ∙ (lawful_parts (front ++ local) h).1 in
    let plain : list_any is_excluded local ≡ false = (or-parts (list_any is_excluded front) (list_any is_excluded local) both).1 in
    ap (λ z. absolute place (checked_iri (front ++ z))) (plain_unescaped local plain) ∙ ap (absolute place) (checked (front ++ local) h)
