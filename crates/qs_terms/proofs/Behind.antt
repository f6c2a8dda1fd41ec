-- A text that begins with a lawful IRI is one just where no excluded character stands after.
use Rattle.std.proofs.Common.{rules, ◌≡◌, ◌++◌, ◌∙◌, ℕ, List, [], ◌∷◌, Bool, true, false, refl, sym, ap, take, drop, length, take-append-drop, subst}
use Rattle.std.specs.Prelude.{◌&&◌, ◌||◌, ◌==◌, not, if◌then◌else◌, nat_eq, Result, Ok, Err}
use Rattle.std.specs.Cmp.Lexicographic.{pointwise}
use Rattle.std.specs.List.{list_any}
use Rattle.std.specs.Str.{bytes_eq}
use Rattle.std.specs.Char.{is_ascii_alphabetic}
use Rattle.std.proofs.lemmas.List.Folds.{list_any-append}
use Rattle.std.proofs.lemmas.Slice.Eq.{bytes_eq-Decides}
use Rattle.qs_terms.specs.declared.fault.TermFault.{TermFault}
use Rattle.qs_terms.specs.declared.fault.TermFault.TheVariants.{NotAbsolute, BadChar}
use Rattle.qs_terms.specs.Iri.{is_scheme_char, reaches_colon, has_scheme, is_excluded, checked_iri}
use Rattle.qs_terms.specs.inner.Iri.{is_iri_text}

colon-step : (ends goes now later : Bool) → (now ≡ true → later ≡ true) → (if ends then true else (goes && now)) ≡ true → (if ends then true else (goes && later)) ≡ true
colon-step true goes now later f h = refl
colon-step false true now later f h = f h
colon-step false false now later f h = h

reaches_colon-append : (xs ys : List ℕ) → reaches_colon xs ≡ true → reaches_colon (xs ++ ys) ≡ true
reaches_colon-append [] ys h = cc
reaches_colon-append (x ∷ xs) ys h = colon-step (x == 58) (is_scheme_char x) (reaches_colon xs) (reaches_colon (xs ++ ys)) (reaches_colon-append xs ys) h

scheme-step : (first now later : Bool) → (now ≡ true → later ≡ true) → (first && now) ≡ true → (first && later) ≡ true
scheme-step true now later f h = f h
scheme-step false now later f h = h

has_scheme-append : (xs ys : List ℕ) → has_scheme xs ≡ true → has_scheme (xs ++ ys) ≡ true
has_scheme-append [] ys h = cc
has_scheme-append (x ∷ xs) ys h = scheme-step (is_ascii_alphabetic x) (reaches_colon xs) (reaches_colon (xs ++ ys)) (reaches_colon-append xs ys) h

whole : (front text : List ℕ) → pointwise nat_eq (take (length front) text) front ≡ true → text ≡ front ++ drop (length front) text
whole front text same = sym (take-append-drop (length front) text) ∙ ap (λ t. t ++ drop (length front) text) ((bytes_eq-Decides (take (length front) text) front).0 same)

scheme-of : (scheme other : Bool) → (scheme && other) ≡ true → scheme ≡ true
scheme-of true other h = refl
scheme-of false other h = h

seen-of : (scheme front behind : Bool) → (scheme && not front) ≡ true → (front || behind) ≡ behind
seen-of true false behind h = refl
seen-of true true behind h = cc
seen-of false front behind h = cc

pub behind_scheme : (front text : List ℕ) → is_iri_text front ≡ true → pointwise nat_eq (take (length front) text) front ≡ true → has_scheme text ≡ true
behind_scheme front text h same = subst (λ t. has_scheme t ≡ true) (sym (whole front text same)) (has_scheme-append front (drop (length front) text) (scheme-of (has_scheme front) (not (list_any is_excluded front)) h))

pub behind_excluded : (front text : List ℕ) → is_iri_text front ≡ true → pointwise nat_eq (take (length front) text) front ≡ true → list_any is_excluded text ≡ list_any is_excluded (drop (length front) text)
behind_excluded front text h same = ap (list_any is_excluded) (whole front text same) ∙ (list_any-append is_excluded front (drop (length front) text) ∙ seen-of (has_scheme front) (list_any is_excluded front) (list_any is_excluded (drop (length front) text)) h)

-- a text is two pieces where it begins with the one and the other stands after
pub joined : (front rest text : List ℕ) → pointwise nat_eq (take (length front) text) front ≡ true → pointwise nat_eq (drop (length front) text) rest ≡ true → text ≡ front ++ rest
joined front rest text same there = whole front text same ∙ ap (λ t. front ++ t) ((bytes_eq-Decides (drop (length front) text) rest).0 there)
