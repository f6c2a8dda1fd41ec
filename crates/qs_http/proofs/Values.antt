-- The values of the fields of one name, one field further.
use Rattle.std.proofs.Common.{◌≡◌, ◌∙◌, ap, sym, refl, ℕ, ◌+◌, ◌*◌, ◌<◌, ◌≤◌, Bool, true, false, if◌then◌else◌, List, [], ◌∷◌, ◌++◌, length, map, take, get_or, arith}
use Rattle.std.proofs.lemmas.List.{take_more, map-append, append-nil}
use Rattle.std.proofs.lemmas.List.Elements.{filter-append}
use Rattle.std.specs.Str.{str_eq_ignore_ascii_case}
use Rattle.std.specs.Str.Parse.{digits_value_after}
use Rattle.std.specs.Char.{digit_value}
use Rattle.httparse.specs.declared.spans.HeaderSpan.{HeaderSpan}
use Rattle.httparse.specs.Spans.{span_bytes, header_bytes}
use Rattle.qs_http.specs.inner.HeadView.{values_in}

pub values_in-append : (name : List ℕ) (xs ys : List (List ℕ × List ℕ)) → values_in name (xs ++ ys) ≡ values_in name xs ++ values_in name ys
unfolding values_in
values_in-append name xs ys = simp (filter-append, map-append)

pub values_in-one : (name : List ℕ) (f : List ℕ × List ℕ) → values_in name (f ∷ []) ≡ (if str_eq_ignore_ascii_case name f.0 then f.1 ∷ [] else [])
unfolding values_in
values_in-one name f = by_case (str_eq_ignore_ascii_case name f.0)
  where
    by_case : (same : Bool) → map (λ (g : List ℕ × List ℕ). g.1) (if same then f ∷ [] else []) ≡ (if same then f.1 ∷ [] else [])
    by_case true = refl
    by_case false = refl

pub values_more : (name buf : List ℕ) (fields : List HeaderSpan) (i : ℕ) (d : HeaderSpan) → i < length fields
    → values_in name (map (header_bytes buf) (take (i + 1) fields))
    ≡ values_in name (map (header_bytes buf) (take i fields))
    ++ (if str_eq_ignore_ascii_case name (span_bytes buf (get_or fields i d).name) then span_bytes buf (get_or fields i d).value ∷ [] else [])
values_more name buf fields i d below =
    ap (λ (l : List HeaderSpan). values_in name (map (header_bytes buf) l)) (take_more fields i d below)
    ∙ ap (values_in name) (map-append (header_bytes buf) (take i fields) (get_or fields i d ∷ []))
    ∙ values_in-append name (map (header_bytes buf) (take i fields)) _
    ∙ ap (λ (l : List (List ℕ)). values_in name (map (header_bytes buf) (take i fields)) ++ l) (values_in-one name (header_bytes buf (get_or fields i d)))

pub values_yes : (name buf : List ℕ) (fields : List HeaderSpan) (i : ℕ) (d : HeaderSpan) (label value : List ℕ) → i < length fields
    → label ≡ span_bytes buf (get_or fields i d).name → value ≡ span_bytes buf (get_or fields i d).value
    → true ≡ str_eq_ignore_ascii_case name label
    → values_in name (map (header_bytes buf) (take (i + 1) fields))
    ≡ values_in name (map (header_bytes buf) (take i fields)) ++ value ∷ []
values_yes name buf fields i d label value below label_is value_is same =
    values_more name buf fields i d below
    ∙ ap (λ (b : Bool). values_in name (map (header_bytes buf) (take i fields)) ++ (if b then span_bytes buf (get_or fields i d).value ∷ [] else []))
    (ap (str_eq_ignore_ascii_case name) (sym label_is) ∙ sym same)
    ∙ ap (λ (v : List ℕ). values_in name (map (header_bytes buf) (take i fields)) ++ v ∷ []) (sym value_is)

pub values_no : (name buf : List ℕ) (fields : List HeaderSpan) (i : ℕ) (d : HeaderSpan) (label : List ℕ) → i < length fields
    → label ≡ span_bytes buf (get_or fields i d).name
    → false ≡ str_eq_ignore_ascii_case name label
    → values_in name (map (header_bytes buf) (take (i + 1) fields)) ≡ values_in name (map (header_bytes buf) (take i fields))
values_no name buf fields i d label below label_is other =
    values_more name buf fields i d below
    ∙ ap (λ (b : Bool). values_in name (map (header_bytes buf) (take i fields)) ++ (if b then span_bytes buf (get_or fields i d).value ∷ [] else []))
    (ap (str_eq_ignore_ascii_case name) (sym label_is) ∙ sym other)
    ∙ append-nil _

pub digits_least : (n : ℕ) (digits : List ℕ) → n ≤ digits_value_after 10 n digits
digits_least n [] = omega arith
digits_least n (d ∷ digits) = omega (arith, digits_least (n * 10 + digit_value d) digits)
