-- Which computed values are strings, and what their parts are.
use Rattle.std.proofs.Common.{◌≡◌, ℕ, Bool, true, false, ◌||◌, List, [], length, if◌then◌else◌, Option, Some, None, refl, ap}
use Rattle.std.specs.Prelude.{ℤ, pos}
use Rattle.std.specs.Option.{is_some, unwrap_or, option_map}
use Rattle.std.specs.Str.{bytes_eq, chars}
use Rattle.qs_terms.specs.Literal.{xsd_string, xsd_integer, xsd_boolean, rdf_lang_string, Literal}
use Rattle.qs_terms.specs.declared.term.Term.{Term}
use Rattle.qs_terms.specs.declared.term.Term.TheVariants.{Iri, Blank, Literal as OfLiteral}
use Rattle.qs_expr_values.specs.Values.{boolean_term, integer_term, text_term, strung}
use Rattle.qs_expr_meaning.specs.inner.Comes.{tagged_datatype}
use Rattle.qs_expr_meaning.specs.inner.Joined.{tag_of_term}
use Rattle.qs_expr_meaning.specs.Calls.{string_of, of_both, compatible, both_forms}
use Rattle.qs_expr_meaning.specs.inner.Calls.{form_of, tag_of, datatype_of, length_of, Parts, literal_parts, string_parts, agreeing, forms_of_parts}

pub form_strung : (tag : Option (List ℕ)) (form : List ℕ) → form_of (strung tag form) ≡ Some (text_term form)
form_strung None form = refl
form_strung (Some t) form = refl

pub tag_strung : (tag : Option (List ℕ)) (form : List ℕ) → tag_of (strung tag form) ≡ Some (text_term (unwrap_or tag []))
tag_strung None form = refl
tag_strung (Some t) form = refl

pub datatype_strung : (tag : Option (List ℕ)) (form : List ℕ) → datatype_of (strung tag form) ≡ Some (tagged_datatype tag)
datatype_strung None form = refl
datatype_strung (Some t) form = refl

pub string_boolean : (b : Bool) → string_parts (boolean_term b) ≡ None
unfolding xsd_string xsd_boolean
string_boolean b = refl

pub string_integer : (z : ℤ) → string_parts (integer_term z) ≡ None
unfolding xsd_string xsd_integer
string_integer z = refl

pub string_text : (form : List ℕ) → string_parts (text_term form) ≡ Some (form, None)
unfolding xsd_string
string_text form = refl

pub string_strung : (tag : Option (List ℕ)) (form : List ℕ) → string_parts (strung tag form) ≡ Some (form, tag)
unfolding xsd_string rdf_lang_string
string_strung None form = refl
string_strung (Some t) form = refl

-- the length is that of the form
pub length_by_parts : (t : Term) → option_map length_of (string_of t) ≡ option_map (λ p. integer_term (pos (length (chars p.0)))) (string_parts t)
length_by_parts t = by (string_of t)
  where
    by : (o : Option Literal) → option_map length_of o ≡ option_map (λ p. integer_term (pos (length (chars p.0)))) (option_map literal_parts o)
    by None = refl
    by (Some l) = refl

-- the forms of two strings are those of their parts
pub forms_by_parts : (a b : Term) → both_forms a b ≡ forms_of_parts a b
forms_by_parts a b = by (string_of a) (string_of b)
  where
    by : (o p : Option Literal) → of_both (λ s t. if compatible s.tag t.tag then Some (s.form, t.form) else None) o p ≡ of_both agreeing (option_map literal_parts o) (option_map literal_parts p)
    by None p = refl
    by (Some s) None = refl
    by (Some s) (Some t) = refl

pub tag_of_strung : (tag : Option (List ℕ)) (form : List ℕ) → tag_of_term (strung tag form) ≡ tag
tag_of_strung None form = refl
tag_of_strung (Some t) form = refl

abbrev second : Option Parts → Option (List ℕ)
second None = None
second (Some p) = p.1

-- the tag of a string stands in its term
pub tag_of_parts : (t : Term) (p : Parts) → string_parts t ≡ Some p → tag_of_term t ≡ p.1
tag_of_parts (Iri i) p h = let k : None ≡ Some p = h in cc
tag_of_parts (Blank n) p h = let k : None ≡ Some p = h in cc
tag_of_parts (OfLiteral l) p h = by (bytes_eq l.datatype xsd_string || is_some l.tag) h
  where
    by : (b : Bool) → option_map literal_parts (if b then Some l else None) ≡ Some p → l.tag ≡ p.1
    by true e = ap second e
    by false e = let k : None ≡ Some p = e in cc
