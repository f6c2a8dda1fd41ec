-- The parts of a lawful literal: a tag is lawful and in lower case, and a datatype's IRI is lawful. A term made of such parts has
-- one fault, running out of memory.
use Rattle.std.proofs.Common.{◌≡◌, ℕ, Bool, true, false, ◌&&◌, List, Option, None, Some, Result, Ok, Err, refl, ap, sym, ◌∙◌}
use Rattle.std.specs.Prelude.{not, IfErr, if◌then◌else◌}
use Rattle.std.specs.Str.{bytes_eq}
use Rattle.std.specs.List.{list_any}
use Rattle.std.proofs.lemmas.Slice.Eq.{bytes_eq-Decides}
use Rattle.qs_terms.specs.Iri.{checked_iri, has_scheme, is_excluded}
use Rattle.qs_terms.specs.inner.Iri.{is_iri_text}
use Rattle.qs_terms.specs.Literal.{Literal, checked_tagged, tagged, rdf_lang_string, xsd_string, xsd_integer, xsd_boolean}
use Rattle.qs_terms.specs.inner.Literal.{is_literal, fits_tag, is_lower_tag}
use Rattle.qs_terms.specs.inner.OrOutOf.{ValueOrOutOfMemory}
use Rattle.qs_terms.specs.Tag.{lowered, is_tag}
use Rattle.qs_terms.specs.inner.Term.{iri_of}
use Rattle.qs_terms.specs.declared.fault.TermFault.{TermFault}
use Rattle.qs_terms.specs.declared.fault.TermFault.TheVariants.{Memory, NotAbsolute, BadChar, BadTag}
use Rattle.qs_terms.specs.declared.term.Term.{Term}
use Rattle.qs_terms.specs.declared.term.Term.TheVariants as rdf

first : (a b : Bool) → a && b ≡ true → a ≡ true
first true b h = refl
first false b h = h

second : (a b : Bool) → a && b ≡ true → b ≡ true
second true b h = h
second false b h = let e : false ≡ true = h in cc

lower : (l : Literal) (t : List ℕ) → is_literal l ≡ true → l.tag ≡ Some t → is_lower_tag t ≡ true
lower l t h e =
    let fits : fits_tag l.datatype (Some t) ≡ true = ap (fits_tag l.datatype) (sym e) ∙ h in
    second (bytes_eq l.datatype rdf_lang_string) (is_lower_tag t) fits

pub tag_as_kept : (l : Literal) (t : List ℕ) → is_literal l ≡ true → l.tag ≡ Some t → lowered t ≡ t
tag_as_kept l t h e = (bytes_eq-Decides (lowered t) t).0 (second (is_tag t) _ (lower l t h e))

pub tag_is_tag : (l : Literal) (t : List ℕ) → is_literal l ≡ true → l.tag ≡ Some t → is_tag t ≡ true
tag_is_tag l t h e = first (is_tag t) _ (lower l t h e)

pub string_is_iri : is_iri_text xsd_string ≡ true
unfolding xsd_string
string_is_iri = refl

pub integer_is_iri : is_iri_text xsd_integer ≡ true
unfolding xsd_integer
integer_is_iri = refl

pub boolean_is_iri : is_iri_text xsd_boolean ≡ true
unfolding xsd_boolean
boolean_is_iri = refl

pub lang_string_is_iri : is_iri_text rdf_lang_string ≡ true
unfolding rdf_lang_string
lang_string_is_iri = refl

fitting_is_iri : (d : List ℕ) (tag : Option (List ℕ)) → fits_tag d tag ≡ true → is_iri_text d ≡ true
fitting_is_iri d None h = first (is_iri_text d) (not (bytes_eq d rdf_lang_string)) h
fitting_is_iri d (Some t) h =
    let same : d ≡ rdf_lang_string = (bytes_eq-Decides d rdf_lang_string).0 (first (bytes_eq d rdf_lang_string) (is_lower_tag t) h) in
    ap is_iri_text same ∙ lang_string_is_iri

pub datatype_is_iri : (l : Literal) → is_literal l ≡ true → is_iri_text l.datatype ≡ true
datatype_is_iri l h = fitting_is_iri l.datatype l.tag h

module _ {A : Type 0} where
  of_due : (a : A) (r : Result A TermFault) → ValueOrOutOfMemory Memory (Ok a) r → IfErr r (λ fault. fault ≡ Memory)
  of_due a (Ok b) h = tt
  of_due a (Err e) h = h

module _ (form t : List ℕ) where
  tagged-at : (b : Bool) (r : Result Literal TermFault) → b ≡ true → ValueOrOutOfMemory Memory (if b then Ok (tagged form t) else Err BadTag) r → IfErr r (λ fault. fault ≡ Memory)
  tagged-at true r e h = of_due (tagged form t) r h
  tagged-at false r e h = cc

  pub tagged_or_memory : (r : Result Literal TermFault) → is_tag t ≡ true → ValueOrOutOfMemory Memory (checked_tagged form t) r → IfErr r (λ fault. fault ≡ Memory)
  tagged_or_memory r e h = tagged-at (is_tag t) r e h

module _ (t : List ℕ) where
  iri-at : (scheme excluded : Bool) (r : Result Term TermFault) → scheme && not excluded ≡ true → ValueOrOutOfMemory Memory (iri_of (if scheme then (if excluded then Err BadChar else Ok t) else Err NotAbsolute)) r → IfErr r (λ fault. fault ≡ Memory)
  iri-at true true r e h = cc
  iri-at true false r e h = of_due (rdf.Iri t) r h
  iri-at false excluded r e h = cc

  pub iri_or_memory : (r : Result Term TermFault) → is_iri_text t ≡ true → ValueOrOutOfMemory Memory (iri_of (checked_iri t)) r → IfErr r (λ fault. fault ≡ Memory)
  iri_or_memory r e h = iri-at (has_scheme t) (list_any is_excluded t) r e h
