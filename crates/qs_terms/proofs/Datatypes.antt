-- The datatypes that the rules name have lawful IRIs and are told apart by them. All but rdf:langString fit a literal without a tag.
use Rattle.std.proofs.Common.{rules, ◌≡◌, ℕ, List, Bool, true, false, Some, None, Result, Ok, Err, refl, ◌&&◌}
use Rattle.std.specs.Prelude.{not, if◌then◌else◌}
use Rattle.std.specs.Option.{is_none}
use Rattle.std.specs.Str.{bytes_eq}
use Rattle.std.proofs.lemmas.Slice.Eq.{bytes_eq-Decides}
use Rattle.qs_terms.specs.Iri.{checked_iri, has_scheme, is_excluded}
use Rattle.std.specs.List.{list_any}
use Rattle.qs_terms.specs.Literal.{rdf_lang_string, xsd_string, xsd_integer, xsd_boolean}
use Rattle.qs_terms.specs.inner.Literal.{fits_tag}
use Rattle.qs_terms.specs.inner.Datatype.{iri_of, known_of, untagged, checked_untagged}
use Rattle.qs_terms.specs.inner.OrOutOf.{ValueOrOutOfMemory}
use Rattle.qs_terms.specs.declared.fault.TermFault.{TermFault}
use Rattle.qs_terms.specs.declared.fault.TermFault.TheVariants.{Memory, NotAbsolute, BadChar}
use Rattle.qs_terms.specs.declared.datatype.Known.{Known}
use Rattle.qs_terms.specs.declared.datatype.Known.TheVariants.{String, Integer, Boolean, LangString}
use Rattle.qs_terms.specs.contracts.datatype.KnownPartialEq.TheImpl as equ

pub string_fits : fits_tag xsd_string None ≡ true
unfolding xsd_string rdf_lang_string
string_fits = refl

pub integer_fits : fits_tag xsd_integer None ≡ true
unfolding xsd_integer rdf_lang_string
integer_fits = refl

pub boolean_fits : fits_tag xsd_boolean None ≡ true
unfolding xsd_boolean rdf_lang_string
boolean_fits = refl

pub known_of-iri_of : (k : Known) → known_of (iri_of k) ≡ Some k
unfolding known_of xsd_string xsd_integer xsd_boolean rdf_lang_string
known_of-iri_of String = refl
known_of-iri_of Integer = refl
known_of-iri_of Boolean = refl
known_of-iri_of LangString = refl

pub checked_iri-iri_of : (k : Known) → checked_iri (iri_of k) ≡ Ok (iri_of k)
unfolding xsd_string xsd_integer xsd_boolean rdf_lang_string
checked_iri-iri_of String = refl
checked_iri-iri_of Integer = refl
checked_iri-iri_of Boolean = refl
checked_iri-iri_of LangString = refl

-- two have the same name where they have the same IRI
pub same_known : (a b : Known) → equ.ghosts.eq a b ≡ bytes_eq (iri_of a) (iri_of b)
unfolding xsd_string xsd_integer xsd_boolean rdf_lang_string
same_known String String = refl
same_known String Integer = refl
same_known String Boolean = refl
same_known String LangString = refl
same_known Integer String = refl
same_known Integer Integer = refl
same_known Integer Boolean = refl
same_known Integer LangString = refl
same_known Boolean String = refl
same_known Boolean Integer = refl
same_known Boolean Boolean = refl
same_known Boolean LangString = refl
same_known LangString String = refl
same_known LangString Integer = refl
same_known LangString Boolean = refl
same_known LangString LangString = refl

-- an IRI that is found is the IRI of what is found
pub known_iri : (iri : List ℕ) (k : Known) → known_of iri ≡ Some k → iri ≡ iri_of k
unfolding known_of
known_iri iri k h = grind (rules, bytes_eq-Decides)

-- an IRI that isn't found is that of no datatype with a name
pub unknown_iri : (iri : List ℕ) (k : Known) → is_none (known_of iri) ≡ true → bytes_eq iri (iri_of k) ≡ false
unknown_iri iri k h = grind (rules, bytes_eq-Decides, known_of-iri_of)

pub is_unknown : (iri : List ℕ) → None ≡ known_of iri → is_none (known_of iri) ≡ true
is_unknown iri h = rw (← h) refl

-- an IRI that isn't found is not rdf:langString, so it is a datatype of literals without a tag as soon as it is lawful
module _ (t : List ℕ) where
  abbrev checked : Bool → Bool → Result (List ℕ) TermFault
  checked scheme excluded = if scheme then (if excluded then Err BadChar else Ok t) else Err NotAbsolute

  untagged-at : (scheme excluded : Bool) (r : Result (List ℕ) TermFault) → bytes_eq t rdf_lang_string ≡ false → ValueOrOutOfMemory Memory (checked scheme excluded) r → ValueOrOutOfMemory Memory (checked_untagged (checked scheme excluded)) r
  untagged-at true true r n h = h
  untagged-at true false r n h = rw n h
  untagged-at false excluded r n h = h

  fits-at : (scheme excluded : Bool) (d : List ℕ) → bytes_eq t rdf_lang_string ≡ false → ValueOrOutOfMemory Memory (checked scheme excluded) (Ok d) → (d ≡ t) × ((scheme && not excluded) ≡ true)
  fits-at true true d n h = cc
  fits-at true false d n h = (h, refl)
  fits-at false excluded d n h = cc

  pub unnamed : (r : Result (List ℕ) TermFault) → is_none (known_of t) ≡ true → ValueOrOutOfMemory Memory (checked_iri t) r → ValueOrOutOfMemory Memory (checked_untagged (checked_iri t)) r
  unnamed r n h = untagged-at (has_scheme t) (list_any is_excluded t) r (unknown_iri t LangString n) h

  pub unnamed_fits : (d : List ℕ) → is_none (known_of t) ≡ true → ValueOrOutOfMemory Memory (checked_iri t) (Ok d) → fits_tag d None ≡ true
  unnamed_fits d n h =
      let p = fits-at (has_scheme t) (list_any is_excluded t) d (unknown_iri t LangString n) h in
      rw (p.0, p.1, unknown_iri t LangString n) refl

-- an IRI that is found needs no test
pub named : (t : List ℕ) (k : Known) → known_of t ≡ Some k → ValueOrOutOfMemory Memory (checked_untagged (checked_iri t)) (untagged (iri_of k))
named t k h = rw (known_iri t k h, checked_iri-iri_of k) (same (untagged (iri_of k)))
  where
    same : (r : Result (List ℕ) TermFault) → ValueOrOutOfMemory Memory r r
    same (Ok x) = refl
    same (Err e) = refl
