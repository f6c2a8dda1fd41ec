-- Datatypes (RDF 1.1 Concepts, 3.3 and 5.1): those that the rules name, and the others.
use Rattle.std.specs.Prelude.{ℕ, Bool, true, List, Option, Some, None, Result, Ok, Err}
use Rattle.std.specs.Prelude.{if◌then◌else◌}
use Rattle.std.specs.Option.{is_none}
use Rattle.std.specs.Str.{bytes_eq}
use Rattle.std.specs.Hash as fed
use Rattle.qs_terms.specs.Literal.{rdf_lang_string, xsd_string, xsd_integer, xsd_boolean}
use Rattle.qs_terms.specs.declared.fault.TermFault.{TermFault}
use Rattle.qs_terms.specs.declared.fault.TermFault.TheVariants.{BadDatatype}
use Rattle.qs_terms.specs.declared.datatype.Known.{Known}
use Rattle.qs_terms.specs.declared.datatype.Known.TheVariants.{String, Integer, Boolean, LangString}
use Rattle.qs_terms.specs.declared.datatype.Kind.{Kind}
use Rattle.qs_terms.specs.declared.datatype.Kind.TheVariants.{Named, Other}

-- the IRI of a datatype that the rules name
abbrev pub iri_of : Known → List ℕ
iri_of String = xsd_string
iri_of Integer = xsd_integer
iri_of Boolean = xsd_boolean
iri_of LangString = rdf_lang_string

-- the named datatype of an IRI, if it is one
unfoldable pub known_of : List ℕ → Option Known
known_of iri =
    if bytes_eq iri xsd_string then Some String
    else if bytes_eq iri xsd_integer then Some Integer
    else if bytes_eq iri xsd_boolean then Some Boolean
    else if bytes_eq iri rdf_lang_string then Some LangString
    else None

-- the IRI of a datatype
abbrev pub text_of : Kind → List ℕ
text_of (Named known) = iri_of known
text_of (Other iri) = iri

-- whether a named datatype is kept by its name
abbrev pub is_kept : Kind → Bool
is_kept (Named known) = true
is_kept (Other iri) = is_none (known_of iri)

-- the datatype of a literal without a tag, which may not be rdf:langString
abbrev pub untagged : List ℕ → Result (List ℕ) TermFault
untagged iri = if bytes_eq iri rdf_lang_string then Err BadDatatype else Ok iri

abbrev pub checked_untagged : Result (List ℕ) TermFault → Result (List ℕ) TermFault
checked_untagged (Ok iri) = untagged iri
checked_untagged (Err f) = Err f

-- the number by which a named datatype is hashed
abbrev pub code_of : Known → ℕ
code_of String = 0
code_of Integer = 1
code_of Boolean = 2
code_of LangString = 3

-- what a datatype feeds a hasher: one byte for a named one, and the IRI of another
abbrev pub fed_by : List ℕ → Option Known → fed.HashWrites
fed_by iri (Some known) = fed.u8 (code_of known)
fed_by iri None = fed.str iri

abbrev pub hash_of : List ℕ → fed.HashWrites
hash_of iri = fed_by iri (known_of iri)
