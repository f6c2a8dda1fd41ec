-- Literals (RDF 1.1 Concepts, 3.3). The four datatypes that rules speak of have names.
use Rattle.std.specs.Prelude.{ℕ, List, codes, Option, Some, None, Result, Ok, Err, if◌then◌else◌}
use Rattle.std.specs.Str.{bytes_eq}
use Rattle.qs_terms.specs.Tag.{is_tag, lowered}
use Rattle.qs_terms.specs.declared.fault.TermFault.{TermFault}
use Rattle.qs_terms.specs.declared.fault.TermFault.TheVariants.{BadTag, BadDatatype}

-- the lexical form, the datatype's IRI and, of a language-tagged string, the tag
pub record Literal : Type 0 where
  pub form : List ℕ
  pub datatype : List ℕ
  pub tag : Option (List ℕ)

-- the datatype of all literals with a tag, and of no other (RDF 1.1 Concepts, 3.3)
unfoldable pub rdf_lang_string : List ℕ
rdf_lang_string = codes "http://www.w3.org/1999/02/22-rdf-syntax-ns#langString"

-- the datatypes of strings, integers and booleans (XML Schema Part 2, 3.2.1, 3.3.13 and 3.2.2)
unfoldable pub xsd_string : List ℕ
xsd_string = codes "http://www.w3.org/2001/XMLSchema#string"

unfoldable pub xsd_integer : List ℕ
xsd_integer = codes "http://www.w3.org/2001/XMLSchema#integer"

unfoldable pub xsd_boolean : List ℕ
xsd_boolean = codes "http://www.w3.org/2001/XMLSchema#boolean"

-- the literal of a form and a datatype
abbrev pub typed : List ℕ → List ℕ → Literal
typed form datatype = record { form = form; datatype = datatype; tag = None }

-- the literal of a form and a tag, which is kept in lower case
abbrev pub tagged : List ℕ → List ℕ → Literal
tagged form tag = record { form = form; datatype = rdf_lang_string; tag = Some (lowered tag) }

-- the literal of a form and a lawful IRI, which may not be rdf:langString
abbrev pub checked_typed : List ℕ → List ℕ → Result Literal TermFault
checked_typed form datatype =
    if bytes_eq datatype rdf_lang_string then Err BadDatatype else Ok (typed form datatype)

-- the literal of a form and a text that should be a tag
abbrev pub checked_tagged : List ℕ → List ℕ → Result Literal TermFault
checked_tagged form tag = if is_tag tag then Ok (tagged form tag) else Err BadTag
