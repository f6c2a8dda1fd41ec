-- The term that a value of the program denotes.
use Rattle.std.specs.Prelude.{ℕ, List}
use Rattle.std.specs.Option.{option_copied}
use Rattle.qs_terms.specs.Literal.{xsd_string, xsd_integer, xsd_boolean, rdf_lang_string}
use Rattle.qs_terms.specs.declared.term.Term.{Term as RdfTerm}
use Rattle.qs_terms.specs.declared.term.Term.TheVariants as rdf
use Rattle.qs_expr_values.specs.Values.{Worth, integer, boolean, text, other, boolean_term}
use Rattle.qs_expr_values.specs.Values.{integer_term, text_term, strung}
use Rattle.qs_expr_values.specs.declared.datatype.Datatype.{Datatype as SeenDatatype}
use Rattle.qs_expr_values.specs.declared.datatype.Datatype.TheVariants as datatype
use Rattle.qs_expr_values.specs.declared.same.Parts.{Parts}
use Rattle.qs_expr_values.specs.declared.same.Parts.TheVariants as parts
use Rattle.qs_expr_values.specs.declared.worth.Worth.{Worth as SeenWorth}
use Rattle.qs_expr_values.specs.declared.worth.Worth.TheVariants as kind
use Rattle.qs_expr_values.specs.declared.value.Value.{Value}
use Rattle.qs_expr_values.specs.declared.value.Value.TheVariants.{Term, Known, Boolean, Integer}
use Rattle.qs_expr_values.specs.declared.value.Value.TheVariants.{Text, Digits, Made, Tagged}
use Rattle.qs_expr_values.specs.declared.value.Value.TheVariants.{Datatype}

-- the IRI of a datatype
abbrev pub datatype_text : SeenDatatype → List ℕ
datatype_text (datatype.Of l) = l.now.datatype
datatype_text datatype.String = xsd_string
datatype_text datatype.Integer = xsd_integer
datatype_text datatype.Boolean = xsd_boolean
datatype_text datatype.LangString = rdf_lang_string

-- the term that a value denotes
abbrev pub term_of : Value → RdfTerm
term_of (Term t) = t.now
term_of (Known t) = t
term_of (Boolean b) = boolean_term b
term_of (Integer z) = integer_term z
term_of (Text s) = text_term s.now
term_of (Digits s) = text_term s.bytes
term_of (Made s) = text_term s
term_of (Tagged s l) = strung l.now.tag s
term_of (Datatype d) = rdf.Iri (datatype_text d)

-- what the program sees a literal to be worth
abbrev pub seen : SeenWorth → Worth
seen (kind.Integer z) = integer z
seen (kind.Boolean b) = boolean b
seen (kind.Text s) = text s.now
seen kind.Other = other

-- the term of these parts
abbrev pub parts_of : Parts → RdfTerm
parts_of (parts.Iri i) = rdf.Iri i.now
parts_of (parts.Blank n) = rdf.Blank n
parts_of (parts.Literal form datatype tag) =
    rdf.Literal (record { form = form.now; datatype = datatype.now; tag = option_copied tag })
