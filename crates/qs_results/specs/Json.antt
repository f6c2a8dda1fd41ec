-- Answers as JSON, data of `serde_json` whose text is that crate's without white space (SPARQL 1.1
-- Query Results JSON Format, 3.1 to 3.3). The members of each object ascend by their bytes. The
-- standard leaves the order free, and so each answer has one text.
use Rattle.std.specs.Prelude.{ℕ, List, [], ◌∷◌, ◌++◌, Option, Some, None, map, codes, decimal}
use Rattle.std.specs.Prelude.{if◌then◌else◌}
use Rattle.std.specs.Option.{option_map_or}
use Rattle.std.specs.Str.{bytes_eq}
use Rattle.serde_json.specs.Data.{Data, null, boolean, string, array, object, Members, no_members}
use Rattle.serde_json.specs.Data.{member, put}
use Rattle.serde_json.specs.View.{items_of}
use Rattle.qs_terms.specs.Literal.{xsd_string}
use Rattle.qs_terms.specs.declared.term.Term.{Term}
use Rattle.qs_terms.specs.declared.term.Term.TheVariants as term
use Rattle.qs_algebra_solutions.specs.Solution.{Solution}
use Rattle.qs_algebra_solutions.specs.declared.answer.Answer.{Answer}
use Rattle.qs_algebra_solutions.specs.declared.answer.Answer.TheVariants.{Solutions, Truth, Graph}

-- a type, a value, and what comes after them (3.2.2)
abbrev pub typed_value : List ℕ → List ℕ → Members → Members
typed_value type value more =
    member (codes "type") (string type) (member (codes "value") (string value) more)

-- the datatype of a literal without a tag, unless it is xsd:string
abbrev pub with_datatype : List ℕ → Members → Members
with_datatype datatype more =
    if bytes_eq datatype xsd_string then more else member (codes "datatype") (string datatype) more

-- a literal: its tag, or else its datatype
abbrev pub literal_members : List ℕ → List ℕ → Option (List ℕ) → Members
literal_members form type (Some tag) =
    typed_value (codes "literal") form (member (codes "xml:lang") (string tag) no_members)
literal_members form type None = with_datatype type (typed_value (codes "literal") form no_members)

-- an RDF term (3.2.2): `type` and `value`, and a literal's tag or datatype; the label of a blank
-- node is `b` and its number
abbrev pub term_data : Term → Data
term_data (term.Iri iri) = object (typed_value (codes "uri") iri no_members)
term_data (term.Blank n) = object (typed_value (codes "bnode") (codes "b" ++ decimal n) no_members)
term_data (term.Literal l) = object (literal_members l.form l.datatype l.tag)

-- the members with the variables that the solution binds, from left to right
abbrev pub with_bindings : List (List ℕ) → Solution → Members → Members
with_bindings (name ∷ names) (cell ∷ row) ms =
    with_bindings names row (option_map_or (λ t. put name (term_data t) ms) cell ms)
with_bindings _ _ ms = ms

-- a solution: the variables that it binds, and no others (3.2.1)
abbrev pub binding_data : List (List ℕ) → Solution → Data
binding_data names row = object (with_bindings names row no_members)

-- an object with one member, which is an array
abbrev pub array_named : List ℕ → List Data → Data
array_named name items = object (member name (array (items_of items)) no_members)

-- the answer of a SELECT: `head` with the names of the variables (3.1.1), and `results` with the
-- solutions in their order (3.2); or of an ASK: `boolean`, and an empty `head` (3.3); a graph has
-- no form
abbrev pub json_of : Answer → Data
json_of (Solutions names rows) =
    object (member (codes "head") (array_named (codes "vars") (map string names))
    (member (codes "results") (array_named (codes "bindings") (map (binding_data names) rows))
    no_members))
json_of (Truth b) = object (member (codes "boolean") (boolean b)
    (member (codes "head") (object no_members) no_members))
json_of (Graph quads) = null
