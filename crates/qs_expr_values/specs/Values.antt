-- The values of terms (SPARQL 1.1 Query, 17.1 to 17.4): booleans, integers and strings; what is
-- true of a term, and how terms compare.
use Rattle.std.specs.Prelude.{ℕ, Bool, true, false, ◌&&◌, ◌||◌, ◌==◌, not, List, codes}
use Rattle.std.specs.Prelude.{Option, Some, None, if◌then◌else◌, ℤ, pos, negsuc}
use Rattle.std.specs.Option.{is_some, unwrap_or, option_or, option_map, option_map_or}
use Rattle.std.specs.Str.{bytes_eq}
use Rattle.std.specs.declared.cmp.Ordering.{Ordering}
use Rattle.std.specs.Ordering.{is_eq, nat_cmp, bool_cmp, int_cmp}
use Rattle.std.specs.Cmp.Lexicographic.{slice_cmp}
use Rattle.qs_terms.specs.Literal as lit
use Rattle.qs_terms.specs.Literal.{xsd_string, xsd_integer, xsd_boolean}
use Rattle.qs_terms.specs.Term.{same_term}
use Rattle.qs_terms.specs.declared.term.Term.{Term}
use Rattle.qs_terms.specs.declared.term.Term.TheVariants.{Literal}
use Rattle.qs_expr_values.specs.Text.{is_not_empty}
use Rattle.qs_expr_values.specs.Number.{whole_number, integer_of, canonical}

-- ---- forms and values

-- `true` and `1`, `false` and `0` (XML Schema 1.1 part 2, 3.3.2)
abbrev pub boolean_of : List ℕ → Option Bool
boolean_of form =
    if bytes_eq form (codes "true") || bytes_eq form (codes "1") then Some true
    else (if bytes_eq form (codes "false") || bytes_eq form (codes "0") then Some false else None)

-- what a literal is worth: an integer of the range, a boolean, a string without a tag, or nothing
-- of these
pub data Worth : Type 0 where
  integer : ℤ → Worth
  boolean : Bool → Worth
  text : List ℕ → Worth
  other : Worth

abbrev pub worth : Term → Worth
worth (Literal l) =
    if bytes_eq l.datatype xsd_integer then option_map_or integer (integer_of l.form) other
    else (if bytes_eq l.datatype xsd_boolean then option_map_or boolean (boolean_of l.form) other
    else (if bytes_eq l.datatype xsd_string then text l.form else other))
worth _ = other

-- ---- terms that are computed

abbrev pub boolean_term : Bool → Term
boolean_term b = Literal (lit.typed (if b then codes "true" else codes "false") xsd_boolean)

abbrev pub integer_term : ℤ → Term
integer_term z = Literal (lit.typed (canonical z) xsd_integer)

abbrev pub text_term : List ℕ → Term
text_term form = Literal (lit.typed form xsd_string)

-- a string of this form, with this tag if there is one
abbrev pub strung : Option (List ℕ) → List ℕ → Term
strung None form = text_term form
strung (Some tag) form =
    Literal (record { form = form; datatype = lit.rdf_lang_string; tag = Some tag })

-- ---- what is true (17.2.2)

-- a number that is not 0, of any size; what is no number is false
abbrev pub is_not_zero : Option ℤ → Bool
is_not_zero None = false
is_not_zero (Some (pos n)) = not (n == 0)
is_not_zero (Some (negsuc n)) = true

-- of a boolean its value, of an integer whether it isn't 0, of a string, with a tag or without,
-- whether it isn't empty; else an error; an ill-formed boolean or integer is false
abbrev pub ebv : Term → Option Bool
ebv (Literal l) =
    if bytes_eq l.datatype xsd_boolean then Some (unwrap_or (boolean_of l.form) false)
    else (if bytes_eq l.datatype xsd_integer then Some (is_not_zero (whole_number l.form))
    else (if bytes_eq l.datatype xsd_string || is_some l.tag then Some (is_not_empty l.form)
    else None))
ebv _ = None

-- ---- comparisons (17.3 and 17.4.1.7)

-- how two values of one kind stand to each other, false before true, texts by code points; an error
-- for all others
abbrev pub compare : Worth → Worth → Option Ordering
compare (integer a) (integer b) = Some (int_cmp a b)
compare (boolean a) (boolean b) = Some (bool_cmp a b)
compare (text a) (text b) = Some (slice_cmp nat_cmp a b)
compare _ _ = None

abbrev pub is_literal : Term → Bool
is_literal (Literal l) = true
is_literal _ = false

-- terms without values of one kind are equal where they are the same; two other literals are
-- neither equal nor unequal
abbrev pub equal_terms : Term → Term → Option Bool
equal_terms a b = if same_term a b then Some true
    else (if is_literal a && is_literal b then None else Some false)

-- `=`: by value where both have values of one kind, and else as terms
abbrev pub equal : Term → Term → Option Bool
equal a b = option_or (option_map is_eq (compare (worth a) (worth b))) (equal_terms a b)
