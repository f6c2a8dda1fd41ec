-- What the kept value tells of a term.
use Rattle.std.proofs.Common.{◌≡◌, ℕ, ◌^◌, Bool, true, false, ◌||◌, List, Option, Some, None, refl, sym, ap, subst, ◌∙◌, if◌then◌else◌}
use Rattle.std.specs.Prelude.{ℤ, pos, negsuc}
use Rattle.std.specs.Int.{w64}
use Rattle.std.specs.Int.RustNames.{FitsSigned}
use Rattle.std.specs.Str.{bytes_eq}
use Rattle.std.specs.Option.{is_some}
use Rattle.std.proofs.lemmas.Slice.Eq.{bytes_eq-Decides}
use mir.Val.{of_z, to_z}
use Rattle.std.proofs.lemmas.Int.{to_z-of_z}
use borrow.Author.Tests.{ltb-true}
use Rattle.qs_terms.specs.Literal.{xsd_string, xsd_integer, xsd_boolean}
use Rattle.qs_terms.specs.declared.term.Term.{Term}
use Rattle.qs_terms.specs.declared.term.Term.TheVariants.{Iri, Blank, Literal}
use Rattle.qs_expr_values.specs.Number.{whole_number, integer_of}
use Rattle.qs_expr_values.specs.Values.{Worth, integer, boolean, text, other, boolean_of, worth, is_not_zero, ebv}
use Rattle.qs_expr_values.specs.inner.Values.{is_true, integer_or_other, boolean_or_other}
use Rattle.qs_expr_values.specs.Text.{is_not_empty}
use Rattle.qs_expr_values.specs.inner.TermValue.{is_of_64_bits, integer_or_wide, value_of_worth, term_value}
use Rattle.qs_expr_values.specs.declared.term_value.TermValue.{TermValue}
use Rattle.qs_expr_values.specs.declared.term_value.TermValue.TheVariants as kept
use Rattle.qs_expr_values.proofs.Numbers.{below, not_zero_in_range}

-- ---- what is kept of an integer

fits : (z : ℤ) → FitsSigned w64 z → is_of_64_bits z ≡ true
fits (pos n) h = below n (2 ^ 63) h.sfits
fits (negsuc n) h = below n (2 ^ 63) h.sfits

fits_back : (z : ℤ) → is_of_64_bits z ≡ true → FitsSigned w64 z
fits_back (pos n) h = record { sfits = ltb-true n (2 ^ 63) h }
fits_back (negsuc n) h = record { sfits = ltb-true n (2 ^ 63) h }

pub narrowed : (z : ℤ) → FitsSigned w64 z → kept.Integer z ≡ integer_or_wide z
narrowed z h = sym (ap (λ b. if b then kept.Integer z else kept.Wide) (fits z h))

pub too_wide : (z : ℤ) → (FitsSigned w64 z → ⊥) → kept.Wide ≡ integer_or_wide z
too_wide z h = by (is_of_64_bits z) refl
  where
    by : (b : Bool) → is_of_64_bits z ≡ b → kept.Wide ≡ (if b then kept.Integer z else kept.Wide)
    by true e = absurd (h (fits_back z e))
    by false e = refl

-- ---- what the kept value tells of the worth

integer_kept : (w : Worth) (z : ℤ) → kept.Integer z ≡ value_of_worth w → w ≡ integer z
integer_kept (integer y) z e = by (is_of_64_bits y) e
  where
    by : (b : Bool) → kept.Integer z ≡ (if b then kept.Integer y else kept.Wide) → integer y ≡ integer z
    by true e = cc
    by false e = cc
integer_kept (boolean b) z e = cc
integer_kept (text s) z e = cc
integer_kept other z e = cc

boolean_kept : (w : Worth) (b : Bool) → kept.Boolean b ≡ value_of_worth w → w ≡ boolean b
boolean_kept (integer y) b e = by (is_of_64_bits y) e
  where
    by : (t : Bool) → kept.Boolean b ≡ (if t then kept.Integer y else kept.Wide) → integer y ≡ boolean b
    by true e = cc
    by false e = cc
boolean_kept (boolean c) b e = cc
boolean_kept (text s) b e = cc
boolean_kept other b e = cc

other_kept : (w : Worth) → kept.Other ≡ value_of_worth w → w ≡ other
other_kept (integer y) e = by (is_of_64_bits y) e
  where
    by : (t : Bool) → kept.Other ≡ (if t then kept.Integer y else kept.Wide) → integer y ≡ other
    by true e = cc
    by false e = cc
other_kept (boolean c) e = cc
other_kept (text s) e = cc
other_kept other e = refl

pub worth_of_integer : (t : Term) (z : ℤ) → kept.Integer z ≡ term_value t → integer z ≡ worth t
worth_of_integer t z e = sym (integer_kept (worth t) z e)

pub worth_of_boolean : (t : Term) (b : Bool) → kept.Boolean b ≡ term_value t → boolean b ≡ worth t
worth_of_boolean t b e = sym (boolean_kept (worth t) b e)

pub worth_of_other : (t : Term) → kept.Other ≡ term_value t → other ≡ worth t
worth_of_other t e = sym (other_kept (worth t) e)

-- ---- what it tells of the truth of a literal

some_integer : (o : Option ℤ) (z : ℤ) → integer_or_other o ≡ integer z → o ≡ Some z
some_integer (Some y) z e = cc
some_integer None z e = cc

no_integer : (o : Option ℤ) (b : Bool) → integer_or_other o ≡ boolean b → ⊥
no_integer (Some y) b e = cc
no_integer None b e = cc

some_boolean : (o : Option Bool) (b : Bool) → boolean_or_other o ≡ boolean b → o ≡ Some b
some_boolean (Some c) b e = cc
some_boolean None b e = cc

no_boolean : (o : Option Bool) (z : ℤ) → boolean_or_other o ≡ integer z → ⊥
no_boolean (Some c) z e = cc
no_boolean None z e = cc

-- no datatype is both
apart : bytes_eq xsd_integer xsd_boolean ≡ false
unfolding xsd_integer xsd_boolean
apart = refl

not_both : (datatype : List ℕ) → bytes_eq datatype xsd_integer ≡ true → bytes_eq datatype xsd_boolean ≡ true → ⊥
not_both datatype i b =
    let same : datatype ≡ xsd_integer = (bytes_eq-Decides datatype xsd_integer).0 i in
    let e : bytes_eq xsd_integer xsd_boolean ≡ true = subst (λ d. bytes_eq d xsd_boolean ≡ true) same b in
    let f : false ≡ true = sym apart ∙ e in
    cc

module _ (form datatype : List ℕ) (tag : Option (List ℕ)) where
  integer_truth : (z : ℤ) (i b s : Bool) → (i ≡ true → b ≡ true → ⊥) → (if i then integer_or_other (integer_of form) else (if b then boolean_or_other (boolean_of form) else (if s then text form else other))) ≡ integer z
      → Some (is_not_zero (Some z)) ≡ (if b then Some (is_true (boolean_of form)) else (if i then Some (is_not_zero (whole_number form)) else (if s || is_some tag then Some (is_not_empty form) else None)))
  integer_truth z true true s d e = absurd (d refl refl)
  integer_truth z true false s d e = ap Some (sym (not_zero_in_range form z (some_integer (integer_of form) z e)))
  integer_truth z false true s d e = absurd (no_boolean (boolean_of form) z e)
  integer_truth z false false true d e = cc
  integer_truth z false false false d e = cc

  boolean_truth : (c : Bool) (i b s : Bool) → (if i then integer_or_other (integer_of form) else (if b then boolean_or_other (boolean_of form) else (if s then text form else other))) ≡ boolean c
      → Some c ≡ (if b then Some (is_true (boolean_of form)) else (if i then Some (is_not_zero (whole_number form)) else (if s || is_some tag then Some (is_not_empty form) else None)))
  boolean_truth c true b s e = absurd (no_integer (integer_of form) c e)
  boolean_truth c false true s e = ap (λ o. Some (is_true o)) (sym (some_boolean (boolean_of form) c e))
  boolean_truth c false false true e = cc
  boolean_truth c false false false e = cc

integer_ebv : (t : Term) (z : ℤ) → worth t ≡ integer z → Some (is_not_zero (Some z)) ≡ ebv t
integer_ebv (Iri i) z e = cc
integer_ebv (Blank n) z e = cc
integer_ebv (Literal l) z e =
    integer_truth l.form l.datatype l.tag z (bytes_eq l.datatype xsd_integer) (bytes_eq l.datatype xsd_boolean) (bytes_eq l.datatype xsd_string) (not_both l.datatype) e

boolean_ebv : (t : Term) (b : Bool) → worth t ≡ boolean b → Some b ≡ ebv t
boolean_ebv (Iri i) b e = cc
boolean_ebv (Blank n) b e = cc
boolean_ebv (Literal l) b e =
    boolean_truth l.form l.datatype l.tag b (bytes_eq l.datatype xsd_integer) (bytes_eq l.datatype xsd_boolean) (bytes_eq l.datatype xsd_string) e

pub ebv_of_integer : (t : Term) (z : ℤ) → kept.Integer z ≡ term_value t → Some (is_not_zero (Some z)) ≡ ebv t
ebv_of_integer t z e = integer_ebv t z (integer_kept (worth t) z e)

pub ebv_of_boolean : (t : Term) (b : Bool) → kept.Boolean b ≡ term_value t → Some b ≡ ebv t
ebv_of_boolean t b e = boolean_ebv t b (boolean_kept (worth t) b e)

-- a number that is passed is the same after the call
pub passed : (r : Bool) (z : ℤ) → FitsSigned w64 z → r ≡ is_not_zero (Some (to_z w64 (of_z w64 z))) → r ≡ is_not_zero (Some z)
passed r z h e = e ∙ ap (λ y. is_not_zero (Some y)) (to_z-of_z w64 z h)
