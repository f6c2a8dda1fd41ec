-- Constants among which values are looked up.
use Rattle.std.specs.Prelude.{◌≡◌, ℕ, Bool, true, false, ◌&&◌, ◌||◌, not, List, Some}
use Rattle.std.specs.Prelude.{if◌then◌else◌}
use Rattle.std.specs.List.{list_any}
use Rattle.std.specs.Prelude.{map}
use Rattle.std.specs.Option.{option_map}
use Rattle.std.specs.Ordering.{int_eq}
use Rattle.qs_terms.specs.Term.{same_term}
use Rattle.qs_terms.specs.declared.term.Term.{Term}
use Rattle.qs_expr_values.specs.Values.{Worth, integer, boolean, text, other, worth, equal}
use Rattle.qs_expr_values.specs.Values.{is_literal, text_term}
use Rattle.qs_expr_values.specs.inner.Values.{is_true}
use Rattle.qs_algebra_solutions.specs.Solution.{Solution}
use Rattle.qs_expr_meaning.specs.Calls.{Value, of_both}
use Rattle.qs_expr_meaning.specs.Truth.{denied}
use Rattle.qs_expr_meaning.specs.Meaning.{among, meaning}
use Rattle.qs_expr_meaning.specs.declared.expr.Expr.{Expr}
use Rattle.qs_expr.specs.declared.members.Members.{Members}
use Rattle.qs_expr.specs.declared.members.Kinds.{Kinds}

-- `=` of the two terms is true
abbrev pub equals : Term → Term → Bool
equals x k = is_true (equal x k)

-- `=` of the two terms is false: it doesn't err
abbrev pub differs : Term → Term → Bool
differs x k = is_true (option_map not (equal x k))

-- whether a term of this worth is a literal; one without a value may be
abbrev pub literal_by : Bool → Worth → Bool
literal_by l (integer z) = true
literal_by l (boolean b) = true
literal_by l (text s) = true
literal_by l other = l

-- two integers, two booleans or two strings
abbrev pub same_kind : Worth → Worth → Bool
same_kind (integer y) (integer z) = true
same_kind (boolean a) (boolean b) = true
same_kind (text s) (text t) = true
same_kind _ _ = false

abbrev pub same_truth : Bool → Bool → Bool
same_truth true b = b
same_truth false b = not b

-- whether two terms are equal, by what they are worth, and where that doesn't decide by whether
-- they are the same
abbrev pub hit_by : Bool → Worth → Worth → Bool
hit_by same (integer y) (integer z) = int_eq y z
hit_by same (integer y) (boolean b) = false
hit_by same (integer y) (text t) = false
hit_by same (integer y) other = false
hit_by same (boolean a) (integer z) = false
hit_by same (boolean a) (boolean b) = same_truth a b
hit_by same (boolean a) (text t) = false
hit_by same (boolean a) other = false
hit_by same (text s) (integer z) = false
hit_by same (text s) (boolean b) = false
hit_by same (text s) (text t) = same
hit_by same (text s) other = same
hit_by same other (integer z) = false
hit_by same other (boolean b) = false
hit_by same other (text t) = same
hit_by same other other = same

-- two literals that aren't worth something of one kind
abbrev pub clash_by : Bool → Worth → Bool → Worth → Bool
clash_by l w m v = literal_by l w && (literal_by m v && not (same_kind w v))

-- whether some member is a literal of another kind than a literal of this worth
abbrev pub others : Kinds → Worth → Bool
others k (integer z) = k.boolean || (k.text || k.other)
others k (boolean b) = k.integer || (k.text || k.other)
others k (text s) = k.integer || (k.boolean || k.other)
others k other = k.integer || (k.boolean || (k.text || k.other))

-- whether some member equals the term of this worth
abbrev pub is_in_by : Members → Term → Worth → Bool
is_in_by s x (integer z) = list_any (int_eq z) s.integers.keys
is_in_by s x (boolean b) = if b then s.has_true else s.has_false
is_in_by s x (text t) = list_any (same_term x) s.terms.keys
is_in_by s x other = list_any (same_term x) s.terms.keys

-- whether `=` of a term of this worth and some member errs, unless they are the same term
abbrev pub errs_by : Members → Bool → Worth → Bool
errs_by s l w = literal_by l w && others s.kinds w

-- whether some member equals the term
abbrev pub is_in : Members → Term → Bool
is_in s x = is_in_by s x (worth x)

-- whether each member differs from the term
abbrev pub is_apart : Members → Term → Bool
is_apart s x = not (is_in s x || errs_by s (is_literal x) (worth x))

-- a string without a tag is one term alone
abbrev pub IsProper : Term → Type 0
IsProper t = (s : List ℕ) → worth t ≡ text s → t ≡ text_term s

-- no members
pub record IsEmpty (s : Members) : Type 0 where
  pub within : (x : Term) (w : Worth) → is_in_by s x w ≡ false
  pub errs : (l : Bool) (w : Worth) → errs_by s l w ≡ false

-- a worth of terms that are kept as terms
abbrev pub IsTextOrOther : Worth → Type 0
IsTextOrOther (integer z) = ⊥
IsTextOrOther (boolean b) = ⊥
IsTextOrOther (text s) = Unit {0}
IsTextOrOther other = Unit {0}

-- ---- lists of expressions

-- `=` of the term and what the expression means is true
abbrev pub equals_member : Solution → Term → Expr → Bool
equals_member m x e = is_true (of_both equal (Some x) (meaning m e))

-- `=` of the term and what the expression means is false
abbrev pub differs_member : Solution → Term → Expr → Bool
differs_member m x e = is_true (denied (of_both equal (Some x) (meaning m e)))

-- whether the IN of a value is true, or, where it is denied, the NOT IN
abbrev pub among_by : Bool → Solution → Value → List Expr → Bool
among_by deny m x es = if deny then is_true (denied (among x (map (meaning m) es)))
    else is_true (among x (map (meaning m) es))

-- the same by the members
abbrev pub decided : Bool → Members → Term → Bool
decided deny s x = if deny then is_apart s x else is_in s x
