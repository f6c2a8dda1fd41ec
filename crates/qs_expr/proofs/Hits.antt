-- Constants among which values are looked up.
use Rattle.std.proofs.Common.{◌≡◌, ℕ, Bool, true, false, ◌&&◌, ◌||◌, not, if◌then◌else◌, List, [], ◌∷◌, ◌++◌, Option, Some, None, refl, sym, ◌∙◌, ap}
use Rattle.std.specs.Prelude.{ℤ}
use Rattle.std.specs.Option.{option_map}
use Rattle.std.specs.Str.{bytes_eq}
use Rattle.std.specs.List.{list_any}
use Rattle.std.specs.Ordering.{int_eq, is_eq}
use Rattle.std.specs.Cmp.Lexicographic.{slice_cmp}
use Rattle.std.specs.Ordering.{nat_cmp}
use Rattle.std.proofs.lemmas.Map.Text.{is_eq-slice_cmp}
use Rattle.std.proofs.lemmas.Slice.Eq.{bytes_eq-Decides}
use Rattle.std.proofs.lemmas.Bool.Decides.{same_from_decides, Decides-like}
use Rattle.qs_terms.specs.Literal.{Literal, xsd_string, xsd_integer, xsd_boolean, rdf_lang_string}
use Rattle.qs_terms.specs.inner.Literal.{is_literal as is_lawful, fits_tag}
use Rattle.qs_terms.specs.declared.term.Term.{Term}
use Rattle.qs_terms.specs.declared.term.Term.TheVariants as rdf
use Rattle.qs_terms.specs.Term.{same_term}
use Rattle.qs_terms.proofs.SameTerm.{same_term-Decides}
use Rattle.qs_expr_values.specs.Number.{integer_of}
use Rattle.qs_expr_values.specs.Values.{Worth, integer, boolean, text, other, worth, boolean_of, compare, is_literal, text_term}
use Rattle.qs_expr_values.specs.inner.Values.{is_true, integer_or_other, boolean_or_other, by_order}
use Rattle.qs_expr.specs.inner.Members.{equals, differs, literal_by, same_truth, hit_by, clash_by, errs_by, is_in_by, is_in, is_apart, IsProper, IsTextOrOther}
use Rattle.qs_expr.specs.declared.members.Members.{Members}
use Rattle.qs_terms.specs.Bag.{with_new}
use Rattle.std.proofs.lemmas.List.Folds.{list_any-append}

-- ---- strings without tags

pub plain_proper : (t : Term) → is_literal t ≡ false → IsProper t
plain_proper (rdf.Iri i) h s e = absurd (cc)
plain_proper (rdf.Blank n) h s e = absurd (cc)
plain_proper (rdf.Literal l) h s e = let f : true ≡ false = h in absurd (cc)

no_integer : (o : Option ℤ) (s : List ℕ) → integer_or_other o ≡ text s → ⊥
no_integer None s e = cc
no_integer (Some z) s e = cc

no_boolean : (o : Option Bool) (s : List ℕ) → boolean_or_other o ≡ text s → ⊥
no_boolean None s e = cc
no_boolean (Some b) s e = cc

abbrev literal_of : List ℕ → List ℕ → Option (List ℕ) → Term
literal_of form datatype tag = rdf.Literal (record { form = form; datatype = datatype; tag = tag })

string_has_none : (t : List ℕ) → fits_tag xsd_string (Some t) ≡ true → ⊥
unfolding xsd_string rdf_lang_string
string_has_none t f = let g : false ≡ true = f in cc

no_tag : (d : List ℕ) (tag : Option (List ℕ)) → d ≡ xsd_string → fits_tag d tag ≡ true → tag ≡ None
no_tag d None e h = refl
no_tag d (Some t) e h = absurd (string_has_none t (sym (ap (λ x. fits_tag x (Some t)) e) ∙ h))

pub literal_proper : (l : Literal) → is_lawful l ≡ true → IsProper (rdf.Literal l)
literal_proper l h s = by (bytes_eq l.datatype xsd_integer) (bytes_eq l.datatype xsd_boolean) (bytes_eq l.datatype xsd_string) refl
  where
    by : (a b c : Bool) → bytes_eq l.datatype xsd_string ≡ c → (if a then integer_or_other (integer_of l.form) else (if b then boolean_or_other (boolean_of l.form) else (if c then text l.form else other))) ≡ text s → rdf.Literal l ≡ text_term s
    by true b c k e = absurd (no_integer (integer_of l.form) s e)
    by false true c k e = absurd (no_boolean (boolean_of l.form) s e)
    by false false true k e =
        let d : l.datatype ≡ xsd_string = (bytes_eq-Decides l.datatype xsd_string).0 k in
        let f : l.form ≡ s = cc in
        let t : l.tag ≡ None = no_tag l.datatype l.tag d h in
        ap (λ x. literal_of x l.datatype l.tag) f ∙ (ap (λ x. literal_of s x l.tag) d ∙ ap (λ x. literal_of s xsd_string x) t)
    by false false false k e = absurd (cc)

proper_worth : (s t : List ℕ) (x k : Term) → IsProper x → IsProper k → worth x ≡ text s → worth k ≡ text t → bytes_eq s t ≡ same_term x k
proper_worth s t x k p q e f =
    same_from_decides (bytes_eq s t) (same_term x k) (bytes_eq-Decides s t)
    (Decides-like (same_term x k)
    (λ (i : x ≡ k). let j : text s ≡ text t = sym e ∙ (ap worth i ∙ f) in cc)
    (λ (i : s ≡ t). p s e ∙ (ap text_term i ∙ sym (q t f)))
    (same_term-Decides x k))

-- ---- one member

-- what `=` is of two terms that aren't worth something of one kind
abbrev unlike : Bool → Bool → Option Bool
unlike s c = if s then Some true else (if c then None else Some false)

unlike_true : (s c : Bool) → is_true (unlike s c) ≡ s
unlike_true true c = refl
unlike_true false true = refl
unlike_true false false = refl

unlike_false : (s c : Bool) → is_true (option_map not (unlike s c)) ≡ not (is_true (unlike s c) || c)
unlike_false true c = refl
unlike_false false true = refl
unlike_false false false = refl

never : (s : Bool) → (s ≡ true → ⊥) → s ≡ false
never true f = absurd (f refl)
never false f = refl

apart_there : (s l m l' m' : Bool) → l' ≡ l → m' ≡ m → is_true (option_map not (unlike s (l && m))) ≡ not (is_true (unlike s (l && m)) || (l' && (m' && true)))
apart_there s l m l' m' h k = unlike_false s (l && m) ∙ ap (λ c. not (is_true (unlike s (l && m)) || c)) (at l m l' m' h k)
  where
    and_true : (a : Bool) → a ≡ (a && true)
    and_true true = refl
    and_true false = refl

    at : (l m l' m' : Bool) → l' ≡ l → m' ≡ m → (l && m) ≡ (l' && (m' && true))
    at l m l' m' h k = sym (ap (λ a. a && (m' && true)) h ∙ ap (λ a. l && a) (sym (and_true m') ∙ k))

same_way : (b : Bool) → is_true (option_map not (Some b)) ≡ not (b || false)
same_way true = refl
same_way false = refl

literal_is : (t : Term) → literal_by (is_literal t) (worth t) ≡ is_literal t
literal_is (rdf.Iri i) = refl
literal_is (rdf.Blank n) = refl
literal_is (rdf.Literal l) = by (worth (rdf.Literal l))
  where
    by : (w : Worth) → literal_by true w ≡ true
    by (integer z) = refl
    by (boolean b) = refl
    by (text s) = refl
    by other = refl

differs_by : (w v : Worth) (s l m : Bool) → literal_by l w ≡ l → literal_by m v ≡ m → is_true (option_map not (by_order (compare w v) (unlike s (l && m)))) ≡ not (is_true (by_order (compare w v) (unlike s (l && m))) || clash_by l w m v)
differs_by (integer y) (integer z) s l m h k = same_way (int_eq y z)
differs_by (integer y) (boolean b) s l m h k = apart_there s l m true true h k
differs_by (integer y) (text t) s l m h k = apart_there s l m true true h k
differs_by (integer y) other s l m h k = apart_there s l m true m h k
differs_by (boolean a) (integer z) s l m h k = apart_there s l m true true h k
differs_by (boolean a) (boolean b) s l m h k = same_way _
differs_by (boolean a) (text t) s l m h k = apart_there s l m true true h k
differs_by (boolean a) other s l m h k = apart_there s l m true m h k
differs_by (text a) (integer z) s l m h k = apart_there s l m true true h k
differs_by (text a) (boolean b) s l m h k = apart_there s l m true true h k
differs_by (text a) (text t) s l m h k = same_way (is_eq (slice_cmp nat_cmp a t))
differs_by (text a) other s l m h k = apart_there s l m true m h k
differs_by other (integer z) s l m h k = apart_there s l m l true h k
differs_by other (boolean b) s l m h k = apart_there s l m l true h k
differs_by other (text t) s l m h k = apart_there s l m l true h k
differs_by other other s l m h k = apart_there s l m l m h k

-- `=` IS FALSE WHERE IT ISN'T TRUE AND THE TWO DON'T CLASH
pub differs_where : (x k : Term) → differs x k ≡ not (equals x k || clash_by (is_literal x) (worth x) (is_literal k) (worth k))
differs_where x k = differs_by (worth x) (worth k) (same_term x k) (is_literal x) (is_literal k) (literal_is x) (literal_is k)

same_truths : (a b : Bool) → is_true (option_map is_eq (compare (boolean a) (boolean b))) ≡ same_truth a b
same_truths true true = refl
same_truths true false = refl
same_truths false true = refl
same_truths false false = refl

hits_by : (w v : Worth) (s c : Bool) → (s ≡ true → w ≡ v) → ((a b : List ℕ) → w ≡ text a → v ≡ text b → bytes_eq a b ≡ s) → is_true (by_order (compare w v) (unlike s c)) ≡ hit_by s w v
hits_by (integer y) (integer z) s c f g = refl
hits_by (integer y) (boolean b) s c f g = unlike_true s c ∙ never s (λ e. let i = f e in cc)
hits_by (integer y) (text t) s c f g = unlike_true s c ∙ never s (λ e. let i = f e in cc)
hits_by (integer y) other s c f g = unlike_true s c ∙ never s (λ e. let i = f e in cc)
hits_by (boolean a) (integer z) s c f g = unlike_true s c ∙ never s (λ e. let i = f e in cc)
hits_by (boolean a) (boolean b) s c f g = same_truths a b
hits_by (boolean a) (text t) s c f g = unlike_true s c ∙ never s (λ e. let i = f e in cc)
hits_by (boolean a) other s c f g = unlike_true s c ∙ never s (λ e. let i = f e in cc)
hits_by (text a) (integer z) s c f g = unlike_true s c ∙ never s (λ e. let i = f e in cc)
hits_by (text a) (boolean b) s c f g = unlike_true s c ∙ never s (λ e. let i = f e in cc)
hits_by (text a) (text t) s c f g = is_eq-slice_cmp a t ∙ g a t refl refl
hits_by (text a) other s c f g = unlike_true s c
hits_by other (integer z) s c f g = unlike_true s c ∙ never s (λ e. let i = f e in cc)
hits_by other (boolean b) s c f g = unlike_true s c ∙ never s (λ e. let i = f e in cc)
hits_by other (text t) s c f g = unlike_true s c
hits_by other other s c f g = unlike_true s c

-- `=` IS TRUE BY WHAT THE TWO ARE WORTH, OR WHERE THEY ARE THE SAME
pub equals_where : (x k : Term) → IsProper x → IsProper k → equals x k ≡ hit_by (same_term x k) (worth x) (worth k)
equals_where x k p q = hits_by (worth x) (worth k) (same_term x k) (is_literal x && is_literal k) (λ e. ap worth ((same_term-Decides x k).0 e)) (λ a b e f. proper_worth a b x k p q e f)

-- ---- one member more

apart_or : (a b c d : Bool) → not ((a || b) || (c || d)) ≡ (not (a || c) && not (b || d))
apart_or true b c d = refl
apart_or false true true d = refl
apart_or false true false d = refl
apart_or false false true d = refl
apart_or false false false d = refl

module _ (old new before after : Bool) where
  pub differs_more : (x k : Term) → new ≡ (old || equals x k) → after ≡ (before || clash_by (is_literal x) (worth x) (is_literal k) (worth k)) → not (new || after) ≡ (not (old || before) && differs x k)
  differs_more x k h e =
      ap (λ a. not (a || after)) h ∙ (ap (λ c. not ((old || equals x k) || c)) e
      ∙ (apart_or old (equals x k) before (clash_by (is_literal x) (worth x) (is_literal k) (worth k)) ∙ ap (λ b. not (old || before) && b) (sym (differs_where x k))))

-- ---- sets

or_false : (a : Bool) → (a || false) ≡ a
or_false true = refl
or_false false = refl

or_true : (a : Bool) → (a || true) ≡ true
or_true true = refl
or_true false = refl

any_with : (x k : Term) (keys : List Term) → list_any (same_term x) (with_new same_term keys k) ≡ (list_any (same_term x) keys || same_term x k)
any_with x k keys = by (list_any (same_term k) keys) (same_term x k) refl refl
  where
    by : (b s : Bool) → list_any (same_term k) keys ≡ b → same_term x k ≡ s → list_any (same_term x) (if b then keys else keys ++ k ∷ []) ≡ (list_any (same_term x) keys || s)
    by false s e f = list_any-append (same_term x) keys (k ∷ []) ∙ ap (λ c. list_any (same_term x) keys || c) (or_false (same_term x k) ∙ f)
    by true false e f = sym (or_false (list_any (same_term x) keys))
    by true true e f =
        let i : x ≡ k = (same_term-Decides x k).0 f in
        (ap (λ y. list_any (same_term y) keys) i ∙ e) ∙ sym (or_true (list_any (same_term x) keys))

module _ (m n : Members) (k : Term) (ints : n.integers ≡ m.integers) (yes : n.has_true ≡ m.has_true) (no : n.has_false ≡ m.has_false) (keys : n.terms.keys ≡ with_new same_term m.terms.keys k) where
  more_terms : (x : Term) → list_any (same_term x) n.terms.keys ≡ (list_any (same_term x) m.terms.keys || same_term x k)
  more_terms x = ap (list_any (same_term x)) keys ∙ any_with x k m.terms.keys

  same_integers : (y : ℤ) → list_any (int_eq y) n.integers.keys ≡ (list_any (int_eq y) m.integers.keys || false)
  same_integers y = ap (λ s. list_any (int_eq y) s.keys) ints ∙ sym (or_false (list_any (int_eq y) m.integers.keys))

  same_booleans : (b : Bool) → (if b then n.has_true else n.has_false) ≡ ((if b then m.has_true else m.has_false) || false)
  same_booleans true = yes ∙ sym (or_false m.has_true)
  same_booleans false = no ∙ sym (or_false m.has_false)

  -- the sets with one term more
  pub with_term : (x : Term) (w v : Worth) → IsTextOrOther v → is_in_by n x w ≡ (is_in_by m x w || hit_by (same_term x k) w v)
  with_term x (integer y) (text t) h = same_integers y
  with_term x (integer y) other h = same_integers y
  with_term x (boolean b) (text t) h = same_booleans b
  with_term x (boolean b) other h = same_booleans b
  with_term x (text s) (text t) h = more_terms x
  with_term x (text s) other h = more_terms x
  with_term x other (text t) h = more_terms x
  with_term x other other h = more_terms x
  with_term x w (integer z) h = absurd h
  with_term x w (boolean b) h = absurd h

-- the sets with a constant more
module _ (m n : Members) (k : Term) (v : Worth) (is : v ≡ worth k) (proper : IsProper k) (hits : (x : Term) (w : Worth) → is_in_by n x w ≡ (is_in_by m x w || hit_by (same_term x k) w v)) where
  pub is_in_more : (x : Term) → IsProper x → is_in n x ≡ (is_in m x || equals x k)
  is_in_more x p = hits x (worth x) ∙ ap (λ b. is_in m x || b) (ap (hit_by (same_term x k) (worth x)) is ∙ sym (equals_where x k p proper))

  pub is_apart_more : ((l : Bool) (w : Worth) → errs_by n l w ≡ (errs_by m l w || clash_by l w (is_literal k) v)) → (x : Term) → IsProper x → is_apart n x ≡ (is_apart m x && differs x k)
  is_apart_more errs x p =
      differs_more (is_in m x) (is_in n x) (errs_by m (is_literal x) (worth x)) (errs_by n (is_literal x) (worth x)) x k (is_in_more x p)
      (errs (is_literal x) (worth x) ∙ ap (λ u. errs_by m (is_literal x) (worth x) || clash_by (is_literal x) (worth x) (is_literal k) u) is)
