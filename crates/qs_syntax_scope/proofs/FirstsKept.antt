-- Variables by their names, each at its first place.
use Rattle.std.proofs.Common.{◌≡◌, ◌+◌, ◌<◌, ℕ, Bool, true, false, ◌||◌, if◌then◌else◌, nat_eq, List, [], ◌∷◌, ◌++◌, length, take, get_or, refl, sym, ap, subst, ◌∙◌, append_assoc}
use Rattle.std.proofs.lemmas.Bool.{or_right}
use Rattle.std.proofs.lemmas.List.{append-nil, map-append, take_more}
use Rattle.std.proofs.lemmas.List.Folds.{list_any-append}
use Rattle.std.proofs.lemmas.List.Sums.{fold-append}
use Rattle.std.specs.Bool.{Decides}
use Rattle.std.specs.Cmp.Lexicographic.{pointwise, bytes_decides, nat_list_eq_equiv}
use Rattle.std.specs.List.{fold, list_any}
use Rattle.qs_terms.proofs.FirstOnes.{once_with}
use Rattle.qs_terms.specs.Bag.{with_new}
use Rattle.qs_syntax_scope.specs.Firsts.{names_of, firsts}
use Rattle.qs_syntax_scope.specs.inner.Firsts.{with_name, with_names, add_first, firsts_of}
use Rattle.qs_syntax_scope.specs.Names.{Name, contains}
use Rattle.qs_syntax_ast.specs.declared.term.Variable.{Variable}

pub whole : (names : List Name) → take (length names) names ≡ names
whole [] = refl
whole (x ∷ xs) = ap (λ ys. x ∷ ys) (whole xs)

-- ---- variables and their names

pub names_with : (found : List Variable) (v : Variable) → names_of (found ++ v ∷ []) ≡ names_of found ++ v.name ∷ []
names_with [] v = refl
names_with (x ∷ xs) v = ap (λ ys. x.name ∷ ys) (names_with xs v)

pub names_of_with : (names : List Name) → names_of (with_names names) ≡ names
names_of_with [] = refl
names_of_with (x ∷ xs) = ap (λ ys. x ∷ ys) (names_of_with xs)

pub with_own_names : (variables : List Variable) → with_names (names_of variables) ≡ variables
with_own_names [] = refl
with_own_names (x ∷ xs) = ap (λ ys. x ∷ ys) (with_own_names xs)

-- ---- what is among the first variables

or_false : (b : Bool) → (b || false) ≡ b
or_false true = refl
or_false false = refl

or_assoc : (a b c : Bool) → ((a || b) || c) ≡ (a || (b || c))
or_assoc true b c = refl
or_assoc false b c = refl

add_one : (found : List Variable) (v : Variable) (name : Name) → contains (names_of (add_first found v)) name ≡ (contains (names_of found) name || pointwise nat_eq v.name name)
unfolding add_first
add_one found v name = by (contains (names_of found) v.name) refl
  where
    known : (c : Bool) → pointwise nat_eq v.name name ≡ c → contains (names_of found) v.name ≡ true → contains (names_of found) name ≡ (contains (names_of found) name || c)
    known true f e =
        let is : v.name ≡ name = (bytes_decides v.name name).0 f in
        subst (λ n. contains (names_of found) n ≡ true) is e ∙ sym (or_right (contains (names_of found) name) true refl)
    known false f e = sym (or_false (contains (names_of found) name))

    by : (b : Bool) → contains (names_of found) v.name ≡ b → contains (names_of (if b then found else found ++ v ∷ [])) name ≡ (contains (names_of found) name || pointwise nat_eq v.name name)
    by true e = known (pointwise nat_eq v.name name) refl e
    by false e =
        ap (λ names. contains names name) (names_with found v)
        ∙ list_any-append (λ one. pointwise nat_eq one name) (names_of found) (v.name ∷ [])
        ∙ ap (λ b. contains (names_of found) name || b) (or_false (pointwise nat_eq v.name name))

add_all : (found variables : List Variable) (name : Name) → contains (names_of (fold add_first found variables)) name ≡ (contains (names_of found) name || contains (names_of variables) name)
add_all found [] name = sym (or_false (contains (names_of found) name))
add_all found (v ∷ vs) name =
    add_all (add_first found v) vs name
    ∙ ap (λ b. b || contains (names_of vs) name) (add_one found v name)
    ∙ or_assoc (contains (names_of found) name) (pointwise nat_eq v.name name) (contains (names_of vs) name)

-- ---- one after another, and by the first places

exact : (v w : Variable) → Decides (pointwise nat_eq v.name w.name) (v ≡ w)
exact v w = (λ e. ap with_name ((bytes_decides v.name w.name).0 e), λ e. (bytes_decides v.name w.name).1 (ap (λ (u : Variable). u.name) e))

among : (found : List Variable) (v : Variable) → contains (names_of found) v.name ≡ list_any (λ (w : Variable). pointwise nat_eq v.name w.name) found
among [] v = refl
among (x ∷ xs) v =
    ap (λ b. b || contains (names_of xs) v.name) (nat_list_eq_equiv.symm x.name v.name)
    ∙ ap (λ b. pointwise nat_eq v.name x.name || b) (among xs v)

add_is : (found : List Variable) (v : Variable) → add_first found v ≡ with_new (λ (a b : Variable). pointwise nat_eq a.name b.name) found v
unfolding add_first
add_is found v = ap (λ (b : Bool). if b then found else found ++ v ∷ []) (among found v)

firsts_after : (ys xs : List Variable) → fold add_first (firsts ys) xs ≡ firsts (ys ++ xs)
firsts_after ys [] = ap firsts (sym (append-nil ys))
firsts_after ys (x ∷ xs) =
    ap (λ l. fold add_first l xs) (add_is (firsts ys) x ∙ sym (once_with (λ (a b : Variable). pointwise nat_eq a.name b.name) exact ys x))
    ∙ firsts_after (ys ++ x ∷ []) xs
    ∙ ap firsts (append_assoc ys (x ∷ []) xs)

pub firsts_are : (variables : List Variable) → firsts_of variables ≡ firsts variables
firsts_are variables = firsts_after [] variables

-- the same names as among all
pub contains_firsts_of : (variables : List Variable) (name : Name) → contains (names_of (firsts_of variables)) name ≡ contains (names_of variables) name
contains_firsts_of variables name = add_all [] variables name

pub contains_firsts : (variables : List Variable) (name : Name) → contains (names_of (firsts variables)) name ≡ contains (names_of variables) name
contains_firsts variables name = ap (λ l. contains (names_of l) name) (sym (firsts_are variables)) ∙ contains_firsts_of variables name

-- ---- one more name

put_name : (names : List Name) (name : Name) →
    firsts_of (with_names (names ++ name ∷ [])) ≡ (if contains names name then firsts_of (with_names names) else firsts_of (with_names names) ++ with_name name ∷ [])
unfolding add_first
put_name names name =
    ap (fold add_first []) (map-append with_name names (name ∷ []))
    ∙ fold-append add_first [] (with_names names) (with_name name ∷ [])
    ∙ ap (λ (b : Bool). if b then firsts_of (with_names names) else firsts_of (with_names names) ++ with_name name ∷ [])
    (contains_firsts_of (with_names names) name ∙ ap (λ all. contains all name) (names_of_with names))

pub first_more : (names : List Name) (i : ℕ) (name : Name) → i < length names → name ≡ get_or names i name →
    firsts (with_names (take (i + 1) names)) ≡ (if contains (take i names) name then firsts (with_names (take i names)) else firsts (with_names (take i names)) ++ with_name name ∷ [])
first_more names i name h e =
    ap (λ all. firsts (with_names all)) (take_more names i name h ∙ ap (λ n. take i names ++ n ∷ []) (sym e))
    ∙ sym (firsts_are (with_names (take i names ++ name ∷ [])))
    ∙ put_name (take i names) name
    ∙ ap (λ l. if contains (take i names) name then l else l ++ with_name name ∷ []) (firsts_are (with_names (take i names)))
