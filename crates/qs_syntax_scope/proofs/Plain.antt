-- Names one after another, and the definitions that ask for no order, give the same answer.
use Rattle.std.proofs.Common.{◌≡◌, Bool, true, false, ◌&&◌, ◌||◌, not, List, [], ◌∷◌, ◌++◌, map, nat_eq, refl, ap, ◌∙◌}
use Rattle.std.proofs.lemmas.List.Folds.{list_any-append}
use Rattle.std.specs.Cmp.Lexicographic.{pointwise, nat_list_eq_equiv}
use Rattle.std.specs.List.{list_any, fold}
use Rattle.qs_syntax_ast.specs.declared.query.SelectItem.{SelectItem}
use Rattle.qs_syntax_ast.specs.declared.query.SelectItem.TheVariants as item
use Rattle.qs_syntax_scope.specs.declared.met.Met.{Met}
use Rattle.qs_syntax_scope.specs.Names.{Name, contains, are_distinct, are_apart}
use Rattle.qs_syntax_scope.specs.Scope.{all_keep}
use Rattle.qs_syntax_scope.specs.Selected.{item_scope}
use Rattle.qs_syntax_scope.specs.inner.Met.{after, add_new, add_run}
use Rattle.qs_syntax_scope.specs.inner.Selected.{add_item}

pub and_true : (a : Bool) → a ≡ (a && true)
and_true true = refl
and_true false = refl

pub and_assoc : (a b c : Bool) → ((a && b) && c) ≡ (a && (b && c))
and_assoc true b c = refl
and_assoc false b c = refl

or_false : (b : Bool) → (b || false) ≡ b
or_false true = refl
or_false false = refl

mixed : (a b c d : Bool) → ((a || b) || (c || d)) ≡ ((a || c) || (b || d))
mixed true b c d = refl
mixed false true true d = refl
mixed false true false d = refl
mixed false false c d = refl

regroup : (k x y z w : Bool) → ((k && not x) && (not (y || z) && w)) ≡ (k && (not (x || y) && (not z && w)))
regroup true true y z w = refl
regroup true false true z w = refl
regroup true false false z w = refl
regroup false x y z w = refl

-- ---- names of a list among those of two

any_append : (a b names : List Name) → list_any (contains (a ++ b)) names ≡ (list_any (contains a) names || list_any (contains b) names)
any_append a b [] = refl
any_append a b (x ∷ xs) =
    ap (λ c. c || list_any (contains (a ++ b)) xs) (list_any-append (λ one. pointwise nat_eq one x) a b)
    ∙ ap (λ c. (contains a x || contains b x) || c) (any_append a b xs)
    ∙ mixed (contains a x) (contains b x) (list_any (contains a) xs) (list_any (contains b) xs)

runs_append : (a b : List Name) (runs : List (List Name))
    → list_any (list_any (contains (a ++ b))) runs ≡ (list_any (list_any (contains a)) runs || list_any (list_any (contains b)) runs)
runs_append a b [] = refl
runs_append a b (r ∷ rs) =
    ap (λ c. c || list_any (list_any (contains (a ++ b))) rs) (any_append a b r)
    ∙ ap (λ c. (list_any (contains a) r || list_any (contains b) r) || c) (runs_append a b rs)
    ∙ mixed (list_any (contains a) r) (list_any (contains b) r) (list_any (list_any (contains a)) rs) (list_any (list_any (contains b)) rs)

none_in : (names : List Name) → list_any (contains []) names ≡ false
none_in [] = refl
none_in (x ∷ xs) = none_in xs

none_in_runs : (runs : List (List Name)) → list_any (list_any (contains [])) runs ≡ false
none_in_runs [] = refl
none_in_runs (r ∷ rs) = ap (λ b. b || list_any (list_any (contains [])) rs) (none_in r) ∙ none_in_runs rs

-- among one name
one_in : (x : Name) (xs : List Name) → list_any (contains (x ∷ [])) xs ≡ contains xs x
one_in x [] = refl
one_in x (y ∷ ys) =
    ap (λ b. b || list_any (contains (x ∷ [])) ys) (or_false (pointwise nat_eq x y) ∙ nat_list_eq_equiv.symm x y)
    ∙ ap (λ b. pointwise nat_eq y x || b) (one_in x ys)

-- ---- runs

apart_folded : (m : Met) (runs : List (List Name)) → (fold add_run m runs).keeps ≡ (m.keeps && (not (list_any (list_any (contains m.names)) runs) && are_apart runs))
apart_folded m [] = and_true m.keeps
apart_folded m (run ∷ runs) =
    apart_folded (add_run m run) runs
    ∙ ap (λ b. (m.keeps && not (list_any (contains m.names) run)) && (not b && are_apart runs)) (runs_append m.names run runs)
    ∙ regroup m.keeps (list_any (contains m.names) run) (list_any (list_any (contains m.names)) runs) (list_any (list_any (contains run)) runs) (are_apart runs)

pub apart_kept : (runs : List (List Name)) → (fold add_run (after []) runs).keeps ≡ are_apart runs
apart_kept runs = apart_folded (after []) runs ∙ ap (λ b. not b && are_apart runs) (none_in_runs runs)

-- ---- names

distinct_folded : (m : Met) (names : List Name) → (fold add_new m names).keeps ≡ (m.keeps && (not (list_any (contains m.names) names) && are_distinct names))
distinct_folded m [] = and_true m.keeps
distinct_folded m (x ∷ xs) =
    distinct_folded (add_new m x) xs
    ∙ ap (λ b. (m.keeps && not (contains m.names x)) && (not b && are_distinct xs)) (any_append m.names (x ∷ []) xs ∙ ap (λ b. list_any (contains m.names) xs || b) (one_in x xs))
    ∙ regroup m.keeps (contains m.names x) (list_any (contains m.names) xs) (contains xs x) (are_distinct xs)

pub distinct_kept : (names : List Name) → (fold add_new (after []) names).keeps ≡ are_distinct names
distinct_kept names = distinct_folded (after []) names ∙ ap (λ b. not b && are_distinct names) (none_in names)

-- ---- items of SELECT

new_folded : (m : Met) (items : List SelectItem) → (fold add_item m items).keeps ≡ (m.keeps && all_keep m.names (map item_scope items))
new_folded m [] = and_true m.keeps
new_folded m (item.Variable v ∷ items) = new_folded (add_item m (item.Variable v)) items
new_folded m (item.As value v ∷ items) =
    new_folded (add_item m (item.As value v)) items ∙ and_assoc m.keeps (not (contains m.names v.name)) (all_keep (m.names ++ v.name ∷ []) (map item_scope items))

pub items_kept : (taken : List Name) (items : List SelectItem) → (fold add_item (after taken) items).keeps ≡ all_keep taken (map item_scope items)
items_kept taken items = new_folded (after taken) items
