-- What the rules say, in words that ask for no order.
use Rattle.std.proofs.Common.{◌≡◌, ◌↔◌, ℕ, zero, suc, Bool, true, false, ◌&&◌, not, List, [], ◌∷◌, ◌++◌, take, map, Some, slice_get, nat_eq, refl, sym, ap, subst, ◌∙◌, ⊎_elim, append_assoc}
use Rattle.std.proofs.lemmas.Bool.{true≢false, and_parts, and_from, or_parts, or_from, or_left, or_right, or_cases, not-true, not_from_false, both_ways}
use Rattle.std.proofs.lemmas.List.Folds.{list_any-append}
use Rattle.std.proofs.lemmas.Option.{none-some, same_Some}
use Rattle.std.specs.Cmp.Lexicographic.{pointwise, bytes_decides, nat_list_eq_equiv}
use Rattle.std.specs.Bool.{IsTrue}
use Rattle.std.specs.List.{list_any, fold, flat_map}
use Rattle.std.proofs.lemmas.List.{append-nil}
use Rattle.qs_syntax_ast.specs.declared.expression.Expression.{Expression}
use Rattle.qs_syntax_ast.specs.declared.term.Variable.{Variable}
use Rattle.qs_syntax_ast.specs.declared.pattern.Group.{Group, out-Group, fold_out-Group}
use Rattle.qs_syntax_ast.specs.declared.pattern.GraphPattern.{GraphPattern, fold-roll-GraphPattern}
use Rattle.qs_syntax_ast.specs.declared.pattern.GraphPattern.TheOpen as level
use Rattle.qs_syntax_ast.specs.declared.pattern.GraphPattern.TheVariants.{Bind, rolls-Bind}
use Rattle.qs_syntax_scope.specs.declared.met.Met.{Met}
use Rattle.qs_syntax_scope.specs.Names.{Name, contains, are_distinct, are_apart}
use Rattle.qs_syntax_scope.specs.inner.Met.{after, add_new, add_run}
use Rattle.qs_syntax_scope.proofs.Plain.{and_true, and_assoc, apart_kept, distinct_kept}
use Rattle.qs_syntax_scope.specs.Scope.{Scope, group_keeps, all_keep, pattern_scope, group_scope}
use Rattle.qs_syntax_scope.specs.inner.Scope.{scope_of_pattern}
use Rattle.qs_syntax_scope.specs.inner.Laws.{EachStandsOnce, EachStandsInOne, EachFits}

-- ---- what is among names

itself : (name : Name) (names : List Name) → contains (name ∷ names) name ≡ true
itself name names = or_left (pointwise nat_eq name name) (contains names name) (nat_list_eq_equiv.refl name)

later : (one : Name) (names : List Name) (name : Name) → contains names name ≡ true → contains (one ∷ names) name ≡ true
later one names name h = or_right (pointwise nat_eq one name) (contains names name) h

among_both : (before more : List Name) (name : Name) → contains (before ++ more) name ≡ false → (contains before name ≡ false) × (contains more name ≡ false)
among_both before more name h = or_parts (contains before name) (contains more name) (sym (list_any-append (λ one. pointwise nat_eq one name) before more) ∙ h)

among_neither : (before more : List Name) (name : Name) → contains before name ≡ false → contains more name ≡ false → contains (before ++ more) name ≡ false
among_neither before more name h g = list_any-append (λ one. pointwise nat_eq one name) before more ∙ or_from (contains before name) (contains more name) h g

-- none of a list is among those before it
none_of : (before run : List Name) (name : Name) → list_any (contains before) run ≡ false → contains run name ≡ true → contains before name ≡ false
none_of before [] name h m = absurd (true≢false (sym m))
none_of before (x ∷ xs) name h m =
    let apart = or_parts (contains before x) (list_any (contains before) xs) h in
    ⊎_elim
    (λ e. subst (λ n. contains before n ≡ false) ((bytes_decides x name).0 e) apart.0)
    (λ e. none_of before xs name apart.1 e)
    (or_cases (pointwise nat_eq x name) (contains xs name) m)

all_none : (before run : List Name) → ((name : Name) → contains run name ≡ true → contains before name ≡ false) → list_any (contains before) run ≡ false
all_none before [] h = refl
all_none before (x ∷ xs) h =
    or_from (contains before x) (list_any (contains before) xs) (h x (itself x xs)) (all_none before xs (λ name m. h name (later x xs name m)))

-- ---- runs

apart_after : List Name → List (List Name) → Bool
apart_after before [] = true
apart_after before (run ∷ runs) = not (list_any (contains before) run) && apart_after (before ++ run) runs

apart_is : (m : Met) (runs : List (List Name)) → (fold add_run m runs).keeps ≡ (m.keeps && apart_after m.names runs)
unfolding apart_after
apart_is m [] = and_true m.keeps
apart_is m (run ∷ runs) = apart_is (add_run m run) runs ∙ and_assoc m.keeps (not (list_any (contains m.names) run)) (apart_after (m.names ++ run) runs)

-- none of the runs has a name of those before
abbrev Fresh : List Name → List (List Name) → Type 0
Fresh before runs = (i : ℕ) (run : List Name) (name : Name) → slice_get runs i ≡ Some run → contains run name ≡ true → contains before name ≡ false

apart-to : (before : List Name) (runs : List (List Name)) → apart_after before runs ≡ true → Fresh before runs × EachStandsInOne runs
unfolding apart_after
apart-to before [] h = (λ i run name e m. absurd (none-some run e), λ i j one two name e f m n. absurd (none-some one e))
apart-to before (run ∷ runs) h =
    let parts = and_parts (not (list_any (contains before) run)) (apart_after (before ++ run) runs) h in
    let here : list_any (contains before) run ≡ false = not-true (list_any (contains before) run) parts.0 in
    let rest = apart-to (before ++ run) runs parts.1 in
    (fresh here rest.0, one_of rest.0 rest.1)
  where
    fresh : list_any (contains before) run ≡ false → Fresh (before ++ run) runs → Fresh before (run ∷ runs)
    fresh here after zero r name e m = none_of before run name here (subst (λ l. contains l name ≡ true) (sym (same_Some run r e)) m)
    fresh here after (suc i) r name e m = (among_both before run name (after i r name e m)).0

    clash : Fresh (before ++ run) runs → (i : ℕ) (one two : List Name) (name : Name) → run ≡ one → slice_get runs i ≡ Some two → contains one name ≡ true → contains two name ≡ true → ⊥
    clash after i one two name e f m n = both_ways (contains run name) (among_both before run name (after i two name f n)).1 (subst (λ l. contains l name ≡ true) (sym e) m)

    one_of : Fresh (before ++ run) runs → EachStandsInOne runs → EachStandsInOne (run ∷ runs)
    one_of after rest zero zero one two name e f m n = refl
    one_of after rest zero (suc j) one two name e f m n = absurd (clash after j one two name (same_Some run one e) f m n)
    one_of after rest (suc i) zero one two name e f m n = absurd (clash after i two one name (same_Some run two f) e n m)
    one_of after rest (suc i) (suc j) one two name e f m n = ap suc (rest i j one two name e f m n)

apart-from : (before : List Name) (runs : List (List Name)) → Fresh before runs → EachStandsInOne runs → apart_after before runs ≡ true
unfolding apart_after
apart-from before [] fresh one = refl
apart-from before (run ∷ runs) fresh one =
    and_from (not (list_any (contains before) run)) (apart_after (before ++ run) runs)
    (not_from_false (list_any (contains before) run) (all_none before run (λ name m. fresh 0 run name refl m)))
    (apart-from (before ++ run) runs (λ i r name e m. among_neither before run name (fresh (suc i) r name e m) (elsewhere i r name e m (contains run name) refl)) (λ i j a b name e f m n. suc_same i j (one (suc i) (suc j) a b name e f m n)))
  where
    suc_same : (i j : ℕ) → suc i ≡ suc j → i ≡ j
    suc_same i j e = cc

    elsewhere : (i : ℕ) (r : List Name) (name : Name) → slice_get runs i ≡ Some r → contains r name ≡ true → (b : Bool) → contains run name ≡ b → contains run name ≡ false
    elsewhere i r name e m true h = let clash : zero ≡ suc i = one 0 (suc i) run r name refl e h m in cc
    elsewhere i r name e m false h = h

pub apart : (runs : List (List Name)) → IsTrue (are_apart runs) ↔ EachStandsInOne runs
apart runs = (
  λ h. (apart-to [] runs (sym (apart_is (after []) runs) ∙ apart_kept runs ∙ h)).1,
  λ h. sym (apart_kept runs) ∙ apart_is (after []) runs ∙ apart-from [] runs (λ i run name e m. refl) h,
)

-- ---- names

distinct_after : List Name → List Name → Bool
distinct_after before [] = true
distinct_after before (name ∷ names) = not (contains before name) && distinct_after (before ++ name ∷ []) names

distinct_is : (m : Met) (names : List Name) → (fold add_new m names).keeps ≡ (m.keeps && distinct_after m.names names)
unfolding distinct_after
distinct_is m [] = and_true m.keeps
distinct_is m (name ∷ names) = distinct_is (add_new m name) names ∙ and_assoc m.keeps (not (contains m.names name)) (distinct_after (m.names ++ name ∷ []) names)

-- none of the names is among those before
abbrev New : List Name → List Name → Type 0
New before names = (i : ℕ) (name : Name) → slice_get names i ≡ Some name → contains before name ≡ false

distinct-to : (before names : List Name) → distinct_after before names ≡ true → New before names × EachStandsOnce names
unfolding distinct_after
distinct-to before [] h = (λ i name e. absurd (none-some name e), λ i j name e f. absurd (none-some name e))
distinct-to before (first ∷ names) h =
    let parts = and_parts (not (contains before first)) (distinct_after (before ++ first ∷ []) names) h in
    let here : contains before first ≡ false = not-true (contains before first) parts.0 in
    let rest = distinct-to (before ++ first ∷ []) names parts.1 in
    (new here rest.0, once rest.0 rest.1)
  where
    new : contains before first ≡ false → New (before ++ first ∷ []) names → New before (first ∷ names)
    new here after zero name e = subst (λ n. contains before n ≡ false) (same_Some first name e) here
    new here after (suc i) name e = (among_both before (first ∷ []) name (after i name e)).0

    clash : New (before ++ first ∷ []) names → (i : ℕ) (name : Name) → first ≡ name → slice_get names i ≡ Some name → ⊥
    clash after i name e f = both_ways (contains (first ∷ []) name) (among_both before (first ∷ []) name (after i name f)).1 (subst (λ n. contains (first ∷ []) n ≡ true) e (itself first []))

    once : New (before ++ first ∷ []) names → EachStandsOnce names → EachStandsOnce (first ∷ names)
    once after rest zero zero name e f = refl
    once after rest zero (suc j) name e f = absurd (clash after j name (same_Some first name e) f)
    once after rest (suc i) zero name e f = absurd (clash after i name (same_Some first name f) e)
    once after rest (suc i) (suc j) name e f = ap suc (rest i j name e f)

distinct-from : (before names : List Name) → New before names → EachStandsOnce names → distinct_after before names ≡ true
unfolding distinct_after
distinct-from before [] new once = refl
distinct-from before (first ∷ names) new once =
    and_from (not (contains before first)) (distinct_after (before ++ first ∷ []) names)
    (not_from_false (contains before first) (new 0 first refl))
    (distinct-from (before ++ first ∷ []) names (λ i name e. among_neither before (first ∷ []) name (new (suc i) name e) (elsewhere i name e (contains (first ∷ []) name) refl)) (λ i j name e f. suc_same i j (once (suc i) (suc j) name e f)))
  where
    suc_same : (i j : ℕ) → suc i ≡ suc j → i ≡ j
    suc_same i j e = cc

    is_first : (name : Name) → contains (first ∷ []) name ≡ true → first ≡ name
    is_first name h = ⊎_elim (λ e. (bytes_decides first name).0 e) (λ e. absurd (true≢false (sym e))) (or_cases (pointwise nat_eq first name) false h)

    elsewhere : (i : ℕ) (name : Name) → slice_get names i ≡ Some name → (b : Bool) → contains (first ∷ []) name ≡ b → contains (first ∷ []) name ≡ false
    elsewhere i name e true h = let clash : zero ≡ suc i = once 0 (suc i) name (ap Some (is_first name h)) e in cc
    elsewhere i name e false h = h

pub distinct : (names : List Name) → IsTrue (are_distinct names) ↔ EachStandsOnce names
distinct names = (
  λ h. (distinct-to [] names (sym (distinct_is (after []) names) ∙ distinct_kept names ∙ h)).1,
  λ h. sym (distinct_kept names) ∙ distinct_is (after []) names ∙ distinct-from [] names (λ i name e. refl) h,
)

-- ---- patterns of a group

abbrev names_of_all : List GraphPattern → List Name
names_of_all patterns = flat_map (λ p. (scope_of_pattern p).names) patterns

-- each pattern keeps the rules after these names and the patterns before it
abbrev KeepsBehind : List Name → List GraphPattern → Type 0
KeepsBehind before patterns = (i : ℕ) (p : GraphPattern) → slice_get patterns i ≡ Some p → (scope_of_pattern p).keeps (before ++ names_of_all (take i patterns)) ≡ true

fits-to : (before : List Name) (patterns : List GraphPattern) → all_keep before (map scope_of_pattern patterns) ≡ true → KeepsBehind before patterns
fits-to before [] h i p e = absurd (none-some p e)
fits-to before (first ∷ patterns) h zero p e =
    let here = and_parts ((scope_of_pattern first).keeps before) (all_keep (before ++ (scope_of_pattern first).names) (map scope_of_pattern patterns)) h in
    ap (scope_of_pattern p).keeps (append-nil before) ∙ subst (λ q. (scope_of_pattern q).keeps before ≡ true) (same_Some first p e) here.0
fits-to before (first ∷ patterns) h (suc i) p e =
    let here = and_parts ((scope_of_pattern first).keeps before) (all_keep (before ++ (scope_of_pattern first).names) (map scope_of_pattern patterns)) h in
    ap (scope_of_pattern p).keeps (sym (append_assoc before (scope_of_pattern first).names (names_of_all (take i patterns))))
    ∙ fits-to (before ++ (scope_of_pattern first).names) patterns here.1 i p e

fits-from : (before : List Name) (patterns : List GraphPattern) → KeepsBehind before patterns → all_keep before (map scope_of_pattern patterns) ≡ true
fits-from before [] each = refl
fits-from before (first ∷ patterns) each =
    and_from ((scope_of_pattern first).keeps before) (all_keep (before ++ (scope_of_pattern first).names) (map scope_of_pattern patterns))
    (ap (scope_of_pattern first).keeps (sym (append-nil before)) ∙ each 0 first refl)
    (fits-from (before ++ (scope_of_pattern first).names) patterns
    (λ i p e. ap (scope_of_pattern p).keeps (append_assoc before (scope_of_pattern first).names (names_of_all (take i patterns))) ∙ each (suc i) p e))

pub fit : (patterns : List GraphPattern) → IsTrue (all_keep [] (map scope_of_pattern patterns)) ↔ EachFits patterns
fit patterns = (λ h. fits-to [] patterns h, λ h. fits-from [] patterns h)

pub of_group : (group : Group) → group_keeps group ≡ all_keep [] (map scope_of_pattern (out-Group group).patterns)
of_group group = ap (λ (s : Scope). s.keeps []) (fold_out-Group Scope Scope pattern_scope group_scope group)

pub bind_fits : (before : List Name) (value : Expression) (variable : Variable) → IsTrue ((scope_of_pattern (Bind value variable)).keeps before) ↔ (contains before variable.name ≡ false)
bind_fits before value variable =
    let is : (scope_of_pattern (Bind value variable)).keeps before ≡ not (contains before variable.name) =
    ap (λ p. (scope_of_pattern p).keeps before) (sym (rolls-Bind value variable)) ∙ ap (λ (s : Scope). s.keeps before) (fold-roll-GraphPattern Scope Scope pattern_scope group_scope (level.Bind value variable)) in
    (λ h. not-true (contains before variable.name) (sym is ∙ h), λ h. is ∙ not_from_false (contains before variable.name) h)
