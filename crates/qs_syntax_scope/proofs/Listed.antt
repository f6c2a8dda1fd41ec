-- Each first variable stands once.
use Rattle.std.proofs.Common.{◌≡◌, subst, Bool, true, false, not, if◌then◌else◌, List, [], ◌∷◌, ◌++◌, sym, ap, ◌∙◌, refl, append_assoc}
use Rattle.std.proofs.lemmas.Bool.{and_from, not_from_false}
use Rattle.std.proofs.lemmas.List.{append-nil}
use Rattle.std.proofs.lemmas.List.Sums.{fold-append}
use Rattle.std.specs.Bool.{IsTrue}
use Rattle.std.specs.List.{fold}
use Rattle.qs_syntax_ast.specs.declared.term.Variable.{Variable}
use Rattle.qs_syntax_scope.proofs.FirstsKept.{firsts_are, names_with}
use Rattle.qs_syntax_scope.proofs.Plain.{distinct_kept}
use Rattle.qs_syntax_scope.proofs.Reading.{distinct}
use Rattle.qs_syntax_scope.specs.declared.met.Met.{Met}
use Rattle.qs_syntax_scope.specs.Firsts.{names_of, firsts}
use Rattle.qs_syntax_scope.specs.inner.Firsts.{add_first, firsts_of}
use Rattle.qs_syntax_scope.specs.inner.Laws.{EachStandsOnce}
use Rattle.qs_syntax_scope.specs.inner.Met.{after, add_new}
use Rattle.qs_syntax_scope.specs.Names.{Name, contains}

met_names : (m : Met) (names : List Name) → (fold add_new m names).names ≡ m.names ++ names
met_names m [] = sym (append-nil m.names)
met_names m (x ∷ xs) = met_names (add_new m x) xs ∙ append_assoc m.names (x ∷ []) xs

-- they stood once, one after another
abbrev stand : List Name → Bool
stand names = (fold add_new (after []) names).keeps

distinct_with : (names : List Name) (name : Name) → IsTrue (stand names) → contains names name ≡ false → IsTrue (stand (names ++ name ∷ []))
distinct_with names name once new =
    ap (λ (m : Met). m.keeps) (fold-append add_new (after []) names (name ∷ []))
    ∙ and_from (stand names) (not (contains (fold add_new (after []) names).names name)) once
    (not_from_false (contains (fold add_new (after []) names).names name) (ap (λ all. contains all name) (met_names (after []) names) ∙ new))

add_once : (found : List Variable) (v : Variable) → IsTrue (stand (names_of found)) → IsTrue (stand (names_of (add_first found v)))
unfolding add_first
add_once found v once = by (contains (names_of found) v.name) refl
  where
    by : (b : Bool) → contains (names_of found) v.name ≡ b → IsTrue (stand (names_of (if b then found else found ++ v ∷ [])))
    by true e = once
    by false e = ap stand (names_with found v) ∙ distinct_with (names_of found) v.name once e

all_once : (found variables : List Variable) → IsTrue (stand (names_of found)) → IsTrue (stand (names_of (fold add_first found variables)))
all_once found [] once = once
all_once found (v ∷ vs) once = all_once (add_first found v) vs (add_once found v once)

pub stand_once : (variables : List Variable) → EachStandsOnce (names_of (firsts variables))
stand_once variables =
    subst (λ (l : List Variable). EachStandsOnce (names_of l)) (firsts_are variables)
    ((distinct (names_of (firsts_of variables))).0 (sym (distinct_kept (names_of (firsts_of variables))) ∙ all_once [] variables refl))
