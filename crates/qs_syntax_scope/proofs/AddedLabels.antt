-- A run of labels, one label after another.
use Rattle.std.proofs.Common.{◌≡◌, ℕ, ◌≤◌, Bool, true, false, ◌&&◌, ◌||◌, not, List, [], ◌∷◌, ◌++◌, length, take, refl, sym, ap, ◌∙◌, arith, length-append, append_assoc}
use Rattle.std.proofs.lemmas.List.{take-append-le, append-nil}
use Rattle.std.specs.List.{list_any, fold}
use Rattle.qs_syntax_scope.specs.Names.{Name, contains}
use Rattle.qs_syntax_scope.specs.inner.Met.{add_run, add_label}
use Rattle.qs_syntax_scope.specs.declared.met.Met.{Met}

and_true : (k : Bool) → k ≡ (k && true)
and_true true = refl
and_true false = refl

and_neither : (k c a : Bool) → ((k && not c) && not a) ≡ (k && not (c || a))
and_neither true true a = refl
and_neither true false a = refl
and_neither false c a = refl

met : {n m : List Name} {k l : Bool} → n ≡ m → k ≡ l → (let r : Met = record { names = n; keeps = k } in r) ≡ record { names = m; keeps = l }
met e f = λ i. record { names = e i; keeps = f i }

-- what stood before the run stays
labels_from : (start : ℕ) (before : List Name) (m : Met) (labels : List Name) → start ≤ length m.names → take start m.names ≡ before →
    fold (add_label start) m labels ≡ record { names = m.names ++ labels; keeps = m.keeps && not (list_any (contains before) labels) }
labels_from start before m [] h e = met (sym (append-nil m.names)) (and_true m.keeps)
labels_from start before m (x ∷ xs) h e =
    let longer : start ≤ length (m.names ++ x ∷ []) = omega (arith, length-append m.names (x ∷ [])) in
    let front : take start (m.names ++ x ∷ []) ≡ before = take-append-le start m.names (x ∷ []) h ∙ e in
    labels_from start before (add_label start m x) xs longer front
    ∙ met (append_assoc m.names (x ∷ []) xs) (ap (λ b. (m.keeps && not (contains b x)) && not (list_any (contains before) xs)) e ∙ and_neither m.keeps (contains before x) (list_any (contains before) xs))

take_all : (xs : List Name) → take (length xs) xs ≡ xs
take_all [] = refl
take_all (x ∷ xs) = ap (λ ys. x ∷ ys) (take_all xs)

-- the labels of a run, one after another, are the run
pub labels_are_run : (m : Met) (labels : List Name) → fold (add_label (length m.names)) m labels ≡ add_run m labels
labels_are_run m labels = labels_from (length m.names) m.names m labels (omega arith) (take_all m.names)
