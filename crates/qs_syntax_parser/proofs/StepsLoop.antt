-- Op (";" Update)?, read turn by turn.
use Rattle.std.proofs.Common.{◌≡◌, ◌-◌, ℕ, zero, suc, true, false, List, [], ◌∷◌, ◌++◌, Option, Some, None, Ok, Err, refl, sym, ◌∙◌, ap, append_assoc, arith}
use Rattle.qs_syntax_grammar.specs.declared.fault.Fault.{Fault}
use Rattle.qs_syntax_grammar.specs.declared.fault.Fault.TheVariants.{Deep}
use Rattle.qs_syntax_grammar.specs.inner.Reading.{Outcome, and_then, starts, take_kind}
use Rattle.qs_syntax_grammar.specs.inner.Grammar.{read, read_at}
use Rattle.qs_syntax_tree.specs.declared.kind.Kind.TheVariants as k
use Rattle.qs_syntax_tree.specs.declared.token.Token.{Token}
use Rattle.qs_syntax_tree.specs.declared.query.PrefixDeclaration.{PrefixDeclaration}
use Rattle.qs_syntax_tree.specs.declared.update.Operation.{Operation}
use Rattle.qs_syntax_tree.specs.declared.update.UpdateStep.{UpdateStep}
use Rattle.qs_syntax_tree.specs.Sparql.{sparql, operations}
use Rattle.qs_syntax_tree.specs.inner.Procedures.{operations_rule, operation, prologue}
use Rattle.qs_syntax_tree.specs.inner.Table.{guided, rule, firsts}
use Rattle.qs_syntax_tree.specs.Trees.{steps_of}

abbrev pub step : List PrefixDeclaration → Option Operation → UpdateStep
step p o = record { prologue = p; operation = o }

again : (r : Outcome Token (Operation × List UpdateStep)) (found : List UpdateStep) (p q : List PrefixDeclaration) (o : Operation) (t : Token)
    → and_then (and_then {A = List UpdateStep} (and_then {A = Token × List UpdateStep} (and_then {A = List UpdateStep} (and_then {A = List PrefixDeclaration × Option (Operation × List UpdateStep)} (and_then {A = Option (Operation × List UpdateStep)} (and_then r (λ x s. Ok (Some x, s))) (λ y s. Ok ((q, y), s))) (λ z s. Ok (steps_of z, s))) (λ y s. Ok ((t, y), s))) (λ z s. Ok (z.1, s))) (λ y s. Ok ((o, y), s))) (λ x s. Ok (found ++ steps_of (p, Some x), s))
    ≡ and_then r (λ x s. Ok ((found ++ step p (Some o) ∷ []) ++ steps_of (q, Some x), s))
again (Ok x) found p q o t = ap (λ xs. Ok (xs, x.1)) (sym (append_assoc found (step p (Some o) ∷ []) (steps_of (q, Some x.0))))
again (Err e) found p q o t = refl

module _ (whole : Outcome Token (List UpdateStep)) (d : ℕ) (found : List UpdateStep) (p : List PrefixDeclaration) (ts : List Token)
    (so_far : whole ≡ and_then (read guided d operations_rule ts) (λ x s. Ok (found ++ steps_of (p, Some x), s))) where
  pub no_operation : (e : Fault) → read guided d operation ts ≡ Err e → whole ≡ Err e
  unfolding operations_rule
  no_operation e h = so_far ∙ rw h refl

  module _ (o : Operation) (s : List Token) (read_one : read guided d operation ts ≡ Ok (o, s)) where
    pub no_more : starts sparql (k.Semicolon ∷ []) s ≡ false → whole ≡ Ok (found ++ step p (Some o) ∷ [], s)
    unfolding operations_rule
    no_more b = so_far ∙ rw (read_one, b) refl

    module _ (t : Token) (i : List Token) (b : starts sparql (k.Semicolon ∷ []) s ≡ true) (taken : take_kind sparql k.Semicolon s ≡ Ok (t, i)) where
      pub no_prologue : (e : Fault) → read guided d prologue i ≡ Err e → whole ≡ Err e
      unfolding operations_rule
      no_prologue e h = so_far ∙ rw (read_one, taken, b, h) refl

      module _ (q : List PrefixDeclaration) (j : List Token) (declared : read guided d prologue i ≡ Ok (q, j)) where
        pub last : starts sparql (firsts operations) j ≡ false → (now : List UpdateStep) → now ≡ found ++ step p (Some o) ∷ [] → whole ≡ Ok (now ++ step q None ∷ [], j)
        unfolding operations_rule
        last c now e = so_far ∙ rw (read_one, taken, b, declared, c, e) (ap (λ xs. Ok (xs, j)) (sym (append_assoc found (step p (Some o) ∷ []) (step q None ∷ []))))

        at_none : (n : ℕ) → n ≡ 0 → read_at guided n operations j ≡ Err Deep
        at_none zero e = refl
        at_none (suc n) e = absurd (omega arith)

        pub deep : d ≡ 0 → starts sparql (firsts operations) j ≡ true → whole ≡ Err Deep
        unfolding operations_rule
        deep none c = so_far ∙ rw (read_one, taken, b, declared, c, at_none d none) refl

        at_less : (n m : ℕ) → (n ≡ 0 → ⊥) → m ≡ n - 1 → read_at guided n operations j ≡ read guided m operations_rule j
        unfolding rule operations_rule
        at_less zero m some less = absurd (some refl)
        at_less (suc n) m some less = let e : n ≡ m = omega (arith, less) in ap (λ i. read guided i operations_rule j) e

        turned : starts sparql (firsts operations) j ≡ true → (now : List UpdateStep) → now ≡ found ++ step p (Some o) ∷ []
            → and_then (read guided d operations_rule ts) (λ x s'. Ok (found ++ steps_of (p, Some x), s')) ≡ and_then (read_at guided d operations j) (λ x s'. Ok (now ++ steps_of (q, Some x), s'))
        unfolding operations_rule
        turned c now e = rw (read_one, taken, b, declared, c, e) (again (read_at guided d operations j) found p q o t)

        pub goes_on : starts sparql (firsts operations) j ≡ true → (m : ℕ) → (d ≡ 0 → ⊥) → m ≡ d - 1 → (now : List UpdateStep) → now ≡ found ++ step p (Some o) ∷ []
            → whole ≡ and_then (read guided m operations_rule j) (λ x s'. Ok (now ++ steps_of (q, Some x), s'))
        goes_on c m some less now e =
            so_far ∙ turned c now e ∙ ap (λ r. and_then r (λ x s'. Ok (now ++ steps_of (q, Some x), s'))) (at_less d m some less)
