-- Triples = Same ("." Triples?)?, read turn by turn.
use Rattle.std.proofs.Common.{◌≡◌, ◌<◌, ◌-◌, ℕ, suc, true, false, List, [], ◌∷◌, ◌++◌, Ok, Err, refl, sym, ◌∙◌, ap, append_assoc, arith}
use Rattle.qs_syntax_grammar.specs.declared.fault.Fault.{Fault}
use Rattle.qs_syntax_grammar.specs.inner.Reading.{Outcome, and_then, starts, take_kind}
use Rattle.qs_syntax_grammar.specs.inner.Grammar.{read, read_at}
use Rattle.qs_syntax_tree.specs.declared.kind.Kind.TheVariants as k
use Rattle.qs_syntax_tree.specs.declared.token.Token.{Token}
use Rattle.qs_syntax_tree.specs.declared.triples.Form.{Form}
use Rattle.qs_syntax_tree.specs.declared.triples.TriplesSameSubject.{TriplesSameSubject}
use Rattle.qs_syntax_tree.specs.Sparql.{sparql, triples}
use Rattle.qs_syntax_tree.specs.inner.Procedures.{triples_rule, same_subject}
use Rattle.qs_syntax_tree.specs.inner.Table.{guided, rule, firsts}

again : (o : Outcome Token (List TriplesSameSubject)) (found : List TriplesSameSubject) (x : TriplesSameSubject) (t : Token)
    → and_then (and_then {A = TriplesSameSubject × List TriplesSameSubject} (and_then (and_then {A = Token × List TriplesSameSubject} (and_then o (λ y s. Ok ((t, y), s))) (λ z s. Ok (z.1, s))) (λ y s. Ok ((x, y), s))) (λ z s. Ok (z.0 ∷ z.1, s))) (λ xs s. Ok (found ++ xs, s))
    ≡ and_then o (λ xs s. Ok ((found ++ x ∷ []) ++ xs, s))
again (Ok p) found x t = ap (λ xs. Ok (xs, p.1)) (sym (append_assoc found (x ∷ []) p.0))
again (Err e) found x t = refl

module _ (form : Form) (whole : Outcome Token (List TriplesSameSubject)) (n d : ℕ) (found : List TriplesSameSubject) (ts : List Token) (some : 0 < n) (down : d ≡ n - 1)
    (so_far : whole ≡ and_then (read_at guided n (triples form) ts) (λ xs s. Ok (found ++ xs, s))) where
  opened : whole ≡ and_then (read_at guided (suc d) (triples form) ts) (λ xs s. Ok (found ++ xs, s))
  opened = so_far ∙ ap (λ m. and_then (read_at guided m (triples form) ts) (λ xs s. Ok (found ++ xs, s))) (let e : n ≡ suc d = omega arith in e)

  pub fault : (e : Fault) → read guided d (same_subject form) ts ≡ Err e → whole ≡ Err e
  unfolding rule triples_rule
  fault e h = opened ∙ rw h refl

  module _ (x : TriplesSameSubject) (s : List Token) (read_one : read guided d (same_subject form) ts ≡ Ok (x, s)) where
    pub no_dot : starts sparql (k.Dot ∷ []) s ≡ false → whole ≡ Ok (found ++ x ∷ [], s)
    unfolding rule triples_rule
    no_dot b = opened ∙ rw (read_one, b) refl

    module _ (t : Token) (i : List Token) (b : starts sparql (k.Dot ∷ []) s ≡ true) (taken : take_kind sparql k.Dot s ≡ Ok (t, i)) where
      pub last_dot : starts sparql (firsts (triples form)) i ≡ false → whole ≡ Ok (found ++ x ∷ [], i)
      unfolding rule triples_rule
      last_dot c = opened ∙ rw (read_one, taken, b, c) refl

      pub goes_on : starts sparql (firsts (triples form)) i ≡ true → (now : List TriplesSameSubject) → now ≡ found ++ x ∷ [] → whole ≡ and_then (read_at guided d (triples form) i) (λ xs j. Ok (now ++ xs, j))
      unfolding rule triples_rule
      goes_on c now e = opened ∙ rw (read_one, taken, b, c, e) (again (read_at guided d (triples form) i) found x t)
