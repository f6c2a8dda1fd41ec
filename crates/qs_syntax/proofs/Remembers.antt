-- Reading by itself wants no memory.
use Rattle.std.proofs.Common.{◌≡◌, ℕ, zero, suc, Bool, true, false, cond, List, [], ◌∷◌, length, Ok, Err}
use Rattle.qs_syntax_grammar.specs.declared.fault.Fault.TheVariants.{Memory, Deep, Syntax}
use Rattle.qs_syntax_grammar.specs.inner.Grammar.{Guided, read_at, read, whole}
use Rattle.qs_syntax_grammar.specs.inner.Reading.{Outcome, Reader, and_then, has, starts, first, loop, reading}
use Rattle.qs_syntax_grammar.specs.Rule.{Language, Rule, token, empty, both, either, many, made, placed, ref}

abbrev Remembers : {T A : Type 0} → Outcome T A → Type 0
Remembers (Ok p) = Unit {0}
Remembers (Err (Syntax n)) = Unit {0}
Remembers (Err Deep) = Unit {0}
Remembers (Err Memory) = ⊥

behind : {T A B : Type 0} (o : Outcome T A) (f : A → List T → Outcome T B) → Remembers o → ((x : A) (s : List T) → Remembers (f x s)) → Remembers (and_then o f)
behind (Ok p) f h k = k p.0 p.1
behind (Err (Syntax n)) f h k = tt
behind (Err Deep) f h k = tt
behind (Err Memory) f h k = h

chosen : {T A : Type 0} (b : Bool) (o o' : Outcome T A) → Remembers o → Remembers o' → Remembers (cond b o o')
chosen true o o' h k = h
chosen false o o' h k = k

module _ (L : Language) where
  looped : {A : Type 0} (ks : List L.Kind) (p : Reader L.Token A) → ((ts : List L.Token) → Remembers (p ts)) → (n : ℕ) (ts : List L.Token) → Remembers (loop L n ks p ts)
  looped ks p h zero ts = tt
  looped ks p h (suc n) ts = chosen (starts L ks ts) _ _ (behind (p ts) _ (h ts) (λ x s. behind (loop L n ks p s) _ (looped ks p h n s) (λ xs s'. tt))) tt

  module _ (fs : L.Name → List L.Kind) (env : (n : L.Name) → Reader L.Token (L.Tree n)) (named : (n : L.Name) (ts : List L.Token) → Remembers (env n ts)) where
    remembers : {A : Type 0} (r : Rule L A) (ts : List L.Token) → Remembers (reading fs env r ts)
    remembers (token k) [] = tt
    remembers (token k) (t ∷ ts) = chosen (has L (k ∷ []) (L.kind t)) _ _ tt tt
    remembers (empty a) ts = tt
    remembers (both p q) ts = behind (reading fs env p ts) _ (remembers p ts) (λ x s. behind (reading fs env q s) _ (remembers q s) (λ y s'. tt))
    remembers (either p q) ts = chosen (starts L (first fs p) ts) _ _ (remembers p ts) (remembers q ts)
    remembers (many p) ts = looped (first fs p) (reading fs env p) (remembers p) (suc (length ts)) ts
    remembers (made f p) ts = behind (reading fs env p ts) _ (remembers p ts) (λ x s. tt)
    remembers (placed p) ts = behind (reading fs env p ts) _ (remembers p ts) (λ x s. tt)
    remembers (ref n) ts = named n ts

  module _ (G : Guided L) where
    named : (d : ℕ) (n : L.Name) (ts : List L.Token) → Remembers (read_at G d n ts)
    named zero n ts = tt
    named (suc d) n ts = remembers G.firsts (read_at G d) (named d) (G.rule n) ts

    wanted : {A : Type 0} (o : Outcome L.Token A) → Remembers o → whole o ≡ Err Memory → ⊥
    wanted (Ok (x, [])) h e = cc
    wanted (Ok (x, t ∷ ts)) h e = cc
    wanted (Err (Syntax n)) h e = cc
    wanted (Err Deep) h e = cc
    wanted (Err Memory) h e = h

    pub wants_none : {A : Type 0} (start : Rule L A) (d : ℕ) (ts : List L.Token) → whole (read G d start ts) ≡ Err Memory → ⊥
    wants_none start d ts e = wanted (read G d start ts) (remembers G.firsts (read_at G d) (named d) start ts) e
