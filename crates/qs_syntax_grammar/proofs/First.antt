-- The place of a fault is the first that is due.
use Rattle.std.proofs.Common.{◌≡◌, ◌-◌, ℕ, zero, suc, true, List, [], ◌∷◌, length, take, Ok, Err, ◌∙◌, ap, append-nil, arith, length-append}
use Rattle.std.proofs.lemmas.List.{take_at}
use Rattle.qs_syntax_grammar.specs.declared.fault.Fault.TheVariants.{Memory, Deep, Syntax}
use Rattle.qs_syntax_grammar.specs.Rule.{Language, Rule, Spelt}
use Rattle.qs_syntax_grammar.specs.inner.Reading.{Outcome}
use Rattle.qs_syntax_grammar.specs.Grammar.{spelt_at, IsViable}
use Rattle.qs_syntax_grammar.specs.inner.Grammar.{Guided, read_at, read, whole, passes, is_start}
use Rattle.qs_syntax_grammar.proofs.Laws.{Lawful}
use Rattle.qs_syntax_grammar.proofs.Outcomes.{IfRead}
use Rattle.qs_syntax_grammar.proofs.Sound.{Takes, sound}
use Rattle.qs_syntax_grammar.proofs.Viable.{IfFault, Leads, Example, leads, example}
use Rattle.qs_syntax_grammar.proofs.Knot.{start_sure, sure_named, starts_named}

-- a depth at which each named rule has an example
up : ℕ → ℕ → ℕ
up height zero = height
up height (suc d) = suc (up height d)

module _ (L : Language) (laws : Lawful L) (G : Guided L) (pass : (n : L.Name) → passes G n ≡ true)
    (height : ℕ) (known : (n : L.Name) → Example (spelt_at G.rule height n)) where
  examples : (d : ℕ) (n : L.Name) → Example (spelt_at G.rule (up height d) n)
  unfolding up
  examples zero n = known n
  examples (suc d) n = example L laws G.firsts G.mores (read_at G d) (spelt_at G.rule (up height d)) (examples d) (G.rule n)

  found_up : (d : ℕ) (n : L.Name) (ts : List L.Token) → IfRead (read_at G d n ts) (λ x rest. Takes (spelt_at G.rule (up height d) n) ts x rest)
  unfolding up
  found_up zero n ts = tt
  found_up (suc d) n ts = sound L laws G.firsts G.mores (read_at G d) (spelt_at G.rule (up height d)) (starts_named L laws G pass (up height d)) (found_up d) (G.rule n) (sure_named L laws G pass n) ts

  leads_up : (d : ℕ) (n : L.Name) (ts : List L.Token) → IfFault (read_at G d n ts) (λ m. Leads (spelt_at G.rule (up height d) n) ts m)
  unfolding up
  leads_up zero n ts = tt
  leads_up (suc d) n ts = leads L laws G.firsts G.mores (read_at G d) (spelt_at G.rule (up height d)) (examples d) (starts_named L laws G pass (up height d)) (found_up d) (leads_up d) (G.rule n) (sure_named L laws G pass n) ts

  module _ {A : Type 0} (start : Rule L A) (begin : is_start G start ≡ true) where
    -- a fault, or tokens left over, come after what begins a text
    before : (d : ℕ) (ts : List L.Token) (o : Outcome L.Token A) (n : ℕ) → whole o ≡ Err (Syntax n)
        → IfRead o (λ x rest. Takes (Spelt (spelt_at G.rule (up height d)) start) ts x rest) → IfFault o (λ m. Leads (Spelt (spelt_at G.rule (up height d)) start) ts m) → Leads (Spelt (spelt_at G.rule (up height d)) start) ts n
    before d ts (Ok (x, [])) n e a b = cc
    before d ts (Ok (x, t ∷ rest)) n e a b =
        record { part = a.part; rest = t ∷ rest; is = a.is; size = cc; others = []; tree = x; spelt = rw (append-nil a.part) a.spelt }
    before d ts (Err (Syntax m)) n e a b = let i : m ≡ n = cc in rw (← i) b
    before d ts (Err Deep) n e a b = cc
    before d ts (Err Memory) n e a b = cc

    pub is_viable : (d : ℕ) (ts : List L.Token) (left place : ℕ) → whole (read G d start ts) ≡ Err (Syntax left) → place ≡ length ts - left → IsViable G.rule start (take place ts)
    is_viable d ts left place e p =
        let sure = start_sure G start begin in
        let starting = starts_named L laws G pass (up height d) in
        let a = before d ts (read G d start ts) left e (sound L laws G.firsts G.mores (read_at G d) (spelt_at G.rule (up height d)) starting (found_up d) start sure ts)
        (leads L laws G.firsts G.mores (read_at G d) (spelt_at G.rule (up height d)) (examples d) starting (found_up d) (leads_up d) start sure ts) in
        let long : length a.part ≡ place = omega (arith, length-append a.part a.rest, ap length a.is, a.size) in
        let front : take place ts ≡ a.part = ap (take place) a.is ∙ take_at a.part a.rest place long in
        rw front (a.others, a.tree, (up height d, a.spelt))
