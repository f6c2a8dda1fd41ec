-- The laws for named rules at each depth.
use Rattle.std.proofs.Common.{◌≡◌, ◌<◌, ◌≤◌, ℕ, zero, suc, true, false, not, ◌&&◌, List, ◌++◌, length, Ok, refl, inl, arith}
use Rattle.std.proofs.lemmas.Bool.{and_parts, not-true, both_ways}
use Rattle.qs_syntax_grammar.specs.Rule.{Language, Rule}
use Rattle.qs_syntax_grammar.specs.inner.Reading.{starts, first, nullable, more, within, is_sure, opens}
use Rattle.qs_syntax_grammar.specs.Grammar.{spelt_at}
use Rattle.qs_syntax_grammar.specs.inner.Grammar.{Guided, read_at, passes, is_start}
use Rattle.qs_syntax_grammar.proofs.Laws.{Lawful}
use Rattle.qs_syntax_grammar.proofs.Outcomes.{IfRead, Extends, IsShallow, LeavesAtMost}
use Rattle.qs_syntax_grammar.proofs.Sound.{Takes, sound}
use Rattle.qs_syntax_grammar.proofs.Begins.{begins, starts_at, starts-wider, within-at, stops_within}
use Rattle.qs_syntax_grammar.proofs.Complete.{complete}
use Rattle.qs_syntax_grammar.proofs.Deeper.{extends, leaves, shallow}
use Rattle.qs_syntax_grammar.proofs.Local.{Twin, Alike, alike}

pub start_sure : {L : Language} (G : Guided L) {A : Type 0} (r : Rule L A) → is_start G r ≡ true → is_sure G.firsts G.mores r ≡ true
start_sure G r e = let a = and_parts (is_sure G.firsts G.mores r) (not (opens r)) e in a.0

pub start_closed : {L : Language} (G : Guided L) {A : Type 0} (r : Rule L A) → is_start G r ≡ true → opens r ≡ false
start_closed G r e = let a = and_parts (is_sure G.firsts G.mores r) (not (opens r)) e in not-true (opens r) a.1

module _ (L : Language) (laws : Lawful L) (G : Guided L) (pass : (n : L.Name) → passes G n ≡ true) where
  parts : (n : L.Name) → (is_start G (G.rule n) ≡ true) × (not (nullable (G.rule n)) ≡ true)
      × (within L (first G.firsts (G.rule n)) (G.firsts n) ≡ true) × (within L (more G.firsts G.mores (G.rule n)) (G.mores n) ≡ true)
  parts n =
      let r = G.rule n in
      let a = and_parts (is_start G r && not (nullable r) && within L (first G.firsts r) (G.firsts n)) (within L (more G.firsts G.mores r) (G.mores n)) (pass n) in
      let b = and_parts (is_start G r && not (nullable r)) (within L (first G.firsts r) (G.firsts n)) a.0 in
      let c = and_parts (is_start G r) (not (nullable r)) b.0 in
      (c.0, c.1, b.1, a.1)

  pub sure_named : (n : L.Name) → is_sure G.firsts G.mores (G.rule n) ≡ true
  sure_named n = start_sure G (G.rule n) (parts n).0

  pub starts_named : (d : ℕ) (n : L.Name) (ts : List L.Token) (x : L.Tree n) → spelt_at G.rule d n ts x → starts L (G.firsts n) ts ≡ true
  starts_named zero n ts x h = absurd h
  starts_named (suc d) n ts x h =
      starts-wider L (first G.firsts (G.rule n)) (G.firsts n) ts (within-at L laws (first G.firsts (G.rule n)) (G.firsts n) (parts n).2)
      (starts_at L (first G.firsts (G.rule n)) (nullable (G.rule n)) ts (parts n).1 (begins L laws G.firsts G.mores (spelt_at G.rule d) (starts_named d) (G.rule n) (sure_named n) ts x h))

  pub done_named : (d : ℕ) (n : L.Name) (us : List L.Token) (x : L.Tree n) (rest : List L.Token) → spelt_at G.rule d n us x → starts L (G.mores n) rest ≡ false → read_at G d n (us ++ rest) ≡ Ok (x, rest)
  done_named zero n us x rest h stop = absurd h
  done_named (suc d) n us x rest h stop =
      complete L laws G.firsts G.mores (read_at G d) (spelt_at G.rule d) (starts_named d) (done_named d) (G.rule n) (sure_named n) us x rest h
      (stops_within L laws (more G.firsts G.mores (G.rule n)) (G.mores n) (parts n).3 rest stop)

  pub found_named : (d : ℕ) (n : L.Name) (ts : List L.Token) → IfRead (read_at G d n ts) (λ x rest. Takes (spelt_at G.rule d n) ts x rest)
  found_named zero n ts = tt
  found_named (suc d) n ts = sound L laws G.firsts G.mores (read_at G d) (spelt_at G.rule d) (starts_named d) (found_named d) (G.rule n) (sure_named n) ts

  pub extends_named : (d e : ℕ) → d ≤ e → (n : L.Name) (ts : List L.Token) → Extends (read_at G d n ts) (read_at G e n ts)
  extends_named zero e l n ts = inl refl
  extends_named (suc d) zero l n ts = absurd (omega arith)
  extends_named (suc d) (suc e) l n ts = extends L laws G.firsts (read_at G d) (read_at G e) (extends_named d e (omega arith)) (G.rule n) ts

  pub leaves_named : (d : ℕ) (n : L.Name) (ts : List L.Token) → LeavesAtMost (length ts) (read_at G d n ts)
  leaves_named zero n ts = tt
  leaves_named (suc d) n ts = leaves L laws G.firsts (read_at G d) (leaves_named d) (G.rule n) ts

  pub shallow_named : (d : ℕ) (n : L.Name) (ts : List L.Token) → length ts < d → IsShallow (read_at G d n ts)
  shallow_named zero n ts l = omega arith
  shallow_named (suc d) n ts l =
      shallow L laws G.firsts G.mores (read_at G d) (spelt_at G.rule d) (starts_named d) (found_named d) d (shallow_named d) (G.rule n) (sure_named n) ts
      (omega arith) (λ o. absurd (both_ways (opens (G.rule n)) (start_closed G (G.rule n) (parts n).0) o))

  pub alike_named : (t : L.Token) (w v : List L.Token) (d : ℕ) (n : L.Name) (ts ts' : List L.Token) → Twin t w v ts ts' → Alike t w v (read_at G d n ts) (read_at G d n ts')
  alike_named t w v zero n ts ts' e = tt
  alike_named t w v (suc d) n ts ts' e =
      alike L laws t w v G.firsts G.mores (read_at G d) (spelt_at G.rule d) (starts_named d) (found_named d) (leaves_named d) (alike_named t w v d) (G.rule n) (sure_named n) ts ts' e
