-- There is a naming by each scratch table, and by it the pairs of a path are those of cells that denote their ends.
use Rattle.std.proofs.Common.{◌≡◌, ℕ, zero, suc, ◌+◌, ◌-◌, ◌<◌, ◌≤◌, Bool, true, false, cond, ◌⊎◌, inl, inr, List, [], ◌∷◌, length, Option, Some, None, refl, sym, ◌∙◌, ap, subst, arith}
use Rattle.std.specs.Bool.{IsTrue}
use Rattle.std.specs.Prelude.{nat_lt, slice_get}
use Rattle.std.specs.Option.{is_some, option_map}
use Rattle.std.proofs.lemmas.Bool.{ltb-true, ltb-false, lt-ltb, le-ltb}
use Rattle.std.proofs.lemmas.Bool.Decides.{Decides-eqb}
use Rattle.std.proofs.lemmas.Option.{same_Some}
use Rattle.qs_terms.specs.declared.term.Term.{Term}
use Rattle.qs_terms.specs.declared.term.Term.TheVariants.{Iri, Blank, Literal}
use Rattle.qs_terms.specs.Dataset.{Triple, nodes_of}
use Rattle.qs_terms.specs.Term.{same_term}
use Rattle.qs_terms.proofs.SameTerm.{same_term-Decides}
use Rattle.qs_dict.specs.inner.Dict.{term_at}
use Rattle.qs_syntax_ast.specs.declared.path.Path.{Path}
use Rattle.qs_store.specs.inner.ActiveGraph.{IsSeen, active_graph}
use Rattle.qs_store.specs.Content.{Content}
use Rattle.qs_store.specs.declared.active.Active.{Active}
use Rattle.qs_store.specs.declared.default_graph.DefaultGraph.{DefaultGraph}
use Rattle.qs_paths_meaning.specs.Pair.{Pair}
use Rattle.qs_paths_meaning.specs.inner.Pair.{same_pair}
use Rattle.qs_paths_meaning.specs.Pairs.{pairs}
use Rattle.qs_paths_meaning.specs.Steps.{agrees}
use Rattle.qs_paths_meaning.specs.inner.Links.{same_number}
use Rattle.qs_paths_meaning.proofs.Arms.{same_pair-Decides}
use Rattle.qs_paths_meaning.proofs.Members.{Mem, bool_same, in_mem}
use Rattle.qs_paths_meaning.proofs.Near.{tied}
use Rattle.qs_paths_meaning.proofs.Steady.{steady}
use Rattle.qs_expr.specs.declared.cell.Cell.{Cell}
use Rattle.qs_expr.specs.declared.cell.Cell.TheVariants.{Known, Scratch}
use Rattle.qs_expr.specs.inner.Cell.{FitsCell, FitsIf, denoted, denoted_if}
use Rattle.qs_expr.specs.inner.Scratch.{IsTable}
use Rattle.qs_paths.specs.inner.Coming.{AreDenoted}
use Rattle.qs_paths.specs.inner.Nodes.{IsNaming, cell_of, named_end}
use Rattle.qs_paths.proofs.Scanned.{node_number, number_low}

-- ---- numbers and cells

known_cell : (n : ℕ) → n < 4294967296 → cell_of n ≡ Known n
known_cell n lt = ap (λ b. cond b (Known n) (Scratch (n - 4294967296))) (lt-ltb n 4294967296 lt)

scratch_cell : (n : ℕ) → 4294967296 ≤ n → cell_of n ≡ Scratch (n - 4294967296)
scratch_cell n le = ap (λ b. cond b (Known n) (Scratch (n - 4294967296))) (le-ltb n 4294967296 le)

pub cell_once : (n m : ℕ) → cell_of n ≡ cell_of m → n ≡ m
cell_once n m e = by (nat_lt n 4294967296) refl (nat_lt m 4294967296) refl
  where
    by : (a : Bool) → nat_lt n 4294967296 ≡ a → (b : Bool) → nat_lt m 4294967296 ≡ b → n ≡ m
    by true f true g = let i : Known n ≡ Known m = sym (known_cell n (ltb-true n 4294967296 f)) ∙ (e ∙ known_cell m (ltb-true m 4294967296 g)) in cc
    by true f false g = let i : Known n ≡ Scratch (m - 4294967296) = sym (known_cell n (ltb-true n 4294967296 f)) ∙ (e ∙ scratch_cell m (ltb-false m 4294967296 g)) in cc
    by false f true g = let i : Scratch (n - 4294967296) ≡ Known m = sym (scratch_cell n (ltb-false n 4294967296 f)) ∙ (e ∙ known_cell m (ltb-true m 4294967296 g)) in cc
    by false f false g =
        let i : Scratch (n - 4294967296) ≡ Scratch (m - 4294967296) = sym (scratch_cell n (ltb-false n 4294967296 f)) ∙ (e ∙ scratch_cell m (ltb-false m 4294967296 g)) in
        let j : n - 4294967296 ≡ m - 4294967296 = cc in
        let k : 4294967296 ≤ n = ltb-false n 4294967296 f in
        let l : 4294967296 ≤ m = ltb-false m 4294967296 g in omega (arith, j, k, l)

-- ---- a term for each number

size : Term → ℕ
size (Iri i) = length i
size (Blank n) = 0
size (Literal l) = 0

longest : List Term → ℕ
longest [] = 0
longest (t ∷ ts) = size t + longest ts

within : (ts : List Term) (k : ℕ) (t : Term) → slice_get ts k ≡ Some t → size t ≤ longest ts
unfolding size longest
within [] k t h = let f : None ≡ Some t = h in cc
within (u ∷ ts) zero t h = let e : u ≡ t = same_Some u t h in let f : size u ≡ size t = ap size e in omega (arith, f)
within (u ∷ ts) (suc k) t h = let i : size t ≤ longest ts = within ts k t h in omega (arith, i)

known_within : (known : List Term) (n : ℕ) (t : Term) → term_at known n ≡ Some t → size t ≤ longest known
known_within known zero t h = let f : None ≡ Some t = h in cc
known_within known (suc n) t h = within known n t h

denoted_within : (known table : List Term) (c : Cell) (t : Term) → denoted known table c ≡ Some t → size t ≤ longest known + longest table
denoted_within known table (Known n) t h = let i : size t ≤ longest known = known_within known n t h in omega (arith, i)
denoted_within known table (Scratch k) t h = let i : size t ≤ longest table = within table k t h in omega (arith, i)

zeros : ℕ → List ℕ
zeros zero = []
zeros (suc n) = 0 ∷ zeros n

zeros_long : (n : ℕ) → length (zeros n) ≡ n
unfolding zeros
zeros_long zero = refl
zeros_long (suc n) = ap suc (zeros_long n)

-- an IRI that is longer than all of them
fresh : ℕ → ℕ → Term
fresh bound n = Iri (zeros (suc (bound + n)))

fresh_size : (bound n : ℕ) → size (fresh bound n) ≡ suc (bound + n)
unfolding size fresh
fresh_size bound n = zeros_long (suc (bound + n))

term_or : Option Term → Term → Term
term_or None d = d
term_or (Some t) d = t

module _ (known table : List Term) (one : IsTable known table) (few : length known < 4294967296) where
  bound : ℕ
  bound = longest known + longest table

  pub name : ℕ → Term
  name n = term_or (denoted known table (cell_of n)) (fresh bound n)

  pub name_is : (n : ℕ) (t : Term) → denoted known table (cell_of n) ≡ Some t → name n ≡ t
  unfolding name term_or
  name_is n t e = ap (λ o. term_or o (fresh bound n)) e

  name_fresh : (n : ℕ) → denoted known table (cell_of n) ≡ None → name n ≡ fresh bound n
  unfolding name term_or
  name_fresh n e = ap (λ o. term_or o (fresh bound n)) e

  low : (n : ℕ) (t : Term) → denoted known table (cell_of n) ≡ Some t → size t ≤ bound
  unfolding bound
  low n t e = denoted_within known table (cell_of n) t e

  name_once : (n m : ℕ) → name n ≡ name m → n ≡ m
  name_once n m e = by (denoted known table (cell_of n)) refl (denoted known table (cell_of m)) refl
    where
      by : (o : Option Term) → denoted known table (cell_of n) ≡ o → (p : Option Term) → denoted known table (cell_of m) ≡ p → n ≡ m
      by (Some t) f (Some u) g =
          let i : t ≡ u = sym (name_is n t f) ∙ (e ∙ name_is m u g) in
          cell_once n m (one.one (cell_of n) (cell_of m) u (f ∙ ap Some i) g)
      by (Some t) f None g =
          let i : size t ≡ suc (bound + m) = ap size (sym (name_is n t f) ∙ (e ∙ name_fresh m g)) ∙ fresh_size bound m in
          let j : size t ≤ bound = low n t f in absurd (omega (arith, i, j))
      by None f (Some u) g =
          let i : size u ≡ suc (bound + n) = ap size (sym (name_is m u g) ∙ (sym e ∙ name_fresh n f)) ∙ fresh_size bound n in
          let j : size u ≤ bound = low m u g in absurd (omega (arith, i, j))
      by None f None g =
          let i : suc (bound + n) ≡ suc (bound + m) = sym (fresh_size bound n) ∙ (ap size (sym (name_fresh n f) ∙ (e ∙ name_fresh m g)) ∙ fresh_size bound m) in
          omega (arith, i)

  known_low : (n : ℕ) (t : Term) → term_at known n ≡ Some t → denoted known table (cell_of n) ≡ Some t
  known_low n t e =
      let i : n ≤ length known = number_low known n t e in
      ap (denoted known table) (known_cell n (omega (arith, i, few))) ∙ e

  pub naming : IsNaming known name
  naming = record {
    apart = λ n m.
        bool_same (same_term (name n) (name m)) (same_number n m)
        (λ h. (Decides-eqb n m).1 (name_once n m ((same_term-Decides (name n) (name m)).0 h)))
        (λ h. (same_term-Decides (name n) (name m)).1 (ap name ((Decides-eqb n m).0 h)));
    own = λ n t e. name_is n t (known_low n t e);
  }

  -- ---- the ends that are given

  fits_some : (c : Cell) → FitsCell known table c → (t : Term) × (denoted known table c ≡ Some t)
  fits_some c h = by (denoted known table c) refl
    where
      by : (o : Option Term) → denoted known table c ≡ o → (t : Term) × (denoted known table c ≡ Some t)
      by (Some t) e = (t, e)
      by None e = let f : false ≡ true = subst (λ (o : Option Term). IsTrue (is_some o)) e h in cc

  pub named_given : (o : Option ℕ) (x : Option Cell) → FitsIf known table x → option_map cell_of o ≡ x → named_end name o ≡ denoted_if known table x
  named_given None None h e = refl
  named_given None (Some c) h e = let f : None ≡ Some c = e in cc
  named_given (Some n) None h e = let f : Some (cell_of n) ≡ None = e in cc
  named_given (Some n) (Some c) h e =
      let i : cell_of n ≡ c = same_Some (cell_of n) c e in
      let w = fits_some c (h c refl) in
      ap Some (name_is n w.0 (ap (denoted known table) i ∙ w.1)) ∙ sym w.1

  -- a cell has a number
  cell_number : (c : Cell) (t : Term) → denoted known table c ≡ Some t → (m : ℕ) × (cell_of m ≡ c)
  cell_number (Known n) t e = let i : n ≤ length known = number_low known n t e in (n, known_cell n (omega (arith, i, few)))
  cell_number (Scratch k) t e = (
    4294967296 + k,
    scratch_cell (4294967296 + k) (omega arith) ∙ ap Scratch (let j : 4294967296 + k - 4294967296 ≡ k = omega arith in j),
  )

  denoted_given : (x : Option Cell) → FitsIf known table x → (n : ℕ) (t a : Term) → denoted_if known table x ≡ Some a → a ≡ t → t ≡ name n → denoted known table (cell_of n) ≡ Some (name n)
  denoted_given None h n t a e i j = let f : None ≡ Some a = e in cc
  denoted_given (Some c) h n t a e i j =
      let w = cell_number c a e in
      let d : denoted known table (cell_of w.0) ≡ Some a = ap (denoted known table) w.1 ∙ e in
      let k : w.0 ≡ n = name_once w.0 n (name_is w.0 a d ∙ (i ∙ j)) in
      subst (λ (m : ℕ). denoted known table (cell_of m) ≡ Some (name n)) k (d ∙ ap Some (i ∙ j))

module _ (c : Content) (d : DefaultGraph) (a : Active) (seen : IsSeen c) (few : length c.known < 4294967296) (table : List Term) (one : IsTable c.known table) where
  abbrev graph : List Triple
  graph = active_graph c d a

  abbrev called : ℕ → Term
  called = name c.known table one few

  node_denoted : (n : ℕ) (x : Term) → Mem x (nodes_of graph) → x ≡ called n → denoted c.known table (cell_of n) ≡ Some (called n)
  node_denoted n x m e =
      let w = node_number c d a seen.lawful seen.knows x m in
      let k : w.number ≡ n = name_once c.known table one few w.number n ((naming c.known table one few).own w.number x w.is ∙ e) in
      known_low c.known table one few n (called n) (subst (λ (m : ℕ). term_at c.known m ≡ Some (called n)) k (w.is ∙ ap Some e))

  module _ (p : Path) (left right : Option Cell) (l : FitsIf c.known table left) (r : FitsIf c.known table right) where
    given_agrees : (x : Option Cell) → FitsIf c.known table x → (n : ℕ) (t : Term) → agrees (denoted_if c.known table x) t ≡ true → t ≡ called n → (denoted_if c.known table x ≡ None) ⊎ (denoted c.known table (cell_of n) ≡ Some (called n))
    given_agrees x h n t k e = by (denoted_if c.known table x) refl
      where
        by : (o : Option Term) → denoted_if c.known table x ≡ o → (denoted_if c.known table x ≡ None) ⊎ (denoted c.known table (cell_of n) ≡ Some (called n))
        by None i = inl i
        by (Some b) i = inr (denoted_given c.known table one few x h n t b i ((same_term-Decides b t).0 (sym (ap (λ o. agrees o t) i) ∙ k)) e)

    -- each end of a pair is a node, or an end that is given
    ended : (e : Pair) → Mem e (pairs graph p (denoted_if c.known table left) (denoted_if c.known table right)) → (n : ℕ) → (e.left ≡ called n) ⊎ (e.right ≡ called n) → denoted c.known table (cell_of n) ≡ Some (called n)
    ended e m n h =
        let b = tied graph p (denoted_if c.known table left) (denoted_if c.known table right) e m in
        elim b.near [
          | inr k ↦ elim h [ inl i ↦ node_denoted n e.left k.0 i | inr i ↦ node_denoted n e.right k.1 i ]
          | inl s ↦
              let i : e.left ≡ called n = elim h [ inl j ↦ j | inr j ↦ s ∙ j ] in
              elim (given_agrees left l n e.left b.at_left i) [
                | inr k ↦ k
                | inl o ↦ elim (given_agrees right r n e.right b.at_right (sym s ∙ i)) [
                  | inr k ↦ k
                  | inl q ↦
                      let w = (steady graph p).within e (subst (λ (z : Option Term). Mem e (pairs graph p None z)) q (subst (λ (z : Option Term). Mem e (pairs graph p z (denoted_if c.known table right))) o m)) in
                      node_denoted n e.left w.0 i
                ]
              ]
        ]

    pub all_denoted : AreDenoted c.known table called (pairs graph p (denoted_if c.known table left) (denoted_if c.known table right))
    all_denoted = record {
      left = λ n e i h. ended e (in_mem same_pair same_pair-Decides e (pairs graph p (denoted_if c.known table left) (denoted_if c.known table right)) i) n (inl h);
      right = λ n e i h. ended e (in_mem same_pair same_pair-Decides e (pairs graph p (denoted_if c.known table left) (denoted_if c.known table right)) i) n (inr h);
    }
