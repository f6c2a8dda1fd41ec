-- What is given to a scan: a triple that agrees with the row has it, and where nothing can be given no triple agrees.
use Rattle.std.proofs.Common.{◌≡◌, ℕ, Bool, true, false, ◌&&◌, Option, Some, None, List, refl, sym, ◌∙◌, ap, subst}
use Rattle.std.proofs.lemmas.Bool.{and_parts}
use Rattle.std.proofs.lemmas.Bool.Decides.{Decides-eqb}
use Rattle.qs_terms.specs.Dataset.{triple_of}
use Rattle.qs_terms.specs.Statement.{Statement}
use Rattle.qs_terms.specs.Term.{same_term}
use Rattle.qs_terms.specs.declared.term.Term.{Term}
use Rattle.qs_terms.proofs.SameTerm.{same_term-Decides}
use Rattle.qs_dict.specs.inner.Dict.{number_of, term_at}
use Rattle.qs_dict.proofs.Numbers.{exact_number}
use Rattle.qs_index.specs.inner.Agreeing.{fits}
use Rattle.qs_store.specs.inner.ActiveGraph.{IsSeen}
use Rattle.qs_store.specs.Content.{Content}
use Rattle.qs_store.specs.inner.Content.{HasKnownTerms}
use Rattle.qs_store.proofs.TriplesSaid.{same_number}
use Rattle.qs_algebra_solutions.specs.Solution.{Solution, compatible_terms}
use Rattle.qs_algebra_patterns.specs.declared.pattern.Slot.{Slot}
use Rattle.qs_algebra_patterns.specs.declared.pattern.Slot.TheVariants as slot
use Rattle.qs_algebra_patterns.specs.declared.pattern.TriplePattern.{TriplePattern}
use Rattle.qs_expr.specs.declared.cell.Cell.{Cell}
use Rattle.qs_expr.specs.declared.cell.Cell.TheVariants.{Known, Scratch}
use Rattle.qs_expr.specs.inner.Cell.{Cells, cell_at, denoted, denoted_if, row_solution, FitsRow}
use Rattle.qs_expr.specs.inner.Scratch.{IsTable}
use Rattle.qs_expr.proofs.Finding.{term_there}
use Rattle.qs_expr.proofs.RowTerms.{term_at_row}
use Rattle.qs_paths.proofs.Scanned.{number_there}
use Rattle.qs_ops_scans.specs.inner.Prepared.{number_place, place_of, prepared_triple}
use Rattle.qs_ops_scans.specs.declared.opened.Given.{Given}
use Rattle.qs_ops_scans.specs.inner.Opened.{given_cell, given_of, given_three, givens}
use Rattle.qs_ops_scans.proofs.Acts.{GivenAre}
use Rattle.qs_ops_scans.proofs.May.{agrees, first_false, may_match, second_false}

-- the numbers are those that are given
pub record AllFit (g : Given) (s p o : ℕ) : Type 0 where
  pub subject : fits g.subject s ≡ true
  pub predicate : fits g.predicate p ≡ true
  pub object : fits g.object o ≡ true

module _ (c : Content) (seen : IsSeen c) (table : List Term) (is_table : IsTable c.known table) (m : Cells) (row_fits : FitsRow c.known table m) where
  abbrev sol : Solution
  sol = row_solution c.known table m

  -- the term of a cell that agrees has the number that is given for it
  cell_given : (o : Option Cell) (g : Option ℕ) (n : ℕ) (t : Term) → ((d : Cell) → o ≡ Some d → (x : Term) × (denoted c.known table d ≡ Some x)) → given_cell o ≡ Some g → term_at c.known n ≡ Some t
      → compatible_terms (denoted_if c.known table o) (Some t) ≡ true → fits g n ≡ true
  cell_given None g n t f h e k = let i : None ≡ g = (let q : Some None ≡ Some g = h in cc) in subst (λ (y : Option ℕ). fits y n ≡ true) i refl
  cell_given (Some (Known j)) g n t f h e k =
      let i : Some j ≡ g = (let q : Some (Some j) ≡ Some g = h in cc) in
      let x = f (Known j) refl in
      let r : same_term x.0 t ≡ true = subst (λ (y : Option Term). compatible_terms y (Some t) ≡ true) x.1 k in
      let l : x.0 ≡ t = (same_term-Decides x.0 t).0 r in
      let q : n ≡ j = same_number c.known seen.lawful.terms_once n j t e (x.1 ∙ ap Some l) in
      subst (λ (y : Option ℕ). fits y n ≡ true) i ((Decides-eqb n j).1 q)
  cell_given (Some (Scratch k)) g n t f h e l = absurd (let i : None ≡ Some g = h in cc)

  number_given : (o : Option ℕ) (g : Option ℕ) (u t : Term) (n : ℕ) → number_of c.known u ≡ o → given_of (number_place o) m ≡ Some g → term_at c.known n ≡ Some t → same_term u t ≡ true → fits g n ≡ true
  number_given None g u t n e h f k = absurd (let i : None ≡ Some g = h in cc)
  number_given (Some j) g u t n e h f k =
      let i : Some j ≡ g = (let q : Some (Some j) ≡ Some g = h in cc) in
      let l : u ≡ t = (same_term-Decides u t).0 k in
      let q : n ≡ j = same_number c.known seen.lawful.terms_once n j t f ((exact_number c.known u seen.lawful.terms_once j).0 e ∙ ap Some l) in
      subst (λ (y : Option ℕ). fits y n ≡ true) i ((Decides-eqb n j).1 q)

  -- a term that agrees has the number that is given
  given_fits : (q : Slot) (g : Option ℕ) (n : ℕ) (t : Term) → given_of (place_of c.known q) m ≡ Some g → term_at c.known n ≡ Some t → agrees sol q t ≡ true → fits g n ≡ true
  given_fits (slot.Term u) g n t h e k = number_given (number_of c.known u) g u t n refl h e k
  given_fits (slot.Variable v) g n t h e k =
      cell_given (cell_at m v) g n t (λ x i. term_there (denoted c.known table x) (row_fits.each v x i)) h e
      (subst (λ (y : Option Term). compatible_terms y (Some t) ≡ true) (term_at_row c.known table m v) k)

  -- where nothing can be given, no term agrees
  cell_disagrees : (o : Option Cell) (n : ℕ) (t : Term) → ((d : Cell) → o ≡ Some d → (x : Term) × (denoted c.known table d ≡ Some x)) → given_cell o ≡ None → term_at c.known n ≡ Some t
      → (b : Bool) → compatible_terms (denoted_if c.known table o) (Some t) ≡ b → b ≡ false
  cell_disagrees None n t f h e b k = absurd (let i : Some None ≡ None = h in cc)
  cell_disagrees (Some (Known j)) n t f h e b k = absurd (let i : Some (Some j) ≡ None = h in cc)
  cell_disagrees (Some (Scratch k)) n t f h e false l = refl
  cell_disagrees (Some (Scratch k)) n t f h e true l =
      let x = f (Scratch k) refl in
      let r : same_term x.0 t ≡ true = subst (λ (y : Option Term). compatible_terms y (Some t) ≡ true) x.1 l in
      let i : x.0 ≡ t = (same_term-Decides x.0 t).0 r in
      let q : Scratch k ≡ Known n = is_table.one (Scratch k) (Known n) t (x.1 ∙ ap Some i) e in
      absurd (cc)

  number_disagrees : (o : Option ℕ) (u t : Term) (n : ℕ) → number_of c.known u ≡ o → given_of (number_place o) m ≡ None → term_at c.known n ≡ Some t → (b : Bool) → same_term u t ≡ b → b ≡ false
  number_disagrees (Some j) u t n e h f b k = absurd (let i : Some (Some j) ≡ None = h in cc)
  number_disagrees None u t n e h f false k = refl
  number_disagrees None u t n e h f true k =
      let l : u ≡ t = (same_term-Decides u t).0 k in
      let q : number_of c.known u ≡ Some n = (exact_number c.known u seen.lawful.terms_once n).1 (f ∙ ap Some (sym l)) in
      absurd (let i : None ≡ Some n = sym e ∙ q in cc)

  disagrees : (q : Slot) (n : ℕ) (t : Term) → given_of (place_of c.known q) m ≡ None → term_at c.known n ≡ Some t → agrees sol q t ≡ false
  disagrees (slot.Term u) n t h e = number_disagrees (number_of c.known u) u t n refl h e (same_term u t) refl
  disagrees (slot.Variable v) n t h e =
      cell_disagrees (cell_at m v) n t (λ x i. term_there (denoted c.known table x) (row_fits.each v x i)) h e (agrees sol (slot.Variable v) t) (sym (ap (λ (y : Option Term). compatible_terms y (Some t)) (term_at_row c.known table m v)))

  -- ---- all three places

  module _ (q : TriplePattern) (quad : Statement) where
    pub all_fit : (g : Given) (s p o : ℕ) → GivenAre (prepared_triple c.known q) m g → term_at c.known s ≡ Some quad.subject → term_at c.known p ≡ Some quad.predicate → term_at c.known o ≡ Some quad.object
        → may_match sol q (triple_of quad) ≡ true → AllFit g s p o
    all_fit g s p o are is_s is_p is_o h =
        let hs = and_parts (agrees sol q.subject quad.subject) (agrees sol q.predicate quad.predicate && agrees sol q.object quad.object) h in
        let hr = and_parts (agrees sol q.predicate quad.predicate) (agrees sol q.object quad.object) hs.1 in
        record {
          subject = given_fits q.subject g.subject s quad.subject are.subject is_s hs.0;
          predicate = given_fits q.predicate g.predicate p quad.predicate are.predicate is_p hr.0;
          object = given_fits q.object g.object o quad.object are.object is_o hr.1;
        }

    disagree : HasKnownTerms c.known quad → (s p o : Option (Option ℕ)) → given_of (place_of c.known q.subject) m ≡ s → given_of (place_of c.known q.predicate) m ≡ p → given_of (place_of c.known q.object) m ≡ o → given_three s p o ≡ None
        → may_match sol q (triple_of quad) ≡ false
    disagree w None p o e f g h =
        let n = number_there c.known quad.subject w.subject in
        first_false (agrees sol q.subject quad.subject) _ (disagrees q.subject n.number quad.subject e n.is)
    disagree w (Some s) None o e f g h =
        let n = number_there c.known quad.predicate w.predicate in
        second_false (agrees sol q.subject quad.subject) _ (first_false (agrees sol q.predicate quad.predicate) _ (disagrees q.predicate n.number quad.predicate f n.is))
    disagree w (Some s) (Some p) None e f g h =
        let n = number_there c.known quad.object w.object in
        second_false (agrees sol q.subject quad.subject) _ (second_false (agrees sol q.predicate quad.predicate) _ (disagrees q.object n.number quad.object g n.is))
    disagree w (Some s) (Some p) (Some o) e f g h = absurd (let i : Some (record { subject = s; predicate = p; object = o }) ≡ None = h in cc)

    pub none_agrees : HasKnownTerms c.known quad → givens (prepared_triple c.known q) m ≡ None → may_match sol q (triple_of quad) ≡ false
    none_agrees w h = disagree w _ _ _ refl refl refl h
