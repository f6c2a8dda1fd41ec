-- A scan that starts from the row at hand makes of it what the graph makes of it.
use Rattle.std.proofs.Common.{◌≡◌, ℕ, Bool, true, false, Option, Some, None, List, [], ◌∷◌, map, slice_index, refl, sym, ◌∙◌, ap, subst}
use Rattle.std.specs.Prelude.{option_to_list}
use Rattle.std.specs.List.{AllByRecursion, Contains, filter, filter_map, flat_map}
use Rattle.std.proofs.lemmas.List.Sorted.{IsPermutation-refl}
use Rattle.qs_terms.specs.Bag.{Distinct, SameBag}
use Rattle.qs_terms.specs.inner.Bag.{times}
use Rattle.qs_terms.specs.Dataset.{Triple, triple_of, same_triple}
use Rattle.qs_terms.specs.Statement.{Statement}
use Rattle.qs_terms.specs.declared.term.Term.{Term}
use Rattle.qs_terms.proofs.Counts.{times-flat_map, times-same, total-same, total-ap, same_from_times}
use Rattle.qs_terms.proofs.FirstOnes.{distinct_kept}
use Rattle.qs_dict.specs.inner.Dict.{term_at}
use Rattle.qs_index.specs.inner.Entry.{IsAscending}
use Rattle.qs_index.specs.declared.permutation.Permutation.{Permutation}
use Rattle.qs_store.specs.inner.ActiveGraph.{IsSeen, active_graph}
use Rattle.qs_store.specs.Content.{Content}
use Rattle.qs_store.specs.inner.Content.{HasKnownTerms}
use Rattle.qs_store.specs.inner.Entries.{or_blank}
use Rattle.qs_store.specs.inner.Triples.{IsActive, IsMatch, IsTriple, AreTriplesAnyhow, turned_triple}
use Rattle.qs_store.specs.declared.active.Active.{Active}
use Rattle.qs_store.specs.declared.active.Active.TheVariants as active
use Rattle.qs_store.specs.declared.default_graph.DefaultGraph.{DefaultGraph}
use Rattle.qs_store.proofs.Members.{here, there, member_of_filter, filter_has}
use Rattle.qs_algebra_solutions.specs.Solution.{Solution, same_solution}
use Rattle.qs_algebra_solutions.proofs.Same.{same_solution-Decides}
use Rattle.qs_algebra_patterns.specs.Basic.{Graph}
use Rattle.qs_algebra_patterns.specs.declared.pattern.TriplePattern.{TriplePattern}
use Rattle.qs_expr.specs.inner.Cell.{Cells, row_solution, FitsRow}
use Rattle.qs_expr.specs.inner.Scratch.{IsTable}
use Rattle.qs_paths.proofs.Active.{active_has, active_only, active_once, same_triple-Decides}
use Rattle.qs_paths.proofs.Lists.{map_has, member_of_map, same_members}
use Rattle.qs_paths.proofs.Scanned.{number_there}
use Rattle.qs_plan_meaning.specs.inner.Scans.{bound_triple, extensions}
use Rattle.qs_ops_scans.specs.inner.Makes.{AreMade, Makes}
use Rattle.qs_ops_scans.specs.inner.Prepared.{prepared_triple}
use Rattle.qs_ops_scans.specs.declared.opened.Given.{Given}
use Rattle.qs_ops_scans.specs.declared.pattern.PreparedTriple.{PreparedTriple}
use Rattle.qs_ops_scans.specs.inner.Opened.{acts_of, givens, row_made, IsScanned, IsScannedBy}
use Rattle.qs_ops_scans.proofs.Acts.{givens_are, made_bound, GivenAre}
use Rattle.qs_ops_scans.proofs.Givens.{all_fit, none_agrees}
use Rattle.qs_ops_scans.proofs.May.{filtered, may_match, none_of}
use Rattle.qs_ops_scans.proofs.Said.{one_number, said_distinct}
use Rattle.qs_ops_scans.proofs.Steps.{three_bound, triple_bound, Bound}

-- ---- lists

-- equal bags on the left, and equal bags from each
pub flat_map_same : {T : Type 0} (f g : T → List Solution) (xs ys : List T) → SameBag xs ys → ((t : T) → SameBag (f t) (g t)) → SameBag (flat_map f xs) (flat_map g ys)
flat_map_same f g xs ys h each =
    same_from_times same_solution same_solution-Decides _ _ (λ a.
    times-flat_map same_solution f a xs
    ∙ (total-ap (λ t. times same_solution a (f t)) (λ t. times same_solution a (g t)) (λ t. times-same same_solution a (f t) (g t) (each t)) xs
    ∙ (total-same (λ t. times same_solution a (g t)) xs ys h ∙ sym (times-flat_map same_solution g a ys))))

-- ---- the triples of a scan

-- the terms of three numbers
abbrev said : List Term → List ℕ → Triple
said known x = record {
  subject = or_blank (term_at known (slice_index x 0));
  predicate = or_blank (term_at known (slice_index x 1));
  object = or_blank (term_at known (slice_index x 2));
}

said_is : (known : List Term) (x : List ℕ) (q : Statement) → term_at known (slice_index x 0) ≡ Some q.subject → term_at known (slice_index x 1) ≡ Some q.predicate → term_at known (slice_index x 2) ≡ Some q.object → said known x ≡ triple_of q
said_is known x q a b c = rw (a, b, c) refl

record Scan (c : Content) (d : DefaultGraph) (a : Active) (s p o : Option ℕ) (x : List ℕ) : Type 0 where
  match : IsMatch c d a s p o (slice_index x 0) (slice_index x 1) (slice_index x 2)
  is : x ≡ slice_index x 0 ∷ slice_index x 1 ∷ slice_index x 2 ∷ []

scan_of : (c : Content) (d : DefaultGraph) (a : Active) (s p o : Option ℕ) (x : List ℕ) → IsTriple c d a s p o x → Scan c d a s p o x
scan_of c d a s p o [] h = absurd h
scan_of c d a s p o (x ∷ []) h = absurd h
scan_of c d a s p o (x ∷ y ∷ []) h = absurd h
scan_of c d a s p o (x ∷ y ∷ z ∷ []) h = record { match = h; is = refl }
scan_of c d a s p o (x ∷ y ∷ z ∷ w ∷ rest) h = absurd h

module _ (c : Content) (d : DefaultGraph) (a : Active) (seen : IsSeen c) (s p o : Option ℕ) where
  abbrev Is : List ℕ → Type 0
  Is x = IsTriple c d a s p o x

  in_active : (x : List ℕ) → Is x → Contains (active_graph c d a) (said c.known x)
  in_active x h =
      let w = (scan_of c d a s p o x h).match in
      subst (Contains (active_graph c d a)) (sym (said_is c.known x w.quad w.subject_is w.predicate_is w.object_is)) (active_has c d a w.quad w.stands w.read)

  said_once : (x z : List ℕ) → Is x → Is z → said c.known x ≡ said c.known z → x ≡ z
  said_once x z h k e =
      let v = scan_of c d a s p o x h in
      let w = scan_of c d a s p o z k in
      let f : slice_index x 0 ≡ slice_index z 0 = one_number c seen _ _ _ _ v.match.subject_is w.match.subject_is (ap (λ (t : Triple). t.subject) e) in
      let g : slice_index x 1 ≡ slice_index z 1 = one_number c seen _ _ _ _ v.match.predicate_is w.match.predicate_is (ap (λ (t : Triple). t.predicate) e) in
      let i : slice_index x 2 ≡ slice_index z 2 = one_number c seen _ _ _ _ v.match.object_is w.match.object_is (ap (λ (t : Triple). t.object) e) in
      v.is ∙ (ap (λ n. n ∷ slice_index x 1 ∷ slice_index x 2 ∷ []) f ∙ (ap (λ n. slice_index z 0 ∷ n ∷ slice_index x 2 ∷ []) g ∙ (ap (λ n. slice_index z 0 ∷ slice_index z 1 ∷ n ∷ []) i ∙ sym w.is)))

  scanned_once : (q : Permutation) (xs : List (List ℕ)) → ((z : List ℕ) → Contains xs z → Is z) → IsAscending (map (turned_triple q) xs) → Distinct same_triple (map (said c.known) xs)
  scanned_once q xs = said_distinct same_triple same_triple-Decides (said c.known) (turned_triple q) Is said_once xs

-- ---- what is made of the row

module _ (c : Content) (seen : IsSeen c) (table : List Term) (is_table : IsTable c.known table) (m : Cells) (row_fits : FitsRow c.known table m) where
  abbrev sol : Solution
  sol = row_solution c.known table m

  module _ (d : DefaultGraph) (a : Active) (q : TriplePattern) where
    abbrev graph : Graph
    graph = active_graph c d a

    -- nothing is made where nothing can be given
    nothing_made : givens (prepared_triple c.known q) m ≡ None → extensions q graph sol ≡ []
    nothing_made h =
        none_of q sol graph (λ t k.
        let g = active_only c d a t k in
        subst (λ (u : Triple). may_match sol q u ≡ false) g.is (none_agrees c seen table is_table m row_fits q g.quad (seen.knows g.quad g.stands) h))

    -- ---- a scan with what is given

    module _ (g : Given) (entries : List (List ℕ)) (are : GivenAre (prepared_triple c.known q) m g) (l : AreTriplesAnyhow c d a g.subject g.predicate g.object entries) where
      -- a triple of the graph that may agree is among those that were handed out
      handed_out : (quad : Statement) → Contains c.quads quad → IsActive c.known d a quad.graph → may_match sol q (triple_of quad) ≡ true → Contains (map (said c.known) entries) (triple_of quad)
      handed_out quad stands read h =
          let known : HasKnownTerms c.known quad = seen.knows quad stands in
          let s = number_there c.known quad.subject known.subject in
          let p = number_there c.known quad.predicate known.predicate in
          let o = number_there c.known quad.object known.object in
          let f = all_fit c seen table is_table m row_fits q quad g s.number p.number o.number are s.is p.is o.is h in
          let match : IsMatch c d a g.subject g.predicate g.object s.number p.number o.number = record {
            quad = quad;
            stands = stands;
            read = read;
            subject_is = s.is;
            predicate_is = p.is;
            object_is = o.is;
            subject_given = f.subject;
            predicate_given = f.predicate;
            object_given = f.object;
          } in
          let x : List ℕ = s.number ∷ p.number ∷ o.number ∷ [] in
          subst (Contains (map (said c.known) entries)) (said_is c.known x quad s.is p.is o.is) (map_has (said c.known) x entries (l.in_order.has x match))

      same_agreeing : SameBag (filter (may_match sol q) (map (said c.known) entries)) (filter (may_match sol q) graph)
      same_agreeing =
          let test : Triple → Bool = may_match sol q in
          let out : List Triple = map (said c.known) entries in
          same_members same_triple same_triple-Decides (filter test out) (filter test graph)
          (distinct_kept same_triple same_triple-Decides test out (scanned_once c d a seen _ _ _ l.order entries l.in_order.only l.in_order.ascending))
          (distinct_kept same_triple same_triple-Decides test graph (active_once c d a seen.lawful))
          (λ t h. let f = member_of_filter test t out h in let e = member_of_map (said c.known) t entries f.0 in filter_has test t graph (subst (Contains graph) e.is (in_active c d a seen _ _ _ e.of (l.in_order.only e.of e.stands))) f.1)
          (λ t h. let f = member_of_filter test t graph h in let i = active_only c d a t f.0 in filter_has test t out (subst (Contains out) i.is (handed_out i.quad i.stands i.read (subst (λ (u : Triple). test u ≡ true) (sym i.is) f.1))) f.1)

      extensions_same : SameBag (extensions q (map (said c.known) entries) sol) (extensions q graph sol)
      extensions_same =
          subst (λ (xs : List Solution). SameBag xs (extensions q graph sol)) (sym (filtered q (map (said c.known) entries) sol))
          (subst (SameBag (extensions q (filter (may_match sol q) (map (said c.known) entries)) sol)) (sym (filtered q graph sol))
          (flat_map_same (λ t. option_to_list (bound_triple q t sol)) (λ t. option_to_list (bound_triple q t sol)) _ _ same_agreeing (λ t. IsPermutation-refl (option_to_list (bound_triple q t sol)))))

      -- what each triple makes of the row

      abbrev made : List ℕ → Option Cells
      made x = row_made (acts_of (prepared_triple c.known q) m) m x

      made_is : (x : List ℕ) → IsTriple c d a g.subject g.predicate g.object x → Bound c.known table is_table (made x) (bound_triple q (said c.known x) sol)
      made_is x h =
          let w = (scan_of c d a g.subject g.predicate g.object x h).match in
          let e : said c.known x ≡ triple_of w.quad = said_is c.known x w.quad w.subject_is w.predicate_is w.object_is in
          subst (λ (r : Option Cells). Bound c.known table is_table r (bound_triple q (said c.known x) sol))
          (sym (made_bound (prepared_triple c.known q) m g x are w.subject_given w.predicate_given w.object_given))
          (subst (λ (t : Triple). Bound c.known table is_table (three_bound (prepared_triple c.known q) x m) (bound_triple q t sol)) (sym e)
          (triple_bound c.known table is_table seen.lawful.terms_once q x (triple_of w.quad) m row_fits w.subject_is w.predicate_is w.object_is))

      record Made (xs : List (List ℕ)) : Type 0 where
        is : map (row_solution c.known table) (filter_map made xs) ≡ extensions q (map (said c.known) xs) sol
        fit : AllByRecursion (FitsRow c.known table) (filter_map made xs)

      one_more : (x : List ℕ) (xs : List (List ℕ)) (r : Option Cells) → made x ≡ r → Bound c.known table is_table r (bound_triple q (said c.known x) sol) → Made xs → Made (x ∷ xs)
      one_more x xs None e b h = record {
        is = rw (e, sym b.is) h.is;
        fit = rw e h.fit;
      }
      one_more x xs (Some r) e b h = record {
        is = rw (e, sym b.is) (ap (λ l. row_solution c.known table r ∷ l) h.is);
        fit = rw e (b.fit r refl, h.fit);
      }

      all_made : (xs : List (List ℕ)) → ((x : List ℕ) → Contains xs x → IsTriple c d a g.subject g.predicate g.object x) → Made xs
      all_made [] h = record { is = refl; fit = tt }
      all_made (x ∷ xs) h = one_more x xs (made x) refl (made_is x (h x (here x xs))) (all_made xs (λ z k. h z (there x z xs k)))

      scan_made : AreMade c.known table (extensions q graph) m (filter_map made entries)
      scan_made =
          let w = all_made entries l.in_order.only in
          record {
            same = subst (λ (xs : List Solution). SameBag xs (extensions q graph sol)) (sym w.is) extensions_same;
            fit = w.fit;
          }

    by_givens : (o : Option Given) (entries : List (List ℕ)) → givens (prepared_triple c.known q) m ≡ o → IsScannedBy c d a o entries → AreMade c.known table (extensions q graph) m (filter_map (row_made (acts_of (prepared_triple c.known q) m) m) entries)
    by_givens None entries e h =
        subst (λ (xs : List (List ℕ)). AreMade c.known table (extensions q graph) m (filter_map (row_made (acts_of (prepared_triple c.known q) m) m) xs)) (sym h)
        (record { same = subst (λ (xs : List Solution). SameBag [] xs) (sym (nothing_made e)) (IsPermutation-refl []); fit = tt })
    by_givens (Some g) entries e h = scan_made g entries (givens_are (prepared_triple c.known q) m g e) h

pub rows_made : (c : Content) (d : DefaultGraph) (a : Active) (k : PreparedTriple) (m : Cells) (q : TriplePattern) (entries : List (List ℕ)) → IsSeen c → IsScanned c d a k m entries → k ≡ prepared_triple c.known q
    → Makes c.known (extensions q (active_graph c d a)) m (filter_map (row_made (acts_of k m) m) entries)
rows_made c d a k m q entries seen l e table is_table f =
    subst (λ (r : PreparedTriple). AreMade c.known table (extensions q (active_graph c d a)) m (filter_map (row_made (acts_of r m) m) entries)) (sym e)
    (by_givens c seen table is_table m f d a q (givens (prepared_triple c.known q) m) entries refl (subst (λ (r : PreparedTriple). IsScanned c d a r m entries) e l))

-- in the graph that is empty no triple stands
pub none_scanned : (c : Content) (d : DefaultGraph) (entries : List (List ℕ)) → ((x : List ℕ) → Contains entries x → IsTriple c d active.Empty None None None x) → entries ≡ []
none_scanned c d [] h = refl
none_scanned c d (x ∷ xs) h = absurd ((scan_of c d active.Empty None None None x (h x (here x xs))).match.read)
