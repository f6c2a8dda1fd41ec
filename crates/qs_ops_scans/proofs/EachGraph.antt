-- One scan of the quads of all named graphs makes of a row what a triple pattern makes of it in each of them, with the register holding
-- the graph's name.
use Rattle.std.proofs.Common.{◌≡◌, ℕ, ◌<◌, Bool, true, false, cond, Option, Some, None, if◌then◌else◌, List, [], ◌∷◌, ◌++◌, length, map, slice_index, slice_set, option_to_list, refl, sym, ◌∙◌, ap, subst}
use Rattle.std.specs.Option.{option_map}
use Rattle.std.specs.List.{AllByRecursion, Contains, filter, filter_map, flat_map}
use Rattle.std.proofs.lemmas.List.{get_or-set_same, length-map}
use Rattle.std.proofs.lemmas.List.Folds.{flat_map-map}
use Rattle.std.proofs.lemmas.List.Sorted.{IsPermutation-refl, IsPermutation-trans}
use Rattle.qs_terms.specs.Bag.{Distinct, SameBag}
use Rattle.qs_terms.specs.Dataset.{names_of, triple_of}
use Rattle.qs_terms.specs.Statement.{Statement, same_graph, same_statement}
use Rattle.qs_terms.specs.declared.term.Term.{Term}
use Rattle.qs_terms.proofs.FirstOnes.{distinct_kept}
use Rattle.qs_terms.proofs.SameStatement.{same_graph-Decides, same_statement-Decides}
use Rattle.qs_dict.specs.inner.Dict.{term_at}
use Rattle.qs_index.specs.inner.Entry.{IsAscending}
use Rattle.qs_index.specs.inner.Permutation.{named_order_used, turned}
use Rattle.qs_index.specs.declared.permutation.Permutation.{Permutation}
use Rattle.qs_store.specs.inner.ActiveGraph.{IsSeen, is_named}
use Rattle.qs_store.specs.Content.{Content}
use Rattle.qs_store.specs.inner.Content.{HasKnownTerms}
use Rattle.qs_store.specs.inner.Entries.{or_blank}
use Rattle.qs_store.proofs.Members.{filter_has, here, member_of_filter, there}
use Rattle.qs_algebra_solutions.specs.Solution.{Solution, term_at as bound_term}
use Rattle.qs_algebra_patterns.specs.declared.pattern.TriplePattern.{TriplePattern}
use Rattle.qs_expr.specs.declared.cell.Cell.TheVariants.{Known}
use Rattle.qs_expr.specs.inner.Cell.{Cells, denoted_if, row_solution, FitsRow}
use Rattle.qs_expr.specs.inner.Scratch.{IsTable}
use Rattle.qs_expr.proofs.Finding.{some_of}
use Rattle.qs_expr.proofs.Rows.{bound_fits, bound_terms}
use Rattle.qs_paths.proofs.Lists.{map_has, member_of_map, same_members}
use Rattle.qs_paths.proofs.Scanned.{number_there}
use Rattle.qs_plan_meaning.specs.inner.Scans.{bound_triple, extensions}
use Rattle.qs_plan_meaning.specs.inner.Stages.{graph_named}
use Rattle.qs_ops_scans.specs.inner.Each.{each_extension, misses}
use Rattle.qs_ops_scans.specs.inner.Makes.{AreMade, Makes}
use Rattle.qs_ops_scans.specs.inner.Prepared.{prepared_triple}
use Rattle.qs_ops_scans.specs.declared.opened.Given.{Given}
use Rattle.qs_ops_scans.specs.declared.pattern.PreparedTriple.{PreparedTriple}
use Rattle.qs_store.specs.inner.NamedQuads.{AreNamedQuads, IsNamedMatch, IsNamedQuad}
use Rattle.qs_ops_scans.specs.inner.Opened.{acts_of, bound, givens, passes, row_made}
use Rattle.qs_ops_scans.specs.inner.Quads.{AreScanned, AreScannedBy, quad_made, triple_in}
use Rattle.qs_ops_scans.proofs.Acts.{givens_are, made_bound, GivenAre}
use Rattle.qs_ops_scans.proofs.Givens.{all_fit, none_agrees}
use Rattle.qs_ops_scans.proofs.May.{cannot_match, may_match}
use Rattle.qs_ops_scans.proofs.Parted.{parted}
use Rattle.qs_ops_scans.proofs.Register.{triple_held}
use Rattle.qs_ops_scans.proofs.Said.{one_number, said_distinct}
use Rattle.qs_ops_scans.proofs.Scanned.{flat_map_same}
use Rattle.qs_ops_scans.proofs.Steps.{Bound, this_bound, triple_bound}

-- ---- the quads of a scan

-- the terms of four numbers
abbrev said : List Term → List ℕ → Statement
said known x = record {
  graph = term_at known (slice_index x 0);
  subject = or_blank (term_at known (slice_index x 1));
  predicate = or_blank (term_at known (slice_index x 2));
  object = or_blank (term_at known (slice_index x 3));
}

said_is : (known : List Term) (x : List ℕ) (q : Statement) → term_at known (slice_index x 0) ≡ q.graph → term_at known (slice_index x 1) ≡ Some q.subject → term_at known (slice_index x 2) ≡ Some q.predicate → term_at known (slice_index x 3) ≡ Some q.object
    → said known x ≡ q
said_is known x q a b c d = rw (a, b, c, d) refl

record Scan (c : Content) (s p o : Option ℕ) (x : List ℕ) : Type 0 where
  match : IsNamedMatch c s p o (slice_index x 0) (slice_index x 1) (slice_index x 2) (slice_index x 3)
  is : x ≡ slice_index x 0 ∷ slice_index x 1 ∷ slice_index x 2 ∷ slice_index x 3 ∷ []

scan_of : (c : Content) (s p o : Option ℕ) (x : List ℕ) → IsNamedQuad c s p o x → Scan c s p o x
scan_of c s p o [] h = absurd h
scan_of c s p o (g ∷ []) h = absurd h
scan_of c s p o (g ∷ x ∷ []) h = absurd h
scan_of c s p o (g ∷ x ∷ y ∷ []) h = absurd h
scan_of c s p o (g ∷ x ∷ y ∷ z ∷ []) h = record { match = h; is = refl }
scan_of c s p o (g ∷ x ∷ y ∷ z ∷ w ∷ rest) h = absurd h

abbrev names_graph : Statement → Bool
names_graph q = is_named q.graph

named_some : (g : Option Term) (name : Term) → g ≡ Some name → is_named g ≡ true
named_some g name e = ap is_named e

some_named : (g : Option Term) → is_named g ≡ true → (name : Term) × (g ≡ Some name)
some_named None h = let f : false ≡ true = h in absurd (cc)
some_named (Some name) h = (name, refl)

module _ (c : Content) (seen : IsSeen c) (s p o : Option ℕ) where
  abbrev Is : List ℕ → Type 0
  Is x = IsNamedQuad c s p o x

  says : (x : List ℕ) → (h : Is x) → said c.known x ≡ (scan_of c s p o x h).match.quad
  says x h =
      let w = (scan_of c s p o x h).match in
      said_is c.known x w.quad (w.graph_is ∙ sym w.graph) w.subject_is w.predicate_is w.object_is

  in_named : (x : List ℕ) → Is x → Contains (filter names_graph c.quads) (said c.known x)
  in_named x h =
      let w = (scan_of c s p o x h).match in
      subst (Contains (filter names_graph c.quads)) (sym (says x h)) (filter_has names_graph w.quad c.quads w.stands (named_some w.quad.graph w.name w.graph))

  said_once : (x z : List ℕ) → Is x → Is z → said c.known x ≡ said c.known z → x ≡ z
  said_once x z h k e =
      let v = scan_of c s p o x h in
      let w = scan_of c s p o z k in
      let a : slice_index x 0 ≡ slice_index z 0 = one_number c seen _ _ _ _ v.match.graph_is w.match.graph_is (ap (λ (q : Statement). or_blank q.graph) e) in
      let f : slice_index x 1 ≡ slice_index z 1 = one_number c seen _ _ _ _ v.match.subject_is w.match.subject_is (ap (λ (q : Statement). q.subject) e) in
      let g : slice_index x 2 ≡ slice_index z 2 = one_number c seen _ _ _ _ v.match.predicate_is w.match.predicate_is (ap (λ (q : Statement). q.predicate) e) in
      let i : slice_index x 3 ≡ slice_index z 3 = one_number c seen _ _ _ _ v.match.object_is w.match.object_is (ap (λ (q : Statement). q.object) e) in
      v.is
      ∙ (ap (λ n. n ∷ slice_index x 1 ∷ slice_index x 2 ∷ slice_index x 3 ∷ []) a
      ∙ (ap (λ n. slice_index z 0 ∷ n ∷ slice_index x 2 ∷ slice_index x 3 ∷ []) f
      ∙ (ap (λ n. slice_index z 0 ∷ slice_index z 1 ∷ n ∷ slice_index x 3 ∷ []) g
      ∙ (ap (λ n. slice_index z 0 ∷ slice_index z 1 ∷ slice_index z 2 ∷ n ∷ []) i ∙ sym w.is))))

  scanned_once : (q : Permutation) (xs : List (List ℕ)) → ((z : List ℕ) → Contains xs z → Is z) → IsAscending (map (turned q) xs) → Distinct same_statement (map (said c.known) xs)
  scanned_once q xs = said_distinct same_statement same_statement-Decides (said c.known) (turned q) Is said_once xs

-- ---- what a quad makes of a solution

none_kept : {X : Type 0} (test : X → Bool) (xs : List X) → ((x : X) → Contains xs x → test x ≡ false) → filter test xs ≡ []
none_kept test [] h = refl
none_kept test (x ∷ xs) h = rw (h x (here x xs)) (none_kept test xs (λ z k. h z (there x z xs k)))

same_as : (xs ys : List Solution) → xs ≡ ys → SameBag xs ys
same_as xs ys e = subst (SameBag xs) e (IsPermutation-refl xs)

module _ (r : ℕ) (q : TriplePattern) (m : Solution) where
  -- with the variables of the pattern bound, and the register to the graph's name
  abbrev quad_extension : Statement → Option Solution
  quad_extension quad = option_map (λ a. slice_set a r quad.graph) (bound_triple q (triple_of quad) m)

  abbrev made_by : Statement → List Solution
  made_by quad = option_to_list (quad_extension quad)

  abbrev test : Statement → Bool
  test quad = may_match m q (triple_of quad)

  -- what disagrees makes nothing
  agreeing : (quads : List Statement) → flat_map made_by quads ≡ flat_map made_by (filter test quads)
  agreeing [] = refl
  agreeing (quad ∷ quads) = at (test quad) refl (agreeing quads)
    where
      at : (b : Bool) → test quad ≡ b → flat_map made_by quads ≡ flat_map made_by (filter test quads) → made_by quad ++ flat_map made_by quads ≡ flat_map made_by (cond b (quad ∷ filter test quads) (filter test quads))
      at true e i = ap (λ l. made_by quad ++ l) i
      at false e i = rw (cannot_match q (triple_of quad) m e) i

  same_made : (xs ys : List Statement) → SameBag (filter test xs) (filter test ys) → SameBag (flat_map made_by xs) (flat_map made_by ys)
  same_made xs ys h =
      subst (λ (l : List Solution). SameBag l (flat_map made_by ys)) (sym (agreeing xs))
      (subst (SameBag (flat_map made_by (filter test xs))) (sym (agreeing ys))
      (flat_map_same made_by made_by _ _ h (λ quad. IsPermutation-refl (made_by quad))))

  module _ (known : List Term) (apart : misses r (prepared_triple known q) ≡ true) where
    -- the quads of one graph
    graph_made : (name : Term) (quads : List Statement) → ((quad : Statement) → Contains quads quad → quad.graph ≡ Some name) → flat_map made_by quads ≡ extensions q (map triple_of quads) (slice_set m r (Some name))
    graph_made name [] h = refl
    graph_made name (quad ∷ quads) h =
        let e : made_by quad ≡ option_to_list (bound_triple q (triple_of quad) (slice_set m r (Some name))) =
        ap (λ g. option_to_list (option_map (λ a. slice_set a r g) (bound_triple q (triple_of quad) m))) (h quad (here quad quads))
        ∙ ap option_to_list (sym (triple_held r (Some name) known q (triple_of quad) m apart)) in
        ap (λ l. l ++ flat_map made_by quads) e
        ∙ ap (λ l. option_to_list (bound_triple q (triple_of quad) (slice_set m r (Some name))) ++ l) (graph_made name quads (λ z k. h z (there quad z quads k)))

    module _ (quads : List Statement) (cell : r < length m) where
      abbrev of_graph : Term → List Statement
      of_graph name = filter (λ z. same_graph z.graph (Some name)) quads

      one_graph : (name : Term) → flat_map made_by (of_graph name) ≡ extensions q (graph_named quads (bound_term (slice_set m r (Some name)) r)) (slice_set m r (Some name))
      one_graph name =
          graph_made name (of_graph name) (λ z k. (same_graph-Decides z.graph (Some name)).0 (member_of_filter (λ y. same_graph y.graph (Some name)) z quads k).1)
          ∙ ap (λ x. extensions q (graph_named quads x) (slice_set m r (Some name))) (sym (get_or-set_same m r (Some name) None cell))

      -- all named graphs
      named_made : SameBag (flat_map made_by (filter names_graph quads)) (each_extension quads r q m)
      named_made =
          subst (SameBag (flat_map made_by (filter names_graph quads)))
          (sym (flat_map-map (λ n. extensions q (graph_named quads (bound_term n r)) n) (λ name. slice_set m r (Some name)) (names_of quads)))
          (IsPermutation-trans _ _ _ (parted made_by quads)
          (flat_map_same (λ name. flat_map made_by (of_graph name)) (λ name. extensions q (graph_named quads (bound_term (slice_set m r (Some name)) r)) (slice_set m r (Some name))) (names_of quads) (names_of quads)
          (IsPermutation-refl (names_of quads)) (λ name. same_as _ _ (one_graph name))))

-- ---- what is made of the row

pub if_map : (b : Bool) (f : Cells → Cells) (a : Cells) → (if b then Some (f a) else None) ≡ option_map f (if b then Some a else None)
if_map true f a = refl
if_map false f a = refl

module _ (known table : List Term) (is_table : IsTable known table) (r n : ℕ) (name : Term) (is : term_at known n ≡ Some name) where
  -- a row and its solution, with the register bound
  held_bound : (a : Option Cells) (b : Option Solution) → Bound known table is_table a b → Bound known table is_table (option_map (λ m. slice_set m r (Some (Known n))) a) (option_map (λ m. slice_set m r (term_at known n)) b)
  held_bound None b h = subst (λ (y : Option Solution). Bound known table is_table None (option_map (λ m. slice_set m r (term_at known n)) y)) h.is (record { is = refl; fit = h.fit })
  held_bound (Some a) b h =
      subst (λ (y : Option Solution). Bound known table is_table (Some (slice_set a r (Some (Known n)))) (option_map (λ m. slice_set m r (term_at known n)) y)) h.is
      (subst (λ (y : Solution). Bound known table is_table (Some (slice_set a r (Some (Known n)))) (Some y)) (bound_terms known table a r (Known n))
      (this_bound known table is_table (slice_set a r (Some (Known n))) (bound_fits known table a r (Known n) (h.fit a refl) (some_of (term_at known n) name is))))

module _ (c : Content) (seen : IsSeen c) (table : List Term) (is_table : IsTable c.known table) (m : Cells) (row_fits : FitsRow c.known table m) (r : ℕ) (q : TriplePattern) where
  abbrev sol : Solution
  sol = row_solution c.known table m

  abbrev made : List ℕ → Option Cells
  made x = quad_made (acts_of (prepared_triple c.known q) m) r None m x

  record Made (xs : List (List ℕ)) : Type 0 where
    is : map (row_solution c.known table) (filter_map made xs) ≡ flat_map (made_by r q sol) (map (said c.known) xs)
    fit : AllByRecursion (FitsRow c.known table) (filter_map made xs)

  one_more : (x : List ℕ) (xs : List (List ℕ)) (a : Option Cells) → made x ≡ a → Bound c.known table is_table a (quad_extension r q sol (said c.known x)) → Made xs → Made (x ∷ xs)
  one_more x xs None e b h = record {
    is = rw (e, sym b.is) h.is;
    fit = rw e h.fit;
  }
  one_more x xs (Some a) e b h = record {
    is = rw (e, sym b.is) (ap (λ l. row_solution c.known table a ∷ l) h.is);
    fit = rw e (b.fit a refl, h.fit);
  }

  -- ---- a scan with what is given

  module _ (g : Given) (are : GivenAre (prepared_triple c.known q) m g) where
    abbrev IsIn : List ℕ → Type 0
    IsIn x = IsNamedQuad c g.subject g.predicate g.object x

    made_is : (x : List ℕ) → IsIn x → Bound c.known table is_table (made x) (quad_extension r q sol (said c.known x))
    made_is x h =
        let w = (scan_of c g.subject g.predicate g.object x h).match in
        let k : PreparedTriple = prepared_triple c.known q in
        let b : Bound c.known table is_table (row_made (acts_of k m) m (triple_in x)) (bound_triple q (triple_of w.quad) sol) =
        subst (λ (y : Option Cells). Bound c.known table is_table y (bound_triple q (triple_of w.quad) sol)) (sym (made_bound k m g (triple_in x) are w.subject_given w.predicate_given w.object_given))
        (triple_bound c.known table is_table seen.lawful.terms_once q (triple_in x) (triple_of w.quad) m row_fits w.subject_is w.predicate_is w.object_is) in
        let d : Bound c.known table is_table (made x) (option_map (λ a. slice_set a r (term_at c.known (slice_index x 0))) (bound_triple q (triple_of w.quad) sol)) =
        subst (λ (y : Option Cells). Bound c.known table is_table y (option_map (λ a. slice_set a r (term_at c.known (slice_index x 0))) (bound_triple q (triple_of w.quad) sol)))
        (sym (if_map (passes (acts_of k m) (triple_in x)) (λ a. slice_set a r (Some (Known (slice_index x 0)))) (bound (acts_of k m) (triple_in x) m)))
        (held_bound c.known table is_table r (slice_index x 0) w.name w.graph_is _ _ b) in
        subst (λ (z : Statement). Bound c.known table is_table (made x) (option_map (λ a. slice_set a r (term_at c.known (slice_index x 0))) (bound_triple q (triple_of z) sol)))
        (sym (says c seen g.subject g.predicate g.object x h)) d

    all_made : (xs : List (List ℕ)) → ((x : List ℕ) → Contains xs x → IsIn x) → Made xs
    all_made [] h = record { is = refl; fit = tt }
    all_made (x ∷ xs) h = one_more x xs (made x) refl (made_is x (h x (here x xs))) (all_made xs (λ z k. h z (there x z xs k)))

    module _ (entries : List (List ℕ)) (l : AreNamedQuads c g.subject g.predicate g.object entries) where
      -- a quad of a named graph that may agree is among those that were handed out
      handed_out : (quad : Statement) → Contains c.quads quad → is_named quad.graph ≡ true → may_match sol q (triple_of quad) ≡ true → Contains (map (said c.known) entries) quad
      handed_out quad stands named h =
          let name = some_named quad.graph named in
          let known : HasKnownTerms c.known quad = seen.knows quad stands in
          let n = number_there c.known name.0 (known.graph name.0 name.1) in
          let s = number_there c.known quad.subject known.subject in
          let p = number_there c.known quad.predicate known.predicate in
          let o = number_there c.known quad.object known.object in
          let f = all_fit c seen table is_table m row_fits q quad g s.number p.number o.number are s.is p.is o.is h in
          let match : IsNamedMatch c g.subject g.predicate g.object n.number s.number p.number o.number = record {
            quad = quad;
            name = name.0;
            stands = stands;
            graph = name.1;
            graph_is = n.is;
            subject_is = s.is;
            predicate_is = p.is;
            object_is = o.is;
            subject_given = f.subject;
            predicate_given = f.predicate;
            object_given = f.object;
          } in
          let x : List ℕ = n.number ∷ s.number ∷ p.number ∷ o.number ∷ [] in
          subst (Contains (map (said c.known) entries)) (said_is c.known x quad (n.is ∙ sym name.1) s.is p.is o.is) (map_has (said c.known) x entries (l.has x match))

      same_agreeing : SameBag (filter (test r q sol) (map (said c.known) entries)) (filter (test r q sol) (filter names_graph c.quads))
      same_agreeing =
          let t : Statement → Bool = test r q sol in
          let out : List Statement = map (said c.known) entries in
          let all : List Statement = filter names_graph c.quads in
          same_members same_statement same_statement-Decides (filter t out) (filter t all)
          (distinct_kept same_statement same_statement-Decides t out (scanned_once c seen _ _ _ (named_order_used g.subject g.predicate g.object) entries l.only l.ascending))
          (distinct_kept same_statement same_statement-Decides t all (distinct_kept same_statement same_statement-Decides names_graph c.quads seen.lawful.quads_once))
          (λ z h. let f = member_of_filter t z out h in let e = member_of_map (said c.known) z entries f.0 in filter_has t z all (subst (Contains all) e.is (in_named c seen _ _ _ e.of (l.only e.of e.stands))) f.1)
          (λ z h. let f = member_of_filter t z all h in let i = member_of_filter names_graph z c.quads f.0 in filter_has t z out (handed_out z i.0 i.1 f.1) f.1)

  -- ---- nothing that is given

  none_named : givens (prepared_triple c.known q) m ≡ None → filter (test r q sol) (filter names_graph c.quads) ≡ []
  none_named h =
      none_kept (test r q sol) (filter names_graph c.quads) (λ z k. none_agrees c seen table is_table m row_fits q z (seen.knows z (member_of_filter names_graph z c.quads k).0) h)

  -- ---- both

  record Scanned (entries : List (List ℕ)) : Type 0 where
    rows : Made entries
    same : SameBag (filter (test r q sol) (map (said c.known) entries)) (filter (test r q sol) (filter names_graph c.quads))

  by_givens : (g : Option Given) (entries : List (List ℕ)) → givens (prepared_triple c.known q) m ≡ g → AreScannedBy c g entries → Scanned entries
  by_givens None entries e h =
      subst Scanned (sym h) (record { rows = record { is = refl; fit = tt }; same = subst (SameBag []) (sym (none_named e)) (IsPermutation-refl []) })
  by_givens (Some g) entries e h =
      let are = givens_are (prepared_triple c.known q) m g e in
      record { rows = all_made g are entries h.only; same = same_agreeing g are entries h }

  each_made : misses r (prepared_triple c.known q) ≡ true → r < length m → (entries : List (List ℕ)) → AreScanned c (prepared_triple c.known q) m entries → AreMade c.known table (each_extension c.quads r q) m (filter_map made entries)
  each_made apart cell entries h =
      let w = by_givens (givens (prepared_triple c.known q) m) entries refl h in
      let long : r < length sol = subst (λ (n : ℕ). r < n) (sym (length-map m (denoted_if c.known table))) cell in
      record {
        same = subst (λ (xs : List Solution). SameBag xs (each_extension c.quads r q sol)) (sym w.rows.is)
            (IsPermutation-trans _ _ _ (same_made r q sol (map (said c.known) entries) (filter names_graph c.quads) w.same) (named_made r q sol c.known apart c.quads long));
        fit = w.rows.fit;
      }

pub quads_made : (c : Content) (r : ℕ) (k : PreparedTriple) (m : Cells) (q : TriplePattern) (entries : List (List ℕ)) → IsSeen c → AreScanned c k m entries → misses r k ≡ true → r < length m → k ≡ prepared_triple c.known q
    → Makes c.known (each_extension c.quads r q) m (filter_map (quad_made (acts_of k m) r None m) entries)
quads_made c r k m q entries seen l apart cell e table is_table f =
    subst (λ (z : PreparedTriple). AreMade c.known table (each_extension c.quads r q) m (filter_map (quad_made (acts_of z m) r None m) entries)) (sym e)
    (each_made c seen table is_table m f r q (subst (λ (z : PreparedTriple). misses r z ≡ true) e apart) cell entries (subst (λ (z : PreparedTriple). AreScanned c z m entries) e l))
