-- The names of graphs, by their numbers.
use Rattle.std.proofs.Common.{◌≡◌, ℕ, zero, suc, ◌+◌, ◌<◌, Bool, true, false, Option, Some, None, List, [], ◌∷◌, map, drop, length, slice_get, slice_index, slice_index_or, slice_set, add-one, ⊎_elim, refl, sym, ◌∙◌, ap, subst, arith}
use Rattle.std.specs.Iterator.{YieldsFirst}
use Rattle.std.specs.List.{AllByRecursion, Contains, cons_option, filter_map, list_any}
use Rattle.std.specs.List.Sorted.{IsStrictlyIncreasing}
use Rattle.std.specs.Option.{is_some}
use Rattle.std.proofs.lemmas.List.{get_or_default}
use Rattle.std.proofs.lemmas.List.Sorted.{IsPermutation-map}
use Rattle.std.proofs.lemmas.Option.{none-some}
use Rattle.qs_terms.specs.Bag.{Distinct, SameBag}
use Rattle.qs_terms.specs.Dataset.{names_of}
use Rattle.qs_terms.specs.Statement.{Statement}
use Rattle.qs_terms.specs.Term.{same_term}
use Rattle.qs_terms.specs.declared.term.Term.{Term}
use Rattle.qs_terms.proofs.FirstOnes.{once_distinct}
use Rattle.qs_terms.proofs.SameTerm.{same_term-Decides}
use Rattle.qs_dict.specs.inner.Dict.{number_of, term_at}
use Rattle.qs_dict.proofs.Numbers.{exact_number}
use Rattle.qs_store.specs.inner.ActiveGraph.{IsSeen}
use Rattle.qs_store.specs.Content.{Content}
use Rattle.qs_store.specs.inner.Entries.{or_blank, term_or}
use Rattle.qs_store.specs.inner.Graphs.{AreGraphs, IsGraph}
use Rattle.qs_store.specs.inner.Triples.{AreTriples, IsActive, IsMatch, IsTriple}
use Rattle.qs_store.specs.declared.active.Active.TheVariants as active
use Rattle.qs_store.specs.declared.default_graph.DefaultGraph.{DefaultGraph}
use Rattle.qs_store.proofs.Members.{here, nothing, head_or_tail, there}
use Rattle.qs_store.proofs.TriplesSaid.{same_number}
use Rattle.qs_algebra_solutions.specs.Solution.{Solution}
use Rattle.qs_expr.specs.declared.cell.Cell.TheVariants.{Known, Scratch}
use Rattle.qs_expr.specs.inner.Cell.{Cells, denoted, row_solution, FitsRow}
use Rattle.qs_expr.specs.inner.Scratch.{IsTable}
use Rattle.qs_expr.proofs.Finding.{some_of}
use Rattle.qs_expr.proofs.Rows.{bound_fits, bound_terms}
use Rattle.qs_paths.proofs.Lists.{any_of, map_has, member_of_map, of_any, once_has, once_only, same_members}
use Rattle.qs_paths.proofs.Scanned.{number_there}
use Rattle.qs_plan_meaning.specs.inner.Stages.{each_named}
use Rattle.qs_ops_scans.specs.inner.Makes.{AreMade, Makes}
use Rattle.qs_ops_scans.specs.inner.Names.{rows_named}

-- ---- the names that quads have

named_has : (name : Term) (quads : List Statement) (q : Statement) → Contains quads q → q.graph ≡ Some name → Contains (filter_map (λ r. r.graph) quads) name
named_has name [] q k e = absurd (nothing q k)
named_has name (r ∷ quads) q k e =
    ⊎_elim (λ (s : r ≡ q). first r.graph (ap (λ (z : Statement). z.graph) s ∙ e)) (λ t. later r.graph (named_has name quads q t e)) (head_or_tail r quads q k)
  where
    first : (o : Option Term) → o ≡ Some name → Contains (cons_option o (filter_map (λ z. z.graph) quads)) name
    first None f = absurd (let g : None ≡ Some name = f in cc)
    first (Some x) f = let g : x ≡ name = cc in subst (λ (y : Term). Contains (x ∷ filter_map (λ z. z.graph) quads) y) g (here x (filter_map (λ z. z.graph) quads))

    later : (o : Option Term) → Contains (filter_map (λ z. z.graph) quads) name → Contains (cons_option o (filter_map (λ z. z.graph) quads)) name
    later None f = f
    later (Some x) f = there x name (filter_map (λ z. z.graph) quads) f

record Named (quads : List Statement) (name : Term) : Type 0 where
  quad : Statement
  stands : Contains quads quad
  graph : quad.graph ≡ Some name

named_only : (name : Term) (quads : List Statement) → Contains (filter_map (λ r. r.graph) quads) name → Named quads name
named_only name [] k = absurd (nothing name k)
named_only name (r ∷ quads) k = at r.graph refl k (named_only name quads)
  where
    on : Named quads name → Named (r ∷ quads) name
    on w = record { quad = w.quad; stands = there r w.quad quads w.stands; graph = w.graph }

    at : (o : Option Term) → r.graph ≡ o → Contains (cons_option o (filter_map (λ z. z.graph) quads)) name → (Contains (filter_map (λ z. z.graph) quads) name → Named quads name) → Named (r ∷ quads) name
    at None e c h = on (h c)
    at (Some x) e c h = ⊎_elim (λ (s : x ≡ name). record { quad = r; stands = here r quads; graph = e ∙ ap Some s }) (λ t. on (h t)) (head_or_tail x (filter_map (λ z. z.graph) quads) name c)

pub name_has : (name : Term) (quads : List Statement) (q : Statement) → Contains quads q → q.graph ≡ Some name → Contains (names_of quads) name
name_has name quads q k e = once_has same_term same_term-Decides name (filter_map (λ r. r.graph) quads) (named_has name quads q k e)

name_only : (name : Term) (quads : List Statement) → Contains (names_of quads) name → Named quads name
name_only name quads k = named_only name quads (once_only same_term same_term-Decides name (filter_map (λ r. r.graph) quads) k)

-- ---- whether a graph has quads

module _ (c : Content) (d : DefaultGraph) (n : ℕ) (seen : IsSeen c) (name : Term) (is : term_at c.known n ≡ Some name) where
  graph_is : (g : Option Term) → IsActive c.known d (active.Graph n) g → g ≡ Some name
  graph_is None h = absurd (zero_names n h is)
    where
      zero_names : (i : ℕ) → i ≡ 0 → term_at c.known i ≡ Some name → ⊥
      zero_names zero e f = none-some name f
      zero_names (suc i) e f = omega arith
  graph_is (Some x) h = sym h ∙ is

  triple_names : (x : List ℕ) → IsTriple c d (active.Graph n) None None None x → list_any (same_term name) (names_of c.quads) ≡ true
  triple_names [] h = absurd h
  triple_names (s ∷ []) h = absurd h
  triple_names (s ∷ p ∷ []) h = absurd h
  triple_names (s ∷ p ∷ o ∷ []) h = any_of same_term same_term-Decides name (names_of c.quads) (name_has name c.quads h.quad h.stands (graph_is h.quad.graph h.read))
  triple_names (s ∷ p ∷ o ∷ t ∷ x) h = absurd h

  named_triple : (w : Named c.quads name) → IsMatch c d (active.Graph n) None None None (number_there c.known w.quad.subject (seen.knows w.quad w.stands).subject).number (number_there c.known w.quad.predicate (seen.knows w.quad w.stands).predicate).number (number_there c.known w.quad.object (seen.knows w.quad w.stands).object).number
  named_triple w = record {
    quad = w.quad;
    stands = w.stands;
    read = reads w.quad.graph w.graph;
    subject_is = (number_there c.known w.quad.subject (seen.knows w.quad w.stands).subject).is;
    predicate_is = (number_there c.known w.quad.predicate (seen.knows w.quad w.stands).predicate).is;
    object_is = (number_there c.known w.quad.object (seen.knows w.quad w.stands).object).is;
    subject_given = refl;
    predicate_given = refl;
    object_given = refl;
  }
    where
      reads : (g : Option Term) → g ≡ Some name → IsActive c.known d (active.Graph n) g
      reads None e = absurd (let f : None ≡ Some name = e in cc)
      reads (Some x) e = is ∙ sym e

  none_left : (xs : List (List ℕ)) (i j k : ℕ) → AreTriples c d (active.Graph n) None None None xs → xs ≡ [] → IsMatch c d (active.Graph n) None None None i j k → ⊥
  none_left xs i j k l e h =
      let x : List ℕ = i ∷ j ∷ k ∷ [] in
      nothing x (subst (λ (z : List (List ℕ)). Contains z x) e (l.has x h))

  none_names : (xs : List (List ℕ)) → AreTriples c d (active.Graph n) None None None xs → xs ≡ [] → (b : Bool) → list_any (same_term name) (names_of c.quads) ≡ b → b ≡ false
  none_names xs l e false f = refl
  none_names xs l e true f =
      let w = name_only name c.quads (of_any same_term same_term-Decides name (names_of c.quads) f) in
      absurd (none_left xs _ _ _ l e (named_triple w))

  pub tells_named : (xs ys : List (List ℕ)) (o : Option (List ℕ)) (b : Bool) → AreTriples c d (active.Graph n) None None None xs → YieldsFirst (λ (l : List (List ℕ)). l) xs o ys → b ≡ is_some o
      → b ≡ list_any (same_term name) (names_of c.quads)
  tells_named xs ys None b l y e = e ∙ sym (none_names xs l y.0 (list_any (same_term name) (names_of c.quads)) refl)
  tells_named xs ys (Some x) b l y e = e ∙ sym (triple_names x (l.only x (subst (λ (z : List (List ℕ)). Contains z x) (sym y) (here x ys))))

-- a term that is not known names no graph
unknown_names : (c : Content) (name : Term) → IsSeen c → ((n : ℕ) → term_at c.known n ≡ Some name → ⊥) → false ≡ list_any (same_term name) (names_of c.quads)
unknown_names c name seen h = at (list_any (same_term name) (names_of c.quads)) refl
  where
    at : (b : Bool) → list_any (same_term name) (names_of c.quads) ≡ b → false ≡ b
    at false e = refl
    at true e =
        let w = name_only name c.quads (of_any same_term same_term-Decides name (names_of c.quads) e) in
        let n = number_there c.known name ((seen.knows w.quad w.stands).graph name w.graph) in
        absurd (h n.number n.is)

-- nor does the term of a scratch cell
pub scratch_names : (c : Content) (table : List Term) (name : Term) (k : ℕ) → IsSeen c → IsTable c.known table → denoted c.known table (Scratch k) ≡ Some name → false ≡ list_any (same_term name) (names_of c.quads)
scratch_names c table name k seen t e = unknown_names c name seen (λ n f. let g : Known n ≡ Scratch k = t.one (Known n) (Scratch k) name f e in cc)

-- a term without a number names no graph
pub unnumbered_names : (c : Content) (name : Term) → IsSeen c → number_of c.known name ≡ None → false ≡ list_any (same_term name) (names_of c.quads)
unnumbered_names c name seen h =
    unknown_names c name seen (λ n f. let g : None ≡ Some n = sym h ∙ (exact_number c.known name seen.lawful.terms_once n).1 f in cc)

pub numbered_term : (c : Content) (name : Term) (n : ℕ) → IsSeen c → number_of c.known name ≡ Some n → term_at c.known n ≡ Some name
numbered_term c name n seen h = (exact_number c.known name seen.lawful.terms_once n).0 h

-- ---- rows, one by one

pub none_named : (r : ℕ) (m : Cells) (numbers : List ℕ) (i : ℕ) → slice_get numbers i ≡ None → rows_named r m (drop i numbers) ≡ []
none_named r m [] zero h = refl
none_named r m [] (suc i) h = refl
none_named r m (n ∷ numbers) zero h = absurd (none-some n (sym h))
none_named r m (n ∷ numbers) (suc i) h = none_named r m numbers i h

pub first_named : (r : ℕ) (m : Cells) (numbers : List ℕ) (i n : ℕ) → slice_get numbers i ≡ Some n → rows_named r m (drop i numbers) ≡ slice_set m r (Some (Known n)) ∷ rows_named r m (drop (i + 1) numbers)
first_named r m numbers i n h = rw add-one (at numbers i h)
  where
    at : (xs : List ℕ) (j : ℕ) → slice_get xs j ≡ Some n → rows_named r m (drop j xs) ≡ slice_set m r (Some (Known n)) ∷ rows_named r m (drop (suc j) xs)
    at [] j e = absurd (none-some n e)
    at (x ∷ xs) zero e = let f : x ≡ n = cc in ap (λ y. slice_set m r (Some (Known y)) ∷ rows_named r m xs) f
    at (x ∷ xs) (suc j) e = at xs j e

-- ---- all of them

-- the first is below the others
head_below : (x : ℕ) (xs : List ℕ) → IsStrictlyIncreasing (x ∷ xs) → (k : ℕ) → k < length xs → x < slice_index xs k
head_below x xs up zero h = up 0 (omega arith)
head_below x xs up (suc k) h =
    let a : x < slice_index xs k = head_below x xs up k (omega arith) in
    let b : slice_index (x ∷ xs) (suc k) < slice_index (x ∷ xs) (suc k + 1) = up (suc k) (omega arith) in
    let e : suc k + 1 ≡ suc (suc k) = omega arith in
    let d : slice_index xs k < slice_index xs (suc k) = subst (λ (i : ℕ). slice_index xs k < slice_index (x ∷ xs) i) e b in
    omega (arith, a, d)

tail_increasing : (x : ℕ) (xs : List ℕ) → IsStrictlyIncreasing (x ∷ xs) → IsStrictlyIncreasing xs
tail_increasing x xs up k h =
    let b : slice_index (x ∷ xs) (suc k) < slice_index (x ∷ xs) (suc k + 1) = up (suc k) (omega arith) in
    let e : suc k + 1 ≡ suc (k + 1) = omega arith in
    subst (λ (i : ℕ). slice_index xs k < slice_index (x ∷ xs) i) e b

not_again : (x : ℕ) (xs : List ℕ) → IsStrictlyIncreasing (x ∷ xs) → Contains xs x → ⊥
not_again x xs up k =
    let a : x < slice_index xs k.0 = head_below x xs up k.0 k.1 in
    let e : slice_index_or xs k.0 0 ≡ slice_index_or xs k.0 x = get_or_default xs k.0 0 x k.1 in
    let f : slice_index_or xs k.0 x ≡ x = k.2 in
    omega (arith, a, e, f)

ascending_once : (c : Content) → IsSeen c → (numbers : List ℕ) → ((n : ℕ) → Contains numbers n → IsGraph c n) → IsStrictlyIncreasing numbers → Distinct same_term (map (term_or c.known) numbers)
ascending_once c seen [] only up = tt
ascending_once c seen (x ∷ xs) only up =
    (at (list_any (same_term (term_or c.known x)) (map (term_or c.known) xs)) refl, ascending_once c seen xs (λ n k. only n (there x n xs k)) (tail_increasing x xs up))
  where
    at : (b : Bool) → list_any (same_term (term_or c.known x)) (map (term_or c.known) xs) ≡ b → b ≡ false
    at false e = refl
    at true e =
        let m = member_of_map (term_or c.known) (term_or c.known x) xs (of_any same_term same_term-Decides (term_or c.known x) (map (term_or c.known) xs) e) in
        let g = only x (here x xs) in
        let h = only m.of (there x m.of xs m.stands) in
        let t : h.name ≡ g.name = sym (ap or_blank h.number_is) ∙ (m.is ∙ ap or_blank g.number_is) in
        let q : m.of ≡ x = same_number c.known seen.lawful.terms_once m.of x g.name (h.number_is ∙ ap Some t) g.number_is in
        absurd (not_again x xs up (subst (Contains xs) q m.stands))

named_made : (c : Content) (seen : IsSeen c) (numbers : List ℕ) (are : AreGraphs c numbers) → SameBag (map (term_or c.known) numbers) (names_of c.quads)
named_made c seen numbers are =
    same_members same_term same_term-Decides (map (term_or c.known) numbers) (names_of c.quads) (ascending_once c seen numbers are.only are.ascending)
    (once_distinct same_term same_term-Decides (filter_map (λ q. q.graph) c.quads))
    (λ t k. let m = member_of_map (term_or c.known) t numbers k in let g = are.only m.of m.stands in subst (Contains (names_of c.quads)) (sym (ap or_blank g.number_is) ∙ m.is) (name_has g.name c.quads g.quad g.stands g.graph))
    (λ t k. let w = name_only t c.quads k in let n = number_there c.known t ((seen.knows w.quad w.stands).graph t w.graph) in
    subst (Contains (map (term_or c.known) numbers)) (ap or_blank n.is)
    (map_has (term_or c.known) n.number numbers (are.has n.number (record { quad = w.quad; name = t; stands = w.stands; graph = w.graph; number_is = n.is }))))

module _ (c : Content) (seen : IsSeen c) (table : List Term) (is_table : IsTable c.known table) (r : ℕ) (m : Cells) (h : FitsRow c.known table m) where
  record Made (numbers : List ℕ) : Type 0 where
    is : map (row_solution c.known table) (rows_named r m numbers) ≡ map (λ name. slice_set (row_solution c.known table m) r (Some name)) (map (term_or c.known) numbers)
    fit : AllByRecursion (FitsRow c.known table) (rows_named r m numbers)

  used : (n : ℕ) → IsGraph c n → term_at c.known n ≡ Some (term_or c.known n)
  used n g = g.number_is ∙ ap Some (sym (ap or_blank g.number_is))

  all_made : (numbers : List ℕ) → ((n : ℕ) → Contains numbers n → IsGraph c n) → Made numbers
  all_made [] only = record { is = refl; fit = tt }
  all_made (n ∷ numbers) only =
      let w = all_made numbers (λ k e. only k (there n k numbers e)) in
      let e = used n (only n (here n numbers)) in
      record {
        is = ap (λ x. x ∷ map (row_solution c.known table) (rows_named r m numbers)) (bound_terms c.known table m r (Known n) ∙ ap (slice_set (row_solution c.known table m) r) e)
            ∙ ap (λ l. slice_set (row_solution c.known table m) r (Some (term_or c.known n)) ∷ l) w.is;
        fit = (bound_fits c.known table m r (Known n) h (some_of _ (term_or c.known n) e), w.fit);
      }

  made : (numbers : List ℕ) → AreGraphs c numbers → AreMade c.known table (each_named c.quads r) m (rows_named r m numbers)
  made numbers are =
      let w = all_made numbers are.only in
      record {
        same = subst (λ (xs : List Solution). SameBag xs (each_named c.quads r (row_solution c.known table m))) (sym w.is)
            (IsPermutation-map (λ name. slice_set (row_solution c.known table m) r (Some name)) _ _ (named_made c seen numbers are));
        fit = w.fit;
      }

pub names_made : (c : Content) (numbers : List ℕ) (r : ℕ) (m : Cells) → IsSeen c → AreGraphs c numbers → Makes c.known (each_named c.quads r) m (rows_named r m numbers)
names_made c numbers r m seen are table is_table h = made c seen table is_table r m h numbers are
