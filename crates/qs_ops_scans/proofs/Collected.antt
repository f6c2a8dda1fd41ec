-- The pairs of a path, kept one after another.
use Rattle.std.proofs.Common.{◌≡◌, ℕ, zero, suc, Bool, true, false, cond, not, ◌||◌, Option, Some, None, if◌then◌else◌, List, [], ◌∷◌, ◌++◌, map, slice_get, Ok, refl, sym, ◌∙◌, ap, subst}
use Rattle.std.specs.Prelude.{IfSome, Vec}
use Rattle.std.specs.List.{filter, Contains}
use Rattle.std.proofs.lemmas.List.{append_assoc, append-nil, map-append}
use Rattle.std.proofs.lemmas.List.Sorted.{Contains-permutation, IsPermutation-append_comm, IsPermutation-append_right, IsPermutation-map, IsPermutation-refl, IsPermutation-sym, IsPermutation-trans}
use Rattle.std.proofs.lemmas.Option.{none-some}
use Rattle.qs_terms.specs.Bag.{SameBag}
use Rattle.qs_terms.specs.declared.term.Term.{Term}
use Rattle.qs_store.specs.Content.{Content}
use Rattle.qs_store.specs.declared.default_graph.DefaultGraph.{DefaultGraph}
use Rattle.qs_store.proofs.Members.{here, there}
use Rattle.qs_paths_meaning.specs.Pair.{Pair}
use Rattle.qs_paths_meaning.specs.inner.Pair.{same_pair}
use Rattle.qs_paths_meaning.specs.Pairs.{pairs}
use Rattle.qs_paths_meaning.proofs.Arms.{filter_same_by, same_pair-Decides}
use Rattle.qs_algebra_patterns.specs.Basic.{end_of, is_repeated, Graph}
use Rattle.qs_algebra_patterns.specs.declared.pattern.PathPattern.{PathPattern}
use Rattle.qs_expr.specs.declared.cell.Cell.{Cell}
use Rattle.qs_expr.specs.declared.cell.Cell.TheVariants.{Known, Scratch}
use Rattle.qs_expr.specs.inner.Cell.{denoted, denoted_if, same_cell, FitsIf}
use Rattle.qs_expr.specs.inner.Scratch.{Grows, IsTable}
use Rattle.qs_expr.proofs.Finding.{same_cells, some_of, term_there}
use Rattle.qs_paths.proofs.Lists.{map_has, member_of_map}
use Rattle.qs_paths.specs.inner.Coming.{AreAll, GivesPair, IsToCome}
use Rattle.qs_paths.specs.declared.stream.Pairs.{Pairs}
use Rattle.qs_paths.specs.inner.Seen.{known_in}
use Rattle.qs_plan_meaning.specs.inner.Scans.{path_pairs}
use Rattle.qs_ops_scans.specs.inner.Paths.{denoted_pair, pair_if, ArePairs}
use Rattle.qs_ops_scans.specs.inner.Kept.{keeps, kept_with, AreCollected, IsTaken}

module _ {V : Type 0} (content : V → Content) (default : V → DefaultGraph) (table : List Term) (repeated : Bool) where
  -- of all pairs these are kept, and the others are still to come
  pub record Collecting (pairs : Pairs V) (kept : List (Cell × Cell)) (ps : List Pair) : Type 0 where
    pub left : List Pair
    pub to_come : IsToCome content default table pairs left
    pub bag : SameBag (map Some (filter (keeps repeated) ps)) (map (denoted_pair (known_in content pairs.edges) table) kept ++ map Some (filter (keeps repeated) left))

  pub begun : (pairs : Pairs V) (ps : List Pair) → IsToCome content default table pairs ps → Collecting pairs [] ps
  begun pairs ps h = record { left = ps; to_come = h; bag = IsPermutation-refl _ }

  one_kept : (known : List Term) (kept : List (Cell × Cell)) (cells : Cell × Cell) (e : Pair) (rest : List (Option Pair)) → denoted known table cells.0 ≡ Some e.left → denoted known table cells.1 ≡ Some e.right
      → map (denoted_pair known table) kept ++ Some e ∷ rest ≡ map (denoted_pair known table) (kept ++ cells ∷ []) ++ rest
  one_kept known kept cells e rest l r =
      let f : denoted_pair known table cells ≡ Some e = rw (l, r) refl in
      sym (append_assoc (map (denoted_pair known table) kept) (Some e ∷ []) rest)
      ∙ ap (λ q. q ++ rest) (ap (λ z. map (denoted_pair known table) kept ++ z ∷ []) (sym f) ∙ sym (map-append (denoted_pair known table) kept (cells ∷ [])))

  kept_on : (known : List Term) (kept : List (Cell × Cell)) (cells : Cell × Cell) (e : Pair) (rest : List Pair) (b d : Bool) → b ≡ d → denoted known table cells.0 ≡ Some e.left → denoted known table cells.1 ≡ Some e.right
      → map (denoted_pair known table) kept ++ map Some (cond b (e ∷ filter (keeps repeated) rest) (filter (keeps repeated) rest)) ≡ map (denoted_pair known table) (if d then kept ++ cells ∷ [] else kept) ++ map Some (filter (keeps repeated) rest)
  kept_on known kept cells e rest true true q l r = one_kept known kept cells e (map Some (filter (keeps repeated) rest)) l r
  kept_on known kept cells e rest false false q l r = refl
  kept_on known kept cells e rest true false q l r = absurd (let f : true ≡ false = q in cc)
  kept_on known kept cells e rest false true q l r = absurd (let f : false ≡ true = q in cc)

  pub gone_on : (old new : Pairs V) (cells : Cell × Cell) (kept : List (Cell × Cell)) (ps : List Pair) → IsTable (known_in content old.edges) table → GivesPair content default old (Some (Ok cells)) new → Collecting old kept ps → Collecting new (kept_with repeated kept cells) ps
  gone_on old new cells kept ps is_table gives h =
      let w = gives.answers table h.left h.to_come in
      let known = known_in content new.edges in
      let one : IsTable known table = subst (λ (k : List Term). IsTable k table) (sym gives.known) is_table in
      let test : keeps repeated w.pair ≡ (not repeated || same_cell cells.0 cells.1) = ap (λ b. not repeated || b) (sym (same_cells known table one cells.0 cells.1 w.pair.left w.pair.right w.left w.right)) in
      record {
        left = w.rest;
        to_come = w.others;
        bag =
            subst (λ (l : List (Option Pair)). SameBag (map Some (filter (keeps repeated) ps)) l) (kept_on known kept cells w.pair w.rest (keeps repeated w.pair) (not repeated || same_cell cells.0 cells.1) test w.left w.right)
            (IsPermutation-trans _ _ _
            (subst (λ (k : List Term). SameBag (map Some (filter (keeps repeated) ps)) (map (denoted_pair k table) kept ++ map Some (filter (keeps repeated) h.left))) (sym gives.known) h.bag)
            (IsPermutation-append_right (map (denoted_pair known table) kept) _ _ (IsPermutation-map Some _ _ (filter_same_by same_pair same_pair-Decides (keeps repeated) h.left (w.pair ∷ w.rest) w.bag))));
      }

  pub ended : (old new : Pairs V) (kept : List (Cell × Cell)) (ps : List Pair) → GivesPair content default old None new → Collecting old kept ps → ArePairs (known_in content old.edges) table kept (filter (keeps repeated) ps)
  ended old new kept ps gives h =
      let w = gives.answers table h.left h.to_come in
      let e : map Some (filter (keeps repeated) h.left) ≡ [] = ap (λ l. map Some (filter (keeps repeated) l)) w.none in
      IsPermutation-sym _ _
      (subst (λ (l : List (Option Pair)). SameBag (map Some (filter (keeps repeated) ps)) l) (ap (λ l. map (denoted_pair (known_in content old.edges) table) kept ++ l) e ∙ append-nil _) h.bag)

-- ---- while the table grows

get_more : (xs ys : List Term) (k : ℕ) (t : Term) → slice_get xs k ≡ Some t → slice_get (xs ++ ys) k ≡ Some t
get_more [] ys k t h = absurd (none-some t h)
get_more (x ∷ xs) ys zero t h = h
get_more (x ∷ xs) ys (suc k) t h = get_more xs ys k t h

-- a cell keeps its term
pub denoted_stays : (known old new : List Term) (c : Cell) (t : Term) → Grows known old new → denoted known old c ≡ Some t → denoted known new c ≡ Some t
denoted_stays known old new (Known n) t g h = h
denoted_stays known old new (Scratch k) t g h = subst (λ (l : List Term). slice_get l k ≡ Some t) (sym g.is) (get_more old g.more k t h)

fits_some : (known table : List Term) (d : Cell) (t : Term) → denoted known table d ≡ Some t → FitsIf known table (Some d)
fits_some known table d t k c e =
    let h : d ≡ c = (let q : Some d ≡ Some c = e in cc) in
    some_of _ t (subst (λ (x : Cell). denoted known table x ≡ Some t) h k)

-- the cell of an end fits, and denotes what it denoted
pub end_stays : (known old new : List Term) (o : Option Cell) → Grows known old new → FitsIf known old o → FitsIf known new o × (denoted_if known new o ≡ denoted_if known old o)
end_stays known old new None g f = ((λ c e. absurd (let h : None ≡ Some c = e in cc)), refl)
end_stays known old new (Some d) g f =
    let t = term_there (denoted known old d) (f d refl) in
    let k = denoted_stays known old new d t.0 g t.1 in
    (fits_some known new d t.0 k, k ∙ sym t.1)

-- ---- the loop

module _ {V : Type 0} (content : V → Content) (default : V → DefaultGraph) (repeated : Bool) where
  -- the dictionary stays, and by each table the pairs so far are kept or passed
  pub record IsUnderWay (first pairs : Pairs V) (kept : List (Cell × Cell)) : Type 0 where
    pub known : known_in content pairs.edges ≡ known_in content first.edges
    pub each : (table : List Term) (ps : List Pair) → IsTable (known_in content first.edges) table → IsToCome content default table first ps → Collecting content default table repeated pairs kept ps

  pub begins : (first : Pairs V) (kept : List (Cell × Cell)) → kept ≡ [] → IsUnderWay first first kept
  begins first kept e = record {
    known = refl;
    each = λ table ps is_table h. subst (λ (k : List (Cell × Cell)). Collecting content default table repeated first k ps) (sym e) (begun content default table repeated first ps h);
  }

  pub goes : (first old new : Pairs V) (kept kept' : List (Cell × Cell)) → IsUnderWay first old kept → IsTaken content default repeated old kept true new kept' → IsUnderWay first new kept'
  goes first old new kept kept' u w = record {
    known = w.gives.known ∙ u.known;
    each = λ table ps is_table h.
        subst (λ (k : List (Cell × Cell)). Collecting content default table repeated new k ps) (sym w.is)
        (gone_on content default table repeated old new w.cells kept ps (subst (λ (k : List Term). IsTable k table) (sym u.known) is_table) w.gives (u.each table ps is_table h));
  }

  pub ends : (first old new : Pairs V) (kept kept' : List (Cell × Cell)) → IsUnderWay first old kept → IsTaken content default repeated old kept false new kept' → AreCollected content default first repeated kept'
  ends first old new kept kept' u w table ps is_table h =
      subst (λ (k : List Term). ArePairs k table kept' (filter (keeps repeated) ps)) u.known
      (subst (λ (k : List (Cell × Cell)). ArePairs (known_in content old.edges) table k (filter (keeps repeated) ps)) (sym w.is)
      (ended content default table repeated old new kept ps w.gives (u.each table ps is_table h)))

  all_kept : (b : Bool) (es : List Pair) → b ≡ false → filter (keeps b) es ≡ es
  all_kept true es e = absurd (let f : true ≡ false = e in cc)
  all_kept false [] e = refl
  all_kept false (x ∷ es) e = ap (λ l. x ∷ l) (all_kept false es e)

  -- the others were found whole
  ends_all : (first pairs : Pairs V) (kept rest both : List (Cell × Cell)) → IsUnderWay first pairs kept → repeated ≡ false → AreAll content default pairs rest → both ≡ rest ++ kept → AreCollected content default first repeated both
  ends_all first pairs kept rest both u n all e table ps is_table h =
      let w = u.each table ps is_table h in
      let known = known_in content pairs.edges in
      let denote = denoted_pair known table in
      let r : SameBag (map denote rest) (map Some (filter (keeps repeated) w.left)) = subst (λ (l : List Pair). SameBag (map denote rest) (map Some l)) (sym (all_kept repeated w.left n)) (all table w.left w.to_come) in
      subst (λ (k : List Term). ArePairs k table both (filter (keeps repeated) ps)) u.known
      (subst (λ (l : List (Option Pair)). SameBag l (map Some (filter (keeps repeated) ps))) (sym (ap (map denote) e ∙ map-append denote rest kept))
      (IsPermutation-trans _ _ _ (IsPermutation-append_comm (map denote rest) (map denote kept))
      (IsPermutation-trans _ _ _ (IsPermutation-append_right (map denote kept) _ _ r) (IsPermutation-sym _ _ w.bag))))

  pub ends_whole : {Z : Type 0} (first pairs : Pairs V) (kept : List (Cell × Cell)) (o : Option (Vec (Cell × Cell) Z)) (rest : Vec (Cell × Cell) Z) (both : List (Cell × Cell)) → IsUnderWay first pairs kept → o ≡ Some rest
      → IfSome o (λ r. repeated ≡ false) → IfSome o (λ r. AreAll content default pairs r.items) → both ≡ rest.items ++ kept → AreCollected content default first repeated both
  ends_whole first pairs kept o rest both u is n all e =
      ends_all first pairs kept rest.items both u (subst (λ (q : Option (Vec (Cell × Cell) _)). IfSome q (λ r. repeated ≡ false)) is n) (subst (λ (q : Option (Vec (Cell × Cell) _)). IfSome q (λ r. AreAll content default pairs r.items)) is all) e

-- ---- the pairs of a pattern

pub pairs_are : {V : Type 0} (content : V → Content) (default : V → DefaultGraph) (known old mid new : List Term) (p : PathPattern) (graph : Graph) (first : Pairs V) (left right : Option Cell) (kept : List (Cell × Cell))
    → known_in content first.edges ≡ known → Grows known old mid → Grows known mid new
    → denoted_if known mid left ≡ end_of p.subject → FitsIf known mid left → denoted_if known new right ≡ end_of p.object → FitsIf known new right
    → ((table : List Term) → IsTable known table → FitsIf known table left → FitsIf known table right → IsToCome content default table first (pairs graph p.path (denoted_if known table left) (denoted_if known table right)))
    → AreCollected content default first (is_repeated p.subject p.object) kept → ArePairs known new kept (path_pairs p graph)
pairs_are content default known old mid new p graph first left right kept e g1 g2 l fl r fr h k =
    let w = end_stays known mid new left g2 fl in
    let to_come = h new g2.table w.0 fr in
    let ends : pairs graph p.path (denoted_if known new left) (denoted_if known new right) ≡ pairs graph p.path (end_of p.subject) (end_of p.object) =
    ap (λ x. pairs graph p.path x (denoted_if known new right)) (w.1 ∙ l) ∙ ap (pairs graph p.path (end_of p.subject)) r in
    subst (λ (n : List Term). ArePairs n new kept (path_pairs p graph)) e
    (k new (pairs graph p.path (end_of p.subject) (end_of p.object)) (subst (λ (n : List Term). IsTable n new) (sym e) g2.table) (subst (IsToCome content default new first) ends to_come))

-- ---- kept while the table grows

pair_stays : (known old new : List Term) (x : Cell × Cell) (o q : Option Term) (e : Pair) → Grows known old new → denoted known old x.0 ≡ o → denoted known old x.1 ≡ q → pair_if o q ≡ Some e → denoted_pair known new x ≡ Some e
pair_stays known old new x None q e g f h i = absurd (none-some e i)
pair_stays known old new x (Some t) None e g f h i = absurd (none-some e i)
pair_stays known old new x (Some t) (Some u) e g f h i = rw (denoted_stays known old new x.0 t g f, denoted_stays known old new x.1 u g h) i

denote_alike : (known old new : List Term) (xs : List (Cell × Cell)) → ((x : Cell × Cell) → Contains xs x → denoted_pair known old x ≡ denoted_pair known new x) → map (denoted_pair known old) xs ≡ map (denoted_pair known new) xs
denote_alike known old new [] f = refl
denote_alike known old new (x ∷ xs) f =
    ap (λ z. z ∷ map (denoted_pair known old) xs) (f x (here x xs)) ∙ ap (λ l. denoted_pair known new x ∷ l) (denote_alike known old new xs (λ z k. f z (there x z xs k)))

each_stays : (known old new : List Term) (cells : List (Cell × Cell)) (ps : List Pair) → Grows known old new → ArePairs known old cells ps → (x : Cell × Cell) → Contains cells x → denoted_pair known old x ≡ denoted_pair known new x
each_stays known old new cells ps g h x k =
    let w = member_of_map Some (denoted_pair known old x) ps (Contains-permutation _ _ (denoted_pair known old x) h (map_has (denoted_pair known old) x cells k)) in
    sym w.is ∙ sym (pair_stays known old new x (denoted known old x.0) (denoted known old x.1) w.of g refl refl (sym w.is))

-- kept pairs denote the same while the table grows
pub pairs_stay : (known old new : List Term) (cells : List (Cell × Cell)) (ps : List Pair) → Grows known old new → ArePairs known old cells ps → ArePairs known new cells ps
pairs_stay known old new cells ps g h =
    subst (λ (l : List (Option Pair)). SameBag l (map Some ps)) (denote_alike known old new cells (each_stays known old new cells ps g h)) h
