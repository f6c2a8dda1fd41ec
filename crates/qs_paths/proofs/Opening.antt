-- What a path is opened as, and what its state gives, under a naming.
use Rattle.std.proofs.Common.{◌≡◌, ℕ, Bool, true, false, ◌||◌, if◌then◌else◌, List, [], ◌∷◌, ◌++◌, map, Option, Some, None, refl, sym, ◌∙◌, ap, subst, inl}
use Rattle.std.specs.List.{list_any}
use Rattle.std.proofs.lemmas.List.{append-nil}
use Rattle.std.proofs.lemmas.List.Sorted.{IsPermutation-append, IsPermutation-map, IsPermutation-refl, IsPermutation-sym, IsPermutation-trans, list_any-IsPermutation}
use Rattle.qs_terms.specs.declared.term.Term.{Term}
use Rattle.qs_terms.specs.Bag.{SameBag}
use Rattle.qs_syntax_ast.specs.declared.path.NegatedIri.{NegatedIri}
use Rattle.qs_syntax_ast.specs.declared.path.Path.{Path}
use Rattle.qs_paths_meaning.specs.Pair.{Pair, swapped}
use Rattle.qs_paths_meaning.specs.inner.Pair.{same_pair}
use Rattle.qs_paths_meaning.specs.Pairs.{is_step, pairs}
use Rattle.qs_paths_meaning.specs.Steps.{Graph, along, is_none, is_of, is_outside, negated}
use Rattle.qs_paths_meaning.specs.inner.Steps.{against, from_start}
use Rattle.qs_paths_meaning.specs.inner.Walk.{IsIn}
use Rattle.qs_paths_meaning.proofs.Arms.{same_as, same_pair-Decides}
use Rattle.qs_paths_meaning.proofs.Members.{mem_in}
use Rattle.qs_paths.specs.declared.node.NodePair.{NodePair}
use Rattle.std.specs.Prelude.{IfSome, Result, Ok, IsErr}
use Rattle.qs_terms.specs.declared.fault.QFault.{QFault}
use Rattle.qs_syntax_tree.specs.declared.path.Repetition.{Repetition}
use Rattle.qs_syntax_ast.specs.declared.path.Path.TheVariants as path
use Rattle.qs_store.specs.Content.{Content}
use Rattle.qs_store.specs.declared.default_graph.DefaultGraph.{DefaultGraph}
use Rattle.qs_paths_meaning.specs.Closure.{closure}
use Rattle.qs_paths_meaning.specs.inner.Found.{turned}
use Rattle.qs_expr.specs.declared.cell.Cell.{Cell}
use Rattle.qs_expr.specs.inner.Cell.{denoted}
use Rattle.qs_paths.specs.declared.state.Request.{Request}
use Rattle.qs_paths.specs.declared.state.Rows.{Rows}
use Rattle.qs_paths.specs.declared.state.State.{State}
use Rattle.qs_paths.specs.declared.state.State.TheVariants as state
use Rattle.qs_paths.specs.declared.stream.Pairs.{Pairs}
use Rattle.qs_paths.specs.declared.stretch.Stretch.{Stretch}
use Rattle.qs_paths.specs.declared.walk.Walk.{Walk}
use Rattle.qs_paths.specs.inner.Coming.{AreDenoted, GivesPair, HandsOut, IsToCome}
use Rattle.qs_paths.specs.inner.Nodes.{cell_of, named_pair, named_pairs}
use Rattle.qs_paths.specs.inner.Seen.{graph_in, known_in}
use Rattle.qs_paths.specs.inner.State.{GivesEdge, GivesLeft, GivesOne, GivesRow, GivesStep, GivesWalked, IsLeft, IsLeftIn, Opens, turn, turned_pairs}
use Rattle.qs_paths.proofs.Streamed.{as_closure, bag_is, from_left, into_right, to_nil, turned_bag, turned_first, turned_twice}

-- ---- scans

pub opens_plain : (ps fs es : List Pair) → SameBag ps fs → SameBag es fs → SameBag ps (es ++ [])
opens_plain ps fs es h k = bag_is ps es (es ++ []) (IsPermutation-trans ps fs es h (IsPermutation-sym es fs k)) (sym (append-nil es))

module _ (members : List NegatedIri) (graph : Graph) (l r : Option Term) (b : Bool) (is : b ≡ (list_any (is_of false) members || is_none members)) (ps more : List Pair) (h : SameBag ps (negated members graph l r)) (m : more ≡ (if list_any (is_of true) members then against (is_outside true members) graph l r else [])) where
  parts : (c : Bool) → b ≡ c → SameBag ps ((if c then along (is_outside false members) graph l r else []) ++ more)
  parts c e = bag_is ps _ _ h (ap (λ (z : Bool). (if z then along (is_outside false members) graph l r else []) ++ (if list_any (is_of true) members then against (is_outside true members) graph l r else [])) (sym is ∙ e) ∙ ap (λ z. (if c then along (is_outside false members) graph l r else []) ++ z) (sym m))

  pub opens_both : (es : List Pair) → b ≡ true → SameBag es (along (is_outside false members) graph l r) → SameBag ps (es ++ more)
  opens_both es e k = IsPermutation-trans ps _ _ (parts true e) (IsPermutation-append _ es more more (IsPermutation-sym es _ k) (IsPermutation-refl more))

  pub opens_second : b ≡ false → SameBag ps ([] ++ more)
  opens_second e = parts false e

module _ (name : ℕ → Term) (b : Bool) (es : List NodePair) (more ps : List Pair) (h : SameBag ps (turned_pairs b (named_pairs name es) ++ more)) where
  pub gives_first : (e : NodePair) (rest : List NodePair) → es ≡ e ∷ rest → SameBag ps (named_pair name (turn b e) ∷ (turned_pairs b (named_pairs name rest) ++ more))
  gives_first e rest i = bag_is ps _ _ h (ap (λ l. turned_pairs b (named_pairs name l) ++ more) i ∙ ap (λ l. l ++ more) (turned_first b name e (named_pairs name rest)))

  none_there : (c : Bool) → turned_pairs c (named_pairs name []) ++ more ≡ more
  none_there true = refl
  none_there false = refl

  pub gives_none : es ≡ [] → more ≡ [] → ps ≡ []
  gives_none i j = to_nil ps _ h (ap (λ l. turned_pairs b (named_pairs name l) ++ more) i ∙ (none_there b ∙ j))

  -- the inverse part comes
  pub gives_more : (members : List NegatedIri) (graph : Graph) (l r : Option Term) (fs : List NodePair) → es ≡ [] → more ≡ against (is_outside true members) graph l r → SameBag (named_pairs name fs) (along (is_outside true members) graph r l) → SameBag ps (turned_pairs true (named_pairs name fs) ++ [])
  gives_more members graph l r fs i j k =
      bag_is ps _ _
      (IsPermutation-trans ps more (map swapped (named_pairs name fs)) (bag_is ps _ _ h (ap (λ z. turned_pairs b (named_pairs name z) ++ more) i ∙ none_there b))
      (subst (λ (z : List Pair). SameBag z (map swapped (named_pairs name fs))) (sym j) (IsPermutation-map swapped _ _ (IsPermutation-sym (named_pairs name fs) _ k))))
      (sym (append-nil (map swapped (named_pairs name fs))))

-- nothing is left of nothing
pub nothing_left : (name : ℕ → Term) (b : Bool) (es : List NodePair) (more : List Pair) → es ≡ [] → more ≡ [] → SameBag [] (turned_pairs b (named_pairs name es) ++ more)
nothing_left name b es more i j = subst (λ (l : List Pair). SameBag [] l) (sym (ap (λ l. turned_pairs b (named_pairs name l) ++ more) i ∙ (ap (λ l. turned_pairs b [] ++ l) j ∙ none b))) (IsPermutation-refl [])
  where
    none : (c : Bool) → let nil : List Pair = [] in turned_pairs c [] ++ [] ≡ nil
    none true = refl
    none false = refl

-- ---- what was found whole

pub rows_open : (known : List Term) (ps qs : List Pair) (es rows : List Pair) → SameBag ps qs → SameBag es qs → rows ≡ es → SameBag ps rows
rows_open known ps qs es rows h k e = bag_is ps es rows (IsPermutation-trans ps qs es h (IsPermutation-sym es qs k)) (sym e)

-- ---- turned

pub turned_left : (b : Bool) (ps qs : List Pair) → SameBag ps (turned_pairs b qs) → SameBag (turned_pairs b ps) qs
turned_left b ps qs h = bag_is _ _ _ (turned_bag b ps (turned_pairs b qs) h) (turned_twice b qs)

pub turned_none : (b : Bool) (ps : List Pair) → turned_pairs b ps ≡ [] → ps ≡ []
turned_none b ps e = sym (turned_twice b ps) ∙ (ap (turned_pairs b) e ∙ none b)
  where
    none : (c : Bool) → let nil : List Pair = [] in turned_pairs c [] ≡ nil
    none true = refl
    none false = refl

pub none_turned : (b : Bool) → let nil : List Pair = [] in nil ≡ turned_pairs b []
none_turned true = refl
none_turned false = refl

pub turned_one : (b : Bool) (name : ℕ → Term) (e : NodePair) (ps rest : List Pair) → SameBag (turned_pairs b ps) (named_pair name e ∷ rest) → SameBag ps (named_pair name (turn b e) ∷ turned_pairs b rest)
turned_one b name e ps rest h = bag_is ps _ _ (subst (λ (l : List Pair). SameBag l (turned_pairs b (named_pair name e ∷ rest))) (turned_twice b ps) (turned_bag b (turned_pairs b ps) (named_pair name e ∷ rest) h)) (turned_first b name e rest)

-- ---- pairs of cells

pub in_bag : (e : Pair) (ps qs : List Pair) → SameBag ps qs → IsIn qs e → IsIn ps e
in_bag e ps qs h i = list_any-IsPermutation (same_pair e) ps qs h ∙ i

pub first_in : (e : Pair) (ps rest : List Pair) → SameBag ps (e ∷ rest) → IsIn ps e
first_in e ps rest h = in_bag e ps (e ∷ rest) h (mem_in same_pair same_pair-Decides e (e ∷ rest) (inl refl))

pub rest_in : (e d : Pair) (ps rest : List Pair) → SameBag ps (d ∷ rest) → IsIn rest e → IsIn ps e
rest_in e d ps rest h i = in_bag e ps (d ∷ rest) h (or_last (same_pair e d) (list_any (same_pair e) rest) i)
  where
    or_last : (a b : Bool) → b ≡ true → (a || b) ≡ true
    or_last true b k = refl
    or_last false b k = k

pub rest_denoted : (known table : List Term) (name : ℕ → Term) (d : Pair) (ps rest : List Pair) → SameBag ps (d ∷ rest) → AreDenoted known table name ps → AreDenoted known table name rest
rest_denoted known table name d ps rest h a = record {
  left = λ n e i k. a.left n e (rest_in e d ps rest h i) k;
  right = λ n e i k. a.right n e (rest_in e d ps rest h i) k;
}

pub none_denoted : (known table : List Term) (name : ℕ → Term) → AreDenoted known table name []
none_denoted known table name = record {
  left = λ n e i k. let f : false ≡ true = i in cc;
  right = λ n e i k. let f : false ≡ true = i in cc;
}

-- ---- what is asked for

pub asked_left : (graph : Graph) (p q : Path) (l r l' r' : Option Term) → q ≡ p → l' ≡ l → r' ≡ r → SameBag (pairs graph p l r) (pairs graph q l' r')
asked_left graph p q l r l' r' e f g = same_as _ _ (sym (ap (λ (k : Path). pairs graph k l' r') e ∙ (ap (λ z. pairs graph p z r') f ∙ ap (λ z. pairs graph p l z) g)))

-- ---- closures

pub left_walk : (graph : Graph) (p inner : Path) (repetition : Repetition) (l r : Option Term) (x : Term) (ps : List Pair) → p ≡ path.Repeated inner repetition → l ≡ Some x → SameBag ps (pairs graph p l r) → SameBag ps (turned_pairs false (from_start repetition (is_step (turned false (pairs graph inner))) graph r x))
left_walk graph p inner repetition l r x ps e i h =
    IsPermutation-trans ps _ _ (bag_is ps _ _ h (as_closure graph p inner repetition l r e ∙ ap (λ z. closure repetition (is_step (pairs graph inner)) graph z r) i)) (from_left graph inner repetition x r)

pub right_walk : (graph : Graph) (p inner : Path) (repetition : Repetition) (l r : Option Term) (y : Term) (ps : List Pair) → p ≡ path.Repeated inner repetition → l ≡ None → r ≡ Some y → SameBag ps (pairs graph p l r) → SameBag ps (turned_pairs true (from_start repetition (is_step (turned true (pairs graph inner))) graph None y))
right_walk graph p inner repetition l r y ps e i j h =
    IsPermutation-trans ps _ _
    (bag_is ps _ _ h (as_closure graph p inner repetition l r e ∙ (ap (λ z. closure repetition (is_step (pairs graph inner)) graph z r) i ∙ ap (λ z. closure repetition (is_step (pairs graph inner)) graph None z) j))) (into_right graph inner repetition y)

-- ---- states

pub state_whole : (graph : Graph) (name : ℕ → Term) (ps : List Pair) (s : State) (rows rows' : Rows) (o : Option NodePair) → s ≡ state.Whole rows → GivesRow rows o rows' → IsLeft graph name s ps → GivesOne (IsLeft graph name) name ps o (state.Whole rows')
state_whole graph name ps s rows rows' None e h l = h name ps (subst (λ z. IsLeft graph name z ps) e l)
state_whole graph name ps s rows rows' (Some x) e h l = h name ps (subst (λ z. IsLeft graph name z ps) e l)

pub state_edges : (known : List Term) (graph : Graph) (s : State) (x x' : Stretch) (o : Option NodePair) → s ≡ state.Edges x → GivesEdge known graph x o x' → GivesLeft known graph s o (state.Edges x')
state_edges known graph s x x' None e h name n ps l = h name n ps (subst (λ z. IsLeft graph name z ps) e l)
state_edges known graph s x x' (Some y) e h name n ps l = h name n ps (subst (λ z. IsLeft graph name z ps) e l)

pub state_walked : (known : List Term) (graph : Graph) (s : State) (x x' : Walk) (o : Option NodePair) → s ≡ state.Walked x → GivesWalked known graph x o x' → GivesLeft known graph s o (state.Walked x')
state_walked known graph s x x' None e h name n ps l = h name n ps (subst (λ z. IsLeft graph name z ps) e l)
state_walked known graph s x x' (Some y) e h name n ps l = h name n ps (subst (λ z. IsLeft graph name z ps) e l)

-- ---- a step of all

module _ (known : List Term) (graph : Graph) (t : Bool) (s s' : State) (q' : Option Request) (done : q' ≡ None) where
  step_left : (name : ℕ → Term) (ps rest : List Pair) → IsLeft graph name s' rest → IsLeftIn graph name q' t s' (turned_pairs t rest)
  step_left name ps rest l = subst (λ z. IsLeftIn graph name z t s' (turned_pairs t rest)) (sym done) (subst (λ z. IsLeft graph name s' z) (sym (turned_twice t rest)) l)

  step_over : (name : ℕ → Term) → IsLeft graph name s' [] → IsLeftIn graph name q' t s' []
  step_over name l = subst (λ z. IsLeftIn graph name z t s' []) (sym done) (subst (λ z. IsLeft graph name s' z) (none_turned t) l)

  pub steps_on : (q : Option Request) (o : Option NodePair) → None ≡ q → GivesLeft known graph s o s' → GivesStep known graph q t s o q' t s'
  steps_on q None e h = λ name n ps l.
      let w = h name n (turned_pairs t ps) (subst (λ z. IsLeftIn graph name z t s ps) (sym e) l) in (turned_none t ps w.0, step_over name w.1)
  steps_on q (Some x) e h = λ name n ps l.
      let w = h name n (turned_pairs t ps) (subst (λ z. IsLeftIn graph name z t s ps) (sym e) l) in (turned_pairs t w.0, (turned_one t name x ps w.0 w.1.0, step_left name ps w.0 w.1.1))

  pub steps_open : (q : Option Request) (r : Request) (t0 : Bool) (s0 : State) (o : Option NodePair) → Some r ≡ q → Opens known graph r t s → GivesLeft known graph s o s' → GivesStep known graph q t0 s0 o q' t s'
  steps_open q r t0 s0 None e p h = λ name n ps l.
      let w = h name n (turned_pairs t ps) (p name n ps (subst (λ z. IsLeftIn graph name z t0 s0 ps) (sym e) l)) in (turned_none t ps w.0, step_over name w.1)
  steps_open q r t0 s0 (Some x) e p h = λ name n ps l.
      let w = h name n (turned_pairs t ps) (p name n ps (subst (λ z. IsLeftIn graph name z t0 s0 ps) (sym e) l)) in (turned_pairs t w.0, (turned_one t name x ps w.0 w.1.0, step_left name ps w.0 w.1.1))

-- ---- pairs that are handed out

pub hands : {V : Type 0} (content : V → Content) (default : V → DefaultGraph) (table : List Term) (ps : List Pair) (old : Pairs V) (q : Option Request) (t : Bool) (s : State) (e d : NodePair) (cells : Cell × Cell) → IsToCome content default table old ps
    → GivesStep (known_in content old.edges) (graph_in content default old.edges) old.request old.turned old.state (Some e) q t s → d ≡ turn t e → cells.0 ≡ cell_of d.left → cells.1 ≡ cell_of d.right
    → HandsOut content default table ps cells (record { alloc = old.alloc; edges = old.edges; request = q; turned = t; state = s })
hands content default table ps old q t s e d cells h step i c0 c1 =
    let w = step h.name h.naming ps h.left in
    let f = turn t e in record {
      pair = named_pair h.name f;
      rest = w.0;
      left = ap (denoted (known_in content old.edges) table) (c0 ∙ ap (λ (z : NodePair). cell_of z.left) i) ∙ h.denoted.left f.left (named_pair h.name f) (first_in (named_pair h.name f) ps w.0 w.1.0) refl;
      right = ap (denoted (known_in content old.edges) table) (c1 ∙ ap (λ (z : NodePair). cell_of z.right) i) ∙ h.denoted.right f.right (named_pair h.name f) (first_in (named_pair h.name f) ps w.0 w.1.0) refl;
      bag = w.1.0;
      others = record {
        name = h.name;
        naming = h.naming;
        denoted = rest_denoted (known_in content old.edges) table h.name (named_pair h.name f) ps w.0 w.1.0 h.denoted;
        left = w.1.1;
      };
    }

pub no_err : {A E : Type 0} (r : Result A E) (x : A) → IsErr r → r ≡ Ok x → ⊥
no_err r x h e = let f : false ≡ true = subst IsErr e h in cc

-- a state that stayed as it was
pub same_state : {V : Type 0} (content : V → Content) (default : V → DefaultGraph) (old : Pairs V) (s : State) (answer : Option (Result (Cell × Cell) QFault)) (new : Pairs V) → s ≡ old.state
    → GivesPair content default (record { alloc = old.alloc; edges = old.edges; request = old.request; turned = old.turned; state = s }) answer new → GivesPair content default old answer new
same_state content default old s answer new e h =
    subst (λ z. GivesPair content default (record { alloc = old.alloc; edges = old.edges; request = old.request; turned = old.turned; state = z }) answer new) e h

-- ---- pairs that were found whole

pub some_left : (s : State) (old new : Rows) (o : Option NodePair) → s ≡ state.Whole old → GivesRow old o new → IfSome o (λ e. (known : List Term) (graph : Graph) → GivesLeft known graph s (Some e) (state.Whole new))
some_left s old new None is h = tt
some_left s old new (Some e) is h = λ known graph name n ps l. state_whole graph name ps s old new (Some e) is h l
