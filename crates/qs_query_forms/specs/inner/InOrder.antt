-- The sequence of solutions that stand in some order already.
use Rattle.std.specs.Prelude.{◌≡◌, ◌⊎◌, ◌<◌, ◌≤◌, ℕ, ◌+◌, Bool, true, false, nat_lt, List, [], ◌++◌}
use Rattle.std.specs.Prelude.{drop, length, map, Option, Some, None, Ok, Err, IfSome, if◌then◌else◌}
use Rattle.qs_terms.specs.Bag.{SameBag}
use Rattle.qs_terms.specs.Outcome.{Outcome, and_then}
use Rattle.qs_terms.specs.declared.fault.QFault.TheVariants.{TooManyRows}
use Rattle.qs_algebra_solutions.specs.Solution.{Solution, projected}
use Rattle.qs_algebra_solutions.specs.inner.Some.{AreSome, is_enough}
use Rattle.qs_algebra_solutions.specs.declared.answer.Answer.{Answer}
use Rattle.qs_algebra_solutions.specs.declared.answer.Answer.TheVariants.{Solutions}
use Rattle.qs_query_order.specs.declared.condition.OrderCondition.{OrderCondition}
use Rattle.qs_syntax_scope.specs.Names.{Name}
use Rattle.qs_query_template.specs.Instances.{made}
use Rattle.qs_query_forms.specs.Outcome.{IsBuilt}
use Rattle.qs_query_forms.specs.Sequence.{sliced, listed_rows, count, IsInOrder}
use Rattle.qs_query_forms.specs.inner.Sequence.{limited}
use Rattle.qs_query_forms.specs.declared.construction.Construction.{Construction}
use Rattle.qs_query_forms.specs.declared.modifiers.Slice.{Slice}
use Rattle.qs_query_forms.specs.declared.selection.Selection.{Selection}

-- all solutions in an order that the conditions allow, or so many at its front
abbrev pub IsFront : List OrderCondition → List Solution → Option ℕ → List Solution → Type 0
IsFront conditions solutions count front =
    (all : List Solution) × IsInOrder conditions solutions all × (front ≡ limited count all)

-- so many have the same slice as all have
abbrev pub Suffices : Slice → Option ℕ → Type 0
Suffices slice count = (all : List Solution) → sliced slice (limited count all) ≡ sliced slice all

-- and so many have the same sequence
abbrev pub SufficesToSelect : Selection → Option ℕ → Type 0
SufficesToSelect asked count =
    (all : List Solution) → sliced asked.slice (listed_rows asked (limited count all))
    ≡ sliced asked.slice (listed_rows asked all)

-- the limit, if there is one, lets more than max_rows through
abbrev pub AllowsMore : Option ℕ → ℕ → Type 0
AllowsMore None max_rows = Unit {0}
AllowsMore (Some limit) max_rows = max_rows < limit

-- so many of the solutions suffice for a part: they are too many, or, where nothing is put in
-- order, they reach as far as the limit
abbrev pub ByLimit : Slice → List OrderCondition → ℕ → ℕ → Type 0
ByLimit slice order max_rows most =
    (AllowsMore slice.limit max_rows × (slice.offset + max_rows < most))
    ⊎ ((order ≡ []) × (limit : ℕ) × (slice.limit ≡ Some limit) × (slice.offset + limit ≤ most))

-- and for a SELECT, where duplicates are kept
abbrev pub AreEnough : Selection → ℕ → ℕ → Type 0
AreEnough asked max_rows most =
    (asked.is_distinct ≡ false) × ByLimit asked.slice asked.order max_rows most

-- the rows of the sequence of the solutions in this order, unless they are more than max_rows
abbrev pub IsRowsOf : Selection → ℕ → List Solution → Outcome (List Solution) → Type 0
IsRowsOf asked max_rows all outcome =
    ((max_rows < count asked all) × (outcome ≡ Err TooManyRows))
    ⊎ ((count asked all ≤ max_rows) × (outcome ≡ Ok (sliced asked.slice (listed_rows asked all))))

-- the same of the solutions in an order that the conditions allow; where they are too many, in any
abbrev pub IsRows : Selection → List Solution → ℕ → Outcome (List Solution) → Type 0
IsRows asked solutions max_rows outcome =
    ((max_rows < count asked solutions) × (outcome ≡ Err TooManyRows))
    ⊎ ((all : List Solution) × IsInOrder asked.order solutions all
    × IsRowsOf asked max_rows all outcome)

-- the graph that a template makes of the solutions in this order, unless they are more than
-- max_rows, or the numbers don't suffice
abbrev pub IsGraphOf : Construction → ℕ → ℕ → List Solution → Outcome Answer → Type 0
IsGraphOf asked next max_rows all outcome =
    ((max_rows < length (sliced asked.slice all)) × (outcome ≡ Err TooManyRows))
    ⊎ ((length (sliced asked.slice all) ≤ max_rows)
    × IsBuilt (made asked.template next (sliced asked.slice all)) outcome)

-- the same of those that are left after the OFFSET
abbrev pub IsGraphOfRest : Construction → ℕ → ℕ → List Solution → Outcome Answer → Type 0
IsGraphOfRest asked next max_rows rest outcome =
    let part = limited asked.slice.limit rest in
    ((max_rows < length part) × (outcome ≡ Err TooManyRows))
    ⊎ ((length part ≤ max_rows) × IsBuilt (made asked.template next part) outcome)

-- the rows are those after the OFFSET of the front of some solutions in order, as many as suffice
abbrev pub AreRest : Construction → ℕ → List Solution → List Solution → Type 0
AreRest asked max_rows rows solutions =
    (count most : Option ℕ) × (some front : List Solution) × AreSome most some solutions
    × IfSome most (ByLimit asked.slice asked.order max_rows)
    × IsFront asked.order some count front × Suffices asked.slice count
    × (rows ≡ drop asked.slice.offset front)

-- the rows with their variables
abbrev pub with_vars : List Name → Outcome (List Solution) → Outcome Answer
with_vars vars rows = and_then rows (λ rows. Ok (Solutions vars rows))

-- the rows, unless they are more than max_rows
abbrev pub bounded : ℕ → List Solution → Outcome (List Solution)
bounded max_rows all = if nat_lt max_rows (length all) then Err TooManyRows else Ok all

-- the same of the solutions in some order
abbrev pub AreFew : List Solution → ℕ → Outcome (List Solution) → Type 0
AreFew solutions max_rows outcome =
    (all : List Solution) × SameBag all solutions × (outcome ≡ bounded max_rows all)

-- ---- without conditions

-- the rows with the terms of the variables of the answer alone, which rows without duplicates are
-- already
abbrev pub projected_where : Bool → List ℕ → List Solution → List Solution
projected_where true columns rows = rows
projected_where false columns rows = map (projected columns) rows

-- the rows are some of the solutions, as they are listed: all, unless the rows suffice
abbrev pub AreListed : Selection → Option ℕ → List Solution → List Solution → Type 0
AreListed asked most rows solutions =
    (some rest : List Solution) × SameBag solutions (some ++ rest)
    × (projected_where asked.is_distinct asked.columns rows ≡ listed_rows asked some)
    × ((rest ≡ []) ⊎ (is_enough most (length rows) ≡ true))
