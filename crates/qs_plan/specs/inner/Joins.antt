-- Paths as joins (SPARQL 1.1 Query, 18.2.2.4): stages that make of a row what the pairs of a path
-- make of it, with hidden variables for what stands between the parts of a sequence.
use Rattle.std.specs.Prelude.{◌≡◌, ◌⊎◌, ℕ, ◌+◌, ◌<◌, ◌≤◌, List, [], ◌∷◌, ◌++◌, length, map, take}
use Rattle.std.specs.Prelude.{Option, Some, None}
use Rattle.std.specs.List.{AllByRecursion}
use Rattle.qs_terms.specs.Statement.{Statement}
use Rattle.qs_terms.specs.declared.term.Term.TheVariants as term
use Rattle.qs_syntax_ast.specs.declared.path.Path.{Path}
use Rattle.qs_syntax_ast.specs.declared.path.Path.TheVariants.{Sequence}
use Rattle.qs_algebra_solutions.specs.Solution.{Solution, term_at}
use Rattle.qs_algebra_patterns.specs.Basic.{Graph}
use Rattle.qs_algebra_patterns.specs.declared.pattern.Slot.{Slot}
use Rattle.qs_algebra_patterns.specs.declared.pattern.Slot.TheVariants as slot
use Rattle.qs_algebra_patterns.specs.declared.pattern.BasicPattern.{BasicPattern}
use Rattle.qs_algebra_patterns.specs.declared.pattern.PathPattern.{PathPattern}
use Rattle.qs_algebra_patterns.specs.declared.pattern.TriplePattern.{TriplePattern}
use Rattle.qs_plan_meaning.specs.declared.stage.Look.{Look}
use Rattle.qs_plan_meaning.specs.declared.stage.Group.{Group}
use Rattle.qs_plan_meaning.specs.declared.stage.Stage.{Stage}
use Rattle.qs_plan_meaning.specs.inner.Scans.{path_extensions}
use Rattle.qs_plan_meaning.specs.inner.Stages.{looked, register_of, through}
use Rattle.qs_plan.specs.inner.Numbers.{past, path_of, triple_stages}
use Rattle.qs_plan.specs.inner.Sames.{Misses}

-- a row of at least `next` cells, of which none from `from` on is bound
pub record Free (from next : ℕ) (m : Solution) : Type 0 where
  pub wide : next ≤ length m
  pub short : length m < past
  pub free : (v : ℕ) → from ≤ v → term_at m v ≡ None

-- what comes of a row: as many cells, of which none from `next` on is bound
pub record Ended (next : ℕ) (m r : Solution) : Type 0 where
  pub wide : length r ≡ length m
  pub free : (v : ℕ) → next ≤ v → term_at r v ≡ None

-- a term, or a variable below a number
abbrev pub Lower : ℕ → Slot → Type 0
Lower n (slot.Term t) = Unit {0}
Lower n (slot.Variable v) = v < n

-- a term, a variable below the number, or one past all rows
abbrev pub Stands : ℕ → Slot → Type 0
Stands n (slot.Term t) = Unit {0}
Stands n (slot.Variable v) = (v < n) ⊎ (past ≤ v)

-- an end of a path that is joined: a term, or a variable below `from` that isn't the register in
-- which is looked
abbrev pub IsEnd : ℕ → Look → Slot → Type 0
IsEnd from place s = Lower from s × Misses (register_of place) s

-- the register, if there is one, stands below a number
abbrev pub Under : ℕ → Option ℕ → Type 0
Under n None = Unit {0}
Under n (Some r) = r < n

abbrev pub between : Slot → Path → Slot → PathPattern
between s p o = record { subject = s; path = p; object = o }

-- the triple pattern of a path that is one IRI
abbrev pub by_iri : Slot → List ℕ → Slot → TriplePattern
by_iri s i o = record { subject = s; predicate = slot.Term (term.Iri i); object = o }

-- of a row whose cells from `from` on are unbound the stages make what the pairs of the path do,
-- and bind below `next` alone
pub record Joined (place : Look) (from next : ℕ) (stages : List Stage) (p : PathPattern) : Type
    0 where
  pub up : from ≤ next
  pub rows : (width : ℕ) (quads : List Statement) (active : Graph) (m : Solution) → Free from next m
      → map (take from) (through width quads active stages m) ≡ map (take from)
      (path_extensions p (looked quads active place m) m)
  pub ended : (width : ℕ) (quads : List Statement) (active : Graph) (m : Solution)
      → Free from next m
      → AllByRecursion (Ended next m) (through width quads active stages m)

-- each branch makes what the pairs of one of the paths do
abbrev pub AllJoined : Look → ℕ → ℕ → Slot → Slot → List Group → List Path → Type 0
AllJoined place from next s o [] [] = Unit {0}
AllJoined place from next s o [] (p ∷ parts) = ⊥
AllJoined place from next s o (b ∷ branches) [] = ⊥
AllJoined place from next s o (b ∷ branches) (p ∷ parts) =
    Joined place from next b.stages (between s p o) × AllJoined place from next s o branches parts

-- the first parts of a sequence: stages up to a slot, after which those of the parts that are left
-- may follow
pub record Leading (place : Look) (from : ℕ) (s : Slot) (parts : List Path) (stages : List Stage)
    (middle : Slot) (next : ℕ) : Type 0 where
  pub up : from ≤ next
  pub is_end : IsEnd next place middle
  pub then_rest : (o : Slot) (part : Path) (rest : List Path) (end : ℕ) (more : List Stage)
      → IsEnd from place o
      → Joined place next end more (between middle (Sequence (part ∷ rest)) o)
      → Joined place from end (stages ++ more) (between s (Sequence (parts ++ part ∷ rest)) o)

-- the stages of a path, and after them those of others
pub record JoinedFirst (place : Look) (from : ℕ) (stages : List Stage) (p : PathPattern)
    (Others : ℕ → List Stage → Type 0) : Type 0 where
  pub mid : ℕ
  pub first : List Stage
  pub rest : List Stage
  pub is : stages ≡ first ++ rest
  pub joined : Joined place from mid first p
  pub others : Others mid rest

-- the stages of one path after another
abbrev pub JoinedAll : Look → ℕ → ℕ → List Stage → List PathPattern → Type 0
JoinedAll place from next stages [] = (stages ≡ []) × (next ≡ from)
JoinedAll place from next stages (p ∷ paths) =
    JoinedFirst place from stages p (λ mid rest. JoinedAll place mid next rest paths)

-- the stages of a basic graph pattern: its triples, and after them what its paths are joined of
pub record IsRun (width from next : ℕ) (place : Look) (pattern : BasicPattern)
    (stages : List Stage) : Type 0 where
  pub paths : List Stage
  pub is : stages ≡ triple_stages width pattern.hidden from place pattern.triples ++ paths
  pub joined : JoinedAll place (from + pattern.hidden) next paths
      (map (path_of width pattern.hidden from) pattern.paths)
