-- Which stages are unions.
use Rattle.std.proofs.Common.{◌≡◌, ℕ, Bool, false, List, Option, sym, ◌∙◌, ap}
use Rattle.qs_terms.specs.declared.term.Term.{Term}
use Rattle.qs_expr_meaning.specs.declared.expr.Expr.{Expr}
use Rattle.qs_algebra_patterns.specs.declared.table.Table.{Table}
use Rattle.qs_algebra_patterns.specs.declared.pattern.TriplePattern.{TriplePattern}
use Rattle.qs_algebra_patterns.specs.declared.pattern.PathPattern.{PathPattern}
use Rattle.qs_plan_meaning.specs.declared.stage.Look.{Look}
use Rattle.qs_plan_meaning.specs.declared.stage.Group.{Group}
use Rattle.qs_plan_meaning.specs.declared.stage.Stage.{Stage, fold-roll-Stage}
use Rattle.qs_plan_meaning.specs.declared.stage.Stage.TheOpen as level
use Rattle.qs_plan_meaning.specs.declared.stage.Stage.TheVariants.{Triple, Path, Exists, Names, Name, Filter, Bind, Values, Optional, Fed, Minus, Apart, rolls-Triple, rolls-Path, rolls-Exists, rolls-Names, rolls-Name, rolls-Filter, rolls-Bind, rolls-Values, rolls-Optional, rolls-Fed, rolls-Minus, rolls-Apart}
use Rattle.qs_ops_program.specs.inner.Flow.{is_union, is_union_level, is_union_group}

module _ (i : Stage) where
  pub triple_is_not : (place : Look) (p : TriplePattern) → i ≡ Triple place p → is_union i ≡ false
  triple_is_not place p e = ap is_union e ∙ (ap is_union (sym (rolls-Triple place p)) ∙ fold-roll-Stage Bool Bool is_union_level is_union_group (level.Triple place p))

  pub path_is_not : (place : Look) (p : PathPattern) → i ≡ Path place p → is_union i ≡ false
  path_is_not place p e = ap is_union e ∙ (ap is_union (sym (rolls-Path place p)) ∙ fold-roll-Stage Bool Bool is_union_level is_union_group (level.Path place p))

  pub exists_is_not : (name : Term) → i ≡ Exists name → is_union i ≡ false
  exists_is_not name e = ap is_union e ∙ (ap is_union (sym (rolls-Exists name)) ∙ fold-roll-Stage Bool Bool is_union_level is_union_group (level.Exists name))

  pub names_is_not : (r : ℕ) → i ≡ Names r → is_union i ≡ false
  names_is_not r e = ap is_union e ∙ (ap is_union (sym (rolls-Names r)) ∙ fold-roll-Stage Bool Bool is_union_level is_union_group (level.Names r))

  pub name_is_not : (v r : ℕ) → i ≡ Name v r → is_union i ≡ false
  name_is_not v r e = ap is_union e ∙ (ap is_union (sym (rolls-Name v r)) ∙ fold-roll-Stage Bool Bool is_union_level is_union_group (level.Name v r))

  pub filter_is_not : (c : Expr) → i ≡ Filter c → is_union i ≡ false
  filter_is_not c e = ap is_union e ∙ (ap is_union (sym (rolls-Filter c)) ∙ fold-roll-Stage Bool Bool is_union_level is_union_group (level.Filter c))

  pub bind_is_not : (v : ℕ) (c : Expr) → i ≡ Bind v c → is_union i ≡ false
  bind_is_not v c e = ap is_union e ∙ (ap is_union (sym (rolls-Bind v c)) ∙ fold-roll-Stage Bool Bool is_union_level is_union_group (level.Bind v c))

  pub values_is_not : (table : Table) → i ≡ Values table → is_union i ≡ false
  values_is_not table e = ap is_union e ∙ (ap is_union (sym (rolls-Values table)) ∙ fold-roll-Stage Bool Bool is_union_level is_union_group (level.Values table))

  pub optional_is_not : (r : Option ℕ) (group : Group) (conditions : List Expr) → i ≡ Optional r group conditions → is_union i ≡ false
  optional_is_not r group conditions e = ap is_union e ∙ (ap is_union (sym (rolls-Optional r group conditions)) ∙ fold-roll-Stage Bool Bool is_union_level is_union_group (level.Optional r group conditions))

  pub fed_is_not : (group : Group) (conditions : List Expr) → i ≡ Fed group conditions → is_union i ≡ false
  fed_is_not group conditions e = ap is_union e ∙ (ap is_union (sym (rolls-Fed group conditions)) ∙ fold-roll-Stage Bool Bool is_union_level is_union_group (level.Fed group conditions))

  pub minus_is_not : (r : Option ℕ) (group : Group) → i ≡ Minus r group → is_union i ≡ false
  minus_is_not r group e = ap is_union e ∙ (ap is_union (sym (rolls-Minus r group)) ∙ fold-roll-Stage Bool Bool is_union_level is_union_group (level.Minus r group))

  pub apart_is_not : (r : Option ℕ) (group : Group) → i ≡ Apart r group → is_union i ≡ false
  apart_is_not r group e = ap is_union e ∙ (ap is_union (sym (rolls-Apart r group)) ∙ fold-roll-Stage Bool Bool is_union_level is_union_group (level.Apart r group))
