use Rattle.std.proofs.Common.{◌≡◌, true, false, sym, ◌∙◌, ap}
use Rattle.qs_ops_program.specs.inner.Flow.{is_union}
use Rattle.qs_ops_program.proofs.Unions.{union_is_union}
use Rattle.qs_plan.proofs.Keeping.{triple_keeps, path_keeps, exists_keeps, names_keep, name_keeps, filter_keeps, bind_keeps, values_keep, optional_keeps, fed_keeps, minus_keeps, apart_keeps}
use Rattle.qs_ops_walk.proofs.alike.keeps.Goals as goal

pub returns-in-Triple : goal.returns-in-Triple
returns-in-Triple c h u = triple_keeps c.args.variable c.args.stage.now c.in-Triple.field-0 c.in-Triple.field-1 c.in-Triple.is

pub returns-in-Path : goal.returns-in-Path
returns-in-Path c h u = path_keeps c.args.variable c.args.stage.now c.in-Path.field-0 c.in-Path.field-1 c.in-Path.is

pub returns-in-Exists : goal.returns-in-Exists
returns-in-Exists c h u = exists_keeps c.args.variable c.args.stage.now c.in-Exists.field-0 c.in-Exists.is

pub returns-in-Names : goal.returns-in-Names
returns-in-Names c h u = names_keep c.args.variable c.args.stage.now c.in-Names.register c.in-Names.is h

pub returns-in-Name : goal.returns-in-Name
returns-in-Name c h u = name_keeps c.args.variable c.args.stage.now c.in-Name.field-0 c.in-Name.field-1 c.in-Name.is

pub returns-in-Filter : goal.returns-in-Filter
returns-in-Filter c h u = filter_keeps c.args.variable c.args.stage.now c.in-Filter.field-0 c.in-Filter.is

pub returns-in-Bind : goal.returns-in-Bind
returns-in-Bind c h u = bind_keeps c.args.variable c.args.stage.now c.in-Bind.other c.in-Bind.field-1 c.in-Bind.is h

pub returns-in-Values : goal.returns-in-Values
returns-in-Values c h u = values_keep c.args.variable c.args.stage.now c.in-Values.field-0 c.in-Values.is

pub returns-in-Union : goal.returns-in-Union
returns-in-Union c h u = let f : true ≡ false = sym (union_is_union c.in-Union.field-0) ∙ (ap is_union (sym c.in-Union.is) ∙ u) in cc

pub returns-in-Optional : goal.returns-in-Optional
returns-in-Optional c h u = optional_keeps c.args.variable c.args.stage.now c.in-Optional.field-0 c.in-Optional.field-1 c.in-Optional.field-2 c.in-Optional.is

pub returns-in-Fed : goal.returns-in-Fed
returns-in-Fed c h u = fed_keeps c.args.variable c.args.stage.now c.in-Fed.field-0 c.in-Fed.field-1 c.in-Fed.is

pub returns-in-Minus : goal.returns-in-Minus
returns-in-Minus c h u = minus_keeps c.args.variable c.args.stage.now c.in-Minus.field-0 c.in-Minus.field-1 c.in-Minus.is

pub returns-in-Apart : goal.returns-in-Apart
returns-in-Apart c h u = apart_keeps c.args.variable c.args.stage.now c.in-Apart.field-0 c.in-Apart.field-1 c.in-Apart.is
