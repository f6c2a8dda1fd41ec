use Rattle.qs_plan.proofs.Keeping.{triple_keeps, path_keeps, names_keep, name_keeps, filter_keeps, bind_keeps, values_keep, union_keeps, optional_keeps, fed_keeps, apart_keeps}
use Rattle.qs_plan.proofs.certain.+keeps.Goals as goal

pub keeps-returns-in-Triple : goal.keeps-returns-in-Triple
keeps-returns-in-Triple t c h = triple_keeps c.args.variable c.args.stage.now c.in-Triple.field-0 c.in-Triple.field-1 c.in-Triple.is

pub keeps-returns-in-Path : goal.keeps-returns-in-Path
keeps-returns-in-Path t c h = path_keeps c.args.variable c.args.stage.now c.in-Path.field-0 c.in-Path.field-1 c.in-Path.is

pub keeps-returns-in-Name : goal.keeps-returns-in-Name
keeps-returns-in-Name t c h = name_keeps c.args.variable c.args.stage.now c.in-Name.field-0 c.in-Name.field-1 c.in-Name.is

pub keeps-returns-in-Filter : goal.keeps-returns-in-Filter
keeps-returns-in-Filter t c h = filter_keeps c.args.variable c.args.stage.now c.in-Filter.field-0 c.in-Filter.is

pub keeps-returns-in-Bind : goal.keeps-returns-in-Bind
keeps-returns-in-Bind t c h = bind_keeps c.args.variable c.args.stage.now c.in-Bind.other c.in-Bind.field-1 c.in-Bind.is h

pub keeps-returns-in-Values : goal.keeps-returns-in-Values
keeps-returns-in-Values t c h = values_keep c.args.variable c.args.stage.now c.in-Values.field-0 c.in-Values.is

pub keeps-returns-in-Union : goal.keeps-returns-in-Union
keeps-returns-in-Union t c h = union_keeps c.args.variable c.args.stage.now c.in-Union.branches c.as_slice.result.now c.in-Union.is c.as_slice.ensures (c.keep_branches.ensures h)

pub keeps-returns-in-Optional : goal.keeps-returns-in-Optional
keeps-returns-in-Optional t c h = optional_keeps c.args.variable c.args.stage.now c.in-Optional.field-0 c.in-Optional.field-1 c.in-Optional.field-2 c.in-Optional.is

pub keeps-returns-in-Fed : goal.keeps-returns-in-Fed
keeps-returns-in-Fed t c h = fed_keeps c.args.variable c.args.stage.now c.in-Fed.field-0 c.in-Fed.field-1 c.in-Fed.is

pub keeps-returns-in-Apart : goal.keeps-returns-in-Apart
keeps-returns-in-Apart t c h = apart_keeps c.args.variable c.args.stage.now c.in-Apart.field-0 c.in-Apart.field-1 c.in-Apart.is

pub keeps-returns-in-Names : goal.keeps-returns-in-Names
keeps-returns-in-Names t c h = names_keep c.args.variable c.args.stage.now c.in-Names.register c.in-Names.is h
