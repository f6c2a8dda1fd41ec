use Rattle.std.proofs.Common.{◌≡◌, map, take}
use Rattle.qs_query_forms.specs.Modifiers.{condition_of}
use Rattle.qs_query_forms.proofs.modifiers.conditions_of.Given as goal

abbrev pub invariant-loop-condition : goal.invariant-loop-condition
invariant-loop-condition l = l.all ≡ map (condition_of l.names) (take l.condition-index l.conditions)
