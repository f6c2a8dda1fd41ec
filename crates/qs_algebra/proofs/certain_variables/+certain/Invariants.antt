use Rattle.std.proofs.Common.{◌≡◌, take}
use Rattle.std.specs.List.{list_any, list_all}
use Rattle.qs_algebra.specs.inner.Flags.{flags_from}
use Rattle.qs_algebra.specs.inner.Certain.{is_certain, is_certain_step}
use Rattle.qs_algebra.proofs.certain_variables.+certain.Given as goal

abbrev pub invariant-certain_in_every-loop-part : goal.invariant-certain_in_every-loop-part
invariant-certain_in_every-loop-part l =
    l.flags.items ≡ flags_from (λ v. list_all (λ part. is_certain l.width part v) (take l.part-index l.parts)) 0 l.width

abbrev pub invariant-certain_in_steps-loop-one : goal.invariant-certain_in_steps-loop-one
invariant-certain_in_steps-loop-one l =
    l.flags.items ≡ flags_from (λ v. list_any (λ s. is_certain_step l.width s v) (take l.one-index l.steps)) 0 l.width
