use Rattle.std.proofs.Common.{◌≡◌, take}
use Rattle.std.specs.List.{list_any}
use Rattle.qs_algebra.specs.inner.Flags.{flags_from}
use Rattle.qs_algebra.specs.inner.Possible.{is_possible, is_possible_step}
use Rattle.qs_algebra.proofs.possible_variables.+possible.Given as goal

abbrev pub invariant-possible_in_some-loop-part : goal.invariant-possible_in_some-loop-part
invariant-possible_in_some-loop-part l =
    l.flags.items ≡ flags_from (λ v. list_any (λ part. is_possible l.width part v) (take l.part-index l.parts)) 0 l.width

abbrev pub invariant-possible_in_steps-loop-one : goal.invariant-possible_in_steps-loop-one
invariant-possible_in_steps-loop-one l =
    l.flags.items ≡ flags_from (λ v. list_any (λ s. is_possible_step l.width s v) (take l.one-index l.steps)) 0 l.width
