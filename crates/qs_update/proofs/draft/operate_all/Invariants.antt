use Rattle.std.proofs.Common.{◌≡◌, true, length}
use Rattle.std.specs.List.{list_all}
use Rattle.qs_update_laws.specs.inner.Written.{operation_values_have_no_blank}
use Rattle.qs_update.specs.inner.Carried.{Remaining}
use Rattle.qs_update.proofs.draft.operate_all.Given as goal

abbrev pub invariant-loop-rest : goal.invariant-loop-rest
invariant-loop-rest l = record {
  same_reference : l.draft.store.ghost_name ≡ l.fn.draft.store.ghost_name;
  values : list_all operation_values_have_no_blank l.rest ≡ true;
  remaining : Remaining l.max_rows l.update.operations l.rest l.fn.draft.store.now l.draft.store.now;
}

abbrev pub decreases-loop-rest : goal.decreases-loop-rest
decreases-loop-rest l = length l.rest
