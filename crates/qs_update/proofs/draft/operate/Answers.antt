use Rattle.std.proofs.Common.{Ok, refl}
use Rattle.qs_syntax_ast.specs.declared.update.Operation.TheVariants as operation
use Rattle.qs_store.specs.declared.removal.Removal.TheVariants as removal
use Rattle.qs_update.specs.Effect.{cleared, created, transferred}
use Rattle.qs_update.proofs.ByEffect.{operated, operated_by}
use Rattle.qs_update.proofs.draft.operate.Goals as goal

pub returns-in_ok-variables-in-DeleteWhere-clause-outcome : goal.returns-in_ok-variables-in-DeleteWhere-clause-outcome
returns-in_ok-variables-in-DeleteWhere-clause-outcome c =
    let held = c.args.draft.now.store.now in
    operated c.args.max_rows held c.args.operation.now (operation.DeleteWhere c.in-DeleteWhere.delete) c.delete_where.result c.delete_where.new.draft.store.now.draft c.in-DeleteWhere.is c.delete_where.ensures.outcome

pub returns-in_ok-variables-in-Modify-clause-outcome : goal.returns-in_ok-variables-in-Modify-clause-outcome
returns-in_ok-variables-in-Modify-clause-outcome c =
    let held = c.args.draft.now.store.now in
    operated c.args.max_rows held c.args.operation.now (operation.Modify c.in-Modify.modify) c.modify_where.result c.modify_where.new.draft.store.now.draft c.in-Modify.is c.modify_where.ensures.outcome

pub returns-in-Clear-clause-outcome : goal.returns-in-Clear-clause-outcome
returns-in-Clear-clause-outcome c =
    let held = c.args.draft.now.store.now in
    operated_by c.args.max_rows held c.args.operation.now _ (Ok (cleared c.in-Clear.target held.draft.quads held.draft.next)) c.clear.result c.clear.new.draft.store.now.draft c.in-Clear.is refl c.clear.ensures.outcome

pub returns-in-Drop-clause-outcome : goal.returns-in-Drop-clause-outcome
returns-in-Drop-clause-outcome c =
    let held = c.args.draft.now.store.now in
    operated_by c.args.max_rows held c.args.operation.now _ (Ok (cleared c.in-Drop.target held.draft.quads held.draft.next)) c.clear-in-Drop.result c.clear-in-Drop.new.draft.store.now.draft c.in-Drop.is refl c.clear-in-Drop.ensures.outcome

pub returns-in-Create-clause-outcome : goal.returns-in-Create-clause-outcome
returns-in-Create-clause-outcome c =
    let held = c.args.draft.now.store.now in
    operated_by c.args.max_rows held c.args.operation.now _ (created c.in-Create.on_exists c.in-Create.name held.draft.quads held.draft.next) c.create.result c.create.new.draft.store.now.draft c.in-Create.is refl c.create.ensures.outcome

pub returns-in-Add-clause-outcome : goal.returns-in-Add-clause-outcome
returns-in-Add-clause-outcome c =
    let held = c.args.draft.now.store.now in
    operated_by c.args.max_rows held c.args.operation.now _ (transferred removal.Nothing c.in-Add.it held.draft.quads held.draft.next) c.transfer.result c.transfer.new.draft.store.now.draft c.in-Add.is refl c.transfer.ensures.outcome

pub returns-in-Move-clause-outcome : goal.returns-in-Move-clause-outcome
returns-in-Move-clause-outcome c =
    let held = c.args.draft.now.store.now in
    operated_by c.args.max_rows held c.args.operation.now _ (transferred removal.Both c.in-Move.it held.draft.quads held.draft.next) c.transfer-in-Move.result c.transfer-in-Move.new.draft.store.now.draft c.in-Move.is refl c.transfer-in-Move.ensures.outcome

pub returns-in-Copy-clause-outcome : goal.returns-in-Copy-clause-outcome
returns-in-Copy-clause-outcome c =
    let held = c.args.draft.now.store.now in
    operated_by c.args.max_rows held c.args.operation.now _ (transferred removal.Target c.in-Copy.it held.draft.quads held.draft.next) c.transfer-in-Copy.result c.transfer-in-Copy.new.draft.store.now.draft c.in-Copy.is refl c.transfer-in-Copy.ensures.outcome
