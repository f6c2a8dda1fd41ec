use Rattle.std.proofs.lemmas.Result.{on_ok_weaker}
use Rattle.qs_plan.proofs.Settled.{not_settled, signed_settled, unary_settled, compare_settled, binary_settled, if_settled, or_settled, and_settled, coalesce_settled, concat_settled, in_settled, not_in_settled, product_settled, sum_settled, grows_more}
use Rattle.std.proofs.Common.{Result, Ok, Err, OnOk}
use Rattle.qs_plan.proofs.reads.+settle.Goals as goal

on_ok_both : {T E P Q R : Type 0} (r : Result T E) → (P → Q → R) → OnOk r P → OnOk r Q → OnOk r R
on_ok_both (Ok x) f p q = f p q
on_ok_both (Err e) f p q = p

pub settle-returns-in-Not-clause-settles : goal.settle-returns-in-Not-clause-settles
settle-returns-in-Not-clause-settles t c =
    on_ok_weaker c.settle.result (λ s. not_settled c.settle.new.variables.items c.args.expr.now c.in-Not.inner c.get.result.now c.in-Not.is c.get.ensures s) c.settle.ensures.settles

pub settle-returns-in-Signed-clause-settles : goal.settle-returns-in-Signed-clause-settles
settle-returns-in-Signed-clause-settles t c =
    on_ok_weaker c.settle-in-Signed.result (λ s. signed_settled c.settle-in-Signed.new.variables.items c.in-Signed.field-0 c.args.expr.now c.in-Signed.inner c.get-in-Signed.result.now c.in-Signed.is c.get-in-Signed.ensures s) c.settle-in-Signed.ensures.settles

pub settle-returns-in-Unary-clause-settles : goal.settle-returns-in-Unary-clause-settles
settle-returns-in-Unary-clause-settles t c =
    on_ok_weaker c.settle-in-Unary.result (λ s. unary_settled c.settle-in-Unary.new.variables.items c.in-Unary.field-0 c.args.expr.now c.in-Unary.inner c.get-in-Unary.result.now c.in-Unary.is c.get-in-Unary.ensures s) c.settle-in-Unary.ensures.settles

pub settle-returns-in_ok-settle-in-Compare-clause-settles : goal.settle-returns-in_ok-settle-in-Compare-clause-settles
settle-returns-in_ok-settle-in-Compare-clause-settles t c =
    on_ok_both c.settle-in-Compare-2.result (λ g s. compare_settled c.settle-in-Compare.new.variables.items c.settle-in-Compare-2.new.variables.items c.in-Compare.field-0 c.args.expr.now c.in-Compare.left c.in-Compare.right c.get-in-Compare.result.now c.get-in-Compare-2.result.now
    c.in-Compare.is c.get-in-Compare.ensures c.get-in-Compare-2.ensures c.in_ok-settle-in-Compare.ensures.settles g s) c.settle-in-Compare-2.ensures.grows c.settle-in-Compare-2.ensures.settles

pub settle-returns-in_ok-settle-in-Binary-clause-settles : goal.settle-returns-in_ok-settle-in-Binary-clause-settles
settle-returns-in_ok-settle-in-Binary-clause-settles t c =
    on_ok_both c.settle-in-Binary-2.result (λ g s. binary_settled c.settle-in-Binary.new.variables.items c.settle-in-Binary-2.new.variables.items c.in-Binary.field-0 c.args.expr.now c.in-Binary.left c.in-Binary.right c.get-in-Binary.result.now c.get-in-Binary-2.result.now
    c.in-Binary.is c.get-in-Binary.ensures c.get-in-Binary-2.ensures c.in_ok-settle-in-Binary.ensures.settles g s) c.settle-in-Binary-2.ensures.grows c.settle-in-Binary-2.ensures.settles

pub settle-returns-in_ok-settle-in-If-2-clause-settles : goal.settle-returns-in_ok-settle-in-If-2-clause-settles
settle-returns-in_ok-settle-in-If-2-clause-settles t c =
    on_ok_both c.settle-in-If-3.result (λ g s. if_settled c.settle-in-If.new.variables.items c.settle-in-If-2.new.variables.items c.settle-in-If-3.new.variables.items c.args.expr.now c.in-If.test c.in-If.yes c.in-If.no c.get-in-If.result.now c.get-in-If-2.result.now c.get-in-If-3.result.now
    c.in-If.is c.get-in-If.ensures c.get-in-If-2.ensures c.get-in-If-3.ensures c.in_ok-settle-in-If.ensures.settles c.in_ok-settle-in-If-2.ensures.grows c.in_ok-settle-in-If-2.ensures.settles g s) c.settle-in-If-3.ensures.grows c.settle-in-If-3.ensures.settles

pub settle-returns-in-Or-clause-settles : goal.settle-returns-in-Or-clause-settles
settle-returns-in-Or-clause-settles t c =
    on_ok_weaker c.settle_all.result (λ s. or_settled c.settle_all.new.variables.items c.args.expr.now c.in-Or.parts c.as_slice.result.now c.as_slice.ensures s c.in-Or.is) c.settle_all.ensures.settles

pub settle-returns-in-And-clause-settles : goal.settle-returns-in-And-clause-settles
settle-returns-in-And-clause-settles t c =
    on_ok_weaker c.settle_all-in-And.result (λ s. and_settled c.settle_all-in-And.new.variables.items c.args.expr.now c.in-And.parts c.as_slice-in-And.result.now c.as_slice-in-And.ensures s c.in-And.is) c.settle_all-in-And.ensures.settles

pub settle-returns-in-Coalesce-clause-settles : goal.settle-returns-in-Coalesce-clause-settles
settle-returns-in-Coalesce-clause-settles t c =
    on_ok_weaker c.settle_all-in-Coalesce.result (λ s. coalesce_settled c.settle_all-in-Coalesce.new.variables.items c.args.expr.now c.in-Coalesce.parts c.as_slice-in-Coalesce.result.now c.as_slice-in-Coalesce.ensures s c.in-Coalesce.is) c.settle_all-in-Coalesce.ensures.settles

pub settle-returns-in-Concat-clause-settles : goal.settle-returns-in-Concat-clause-settles
settle-returns-in-Concat-clause-settles t c =
    on_ok_weaker c.settle_all-in-Concat.result (λ s. concat_settled c.settle_all-in-Concat.new.variables.items c.args.expr.now c.in-Concat.parts c.as_slice-in-Concat.result.now c.as_slice-in-Concat.ensures s c.in-Concat.is) c.settle_all-in-Concat.ensures.settles

pub settle-returns-in_ok-settle-in-In-clause-settles : goal.settle-returns-in_ok-settle-in-In-clause-settles
settle-returns-in_ok-settle-in-In-clause-settles t c =
    on_ok_both c.settle_all-in-In.result (λ g s. in_settled c.settle_all-in-In.new.variables.items c.args.expr.now c.in-In.parts c.as_slice-in-In.result.now c.as_slice-in-In.ensures s
    c.settle-in-In.new.variables.items c.in-In.inner c.get-in-In.result.now c.get-in-In.ensures g c.in_ok-settle-in-In.ensures.settles c.in-In.is) c.settle_all-in-In.ensures.grows c.settle_all-in-In.ensures.settles

pub settle-returns-in_ok-settle-in-NotIn-clause-settles : goal.settle-returns-in_ok-settle-in-NotIn-clause-settles
settle-returns-in_ok-settle-in-NotIn-clause-settles t c =
    on_ok_both c.settle_all-in-NotIn.result (λ g s. not_in_settled c.settle_all-in-NotIn.new.variables.items c.args.expr.now c.in-NotIn.parts c.as_slice-in-NotIn.result.now c.as_slice-in-NotIn.ensures s
    c.settle-in-NotIn.new.variables.items c.in-NotIn.inner c.get-in-NotIn.result.now c.get-in-NotIn.ensures g c.in_ok-settle-in-NotIn.ensures.settles c.in-NotIn.is) c.settle_all-in-NotIn.ensures.grows c.settle_all-in-NotIn.ensures.settles

pub settle-returns-in_ok-settle-in-Product-clause-settles : goal.settle-returns-in_ok-settle-in-Product-clause-settles
settle-returns-in_ok-settle-in-Product-clause-settles t c =
    on_ok_both c.settle_all-in-Product.result (λ g s. product_settled c.settle_all-in-Product.new.variables.items c.args.expr.now c.in-Product.parts c.as_slice-in-Product.result.now c.as_slice-in-Product.ensures s
    c.settle-in-Product.new.variables.items c.in-Product.inner c.get-in-Product.result.now c.get-in-Product.ensures g c.in_ok-settle-in-Product.ensures.settles c.in-Product.is) c.settle_all-in-Product.ensures.grows c.settle_all-in-Product.ensures.settles

pub settle-returns-in_ok-settle-in-Sum-clause-settles : goal.settle-returns-in_ok-settle-in-Sum-clause-settles
settle-returns-in_ok-settle-in-Sum-clause-settles t c =
    on_ok_both c.settle_addends.result (λ g s. sum_settled c.settle-in-Sum.new.variables.items c.settle_addends.new.variables.items c.args.expr.now c.in-Sum.inner c.get-in-Sum.result.now c.in-Sum.addends c.as_slice-in-Sum.result.now
    c.as_slice-in-Sum.ensures s c.get-in-Sum.ensures g c.in_ok-settle-in-Sum.ensures.settles c.in-Sum.is) c.settle_addends.ensures.grows c.settle_addends.ensures.settles

pub settle-returns-in_ok-settle-in-Compare-clause-grows : goal.settle-returns-in_ok-settle-in-Compare-clause-grows
settle-returns-in_ok-settle-in-Compare-clause-grows t c = on_ok_weaker c.settle-in-Compare-2.result (λ g. grows_more _ _ _ c.in_ok-settle-in-Compare.ensures.grows g) c.settle-in-Compare-2.ensures.grows

pub settle-returns-in_ok-settle-in-Binary-clause-grows : goal.settle-returns-in_ok-settle-in-Binary-clause-grows
settle-returns-in_ok-settle-in-Binary-clause-grows t c = on_ok_weaker c.settle-in-Binary-2.result (λ g. grows_more _ _ _ c.in_ok-settle-in-Binary.ensures.grows g) c.settle-in-Binary-2.ensures.grows

pub settle-returns-in_ok-settle-in-If-2-clause-grows : goal.settle-returns-in_ok-settle-in-If-2-clause-grows
settle-returns-in_ok-settle-in-If-2-clause-grows t c = on_ok_weaker c.settle-in-If-3.result (λ g. grows_more _ _ _ (grows_more _ _ _ c.in_ok-settle-in-If.ensures.grows c.in_ok-settle-in-If-2.ensures.grows) g) c.settle-in-If-3.ensures.grows

pub settle-returns-in_ok-settle-in-In-clause-grows : goal.settle-returns-in_ok-settle-in-In-clause-grows
settle-returns-in_ok-settle-in-In-clause-grows t c = on_ok_weaker c.settle_all-in-In.result (λ g. grows_more _ _ _ c.in_ok-settle-in-In.ensures.grows g) c.settle_all-in-In.ensures.grows

pub settle-returns-in_ok-settle-in-NotIn-clause-grows : goal.settle-returns-in_ok-settle-in-NotIn-clause-grows
settle-returns-in_ok-settle-in-NotIn-clause-grows t c = on_ok_weaker c.settle_all-in-NotIn.result (λ g. grows_more _ _ _ c.in_ok-settle-in-NotIn.ensures.grows g) c.settle_all-in-NotIn.ensures.grows

pub settle-returns-in_ok-settle-in-Product-clause-grows : goal.settle-returns-in_ok-settle-in-Product-clause-grows
settle-returns-in_ok-settle-in-Product-clause-grows t c = on_ok_weaker c.settle_all-in-Product.result (λ g. grows_more _ _ _ c.in_ok-settle-in-Product.ensures.grows g) c.settle_all-in-Product.ensures.grows

pub settle-returns-in_ok-settle-in-Sum-clause-grows : goal.settle-returns-in_ok-settle-in-Sum-clause-grows
settle-returns-in_ok-settle-in-Sum-clause-grows t c = on_ok_weaker c.settle_addends.result (λ g. grows_more _ _ _ c.in_ok-settle-in-Sum.ensures.grows g) c.settle_addends.ensures.grows
