use Rattle.qs_dict.proofs.Numbers.{distinct_terms, unnumbered}
use Rattle.qs_dict.proofs.Table.{grown, lacking}
use Rattle.qs_dict.proofs.values.put.Goals as goal

pub returns-in-Err-clause-absent : goal.returns-in-Err-clause-absent
returns-in-Err-clause-absent c = unnumbered c.args.terms.now.keys c.args.term c.in-Err.ensures.absent

pub returns-then-not-is_new-clause-distinct : goal.returns-then-not-is_new-clause-distinct
returns-then-not-is_new-clause-distinct c = distinct_terms _ c.insert_full.ensures.unique

pub returns-in-Ok-push-clause-values : goal.returns-in-Ok-push-clause-values
returns-in-Ok-push-clause-values c =
    grown c.args.terms.now.keys c.insert_full.new.self.keys c.args.values.now.items c.push.new.self.items c.args.term _ _ c.value_at-value.result
    c.requires c.if-not-is_new.false c.in-Ok.ensures.added c.in-Ok.ensures.keys c.in-Ok.ensures.stored c.value_at-value.ensures c.in-Ok-push.ensures.items

pub returns-in-Ok-push-clause-distinct : goal.returns-in-Ok-push-clause-distinct
returns-in-Ok-push-clause-distinct c = distinct_terms _ c.insert_full.ensures.unique

pub returns-in-Err-push-clause-absent : goal.returns-in-Err-push-clause-absent
returns-in-Err-push-clause-absent c = unnumbered c.args.terms.now.keys c.args.term (lacking c.args.terms.now.keys c.args.term _ c.if-not-is_new.false c.in-Ok.ensures.added)
