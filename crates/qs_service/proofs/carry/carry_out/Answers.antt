use Rattle.std.proofs.Common.{ℕ, List, IfOk, subst, sym}
use Rattle.qs_http.specs.declared.request.Request.{Request}
use Rattle.qs_http.specs.declared.request.Request.TheVariants.{Query, Update, Dump}
use Rattle.qs_service_connections.specs.inner.Meaning.{CarriesOrMemory}
use Rattle.qs_service.specs.Carried.{Carries}
use Rattle.qs_service.specs.Language.{sparql}
use Rattle.qs_service.specs.State.{stored_of}
use Rattle.qs_service.proofs.Made.{carries_or, dumped_at}
use Rattle.qs_service.proofs.carry.carry_out.Goals as goal

pub returns-in-Query : goal.returns-in-Query
returns-in-Query c =
    let old = stored_of c.args.max_rows c.args.store.now in
    subst (λ (r : Request). CarriesOrMemory (Carries sparql) old r old c.or_memory.result) (sym c.in-Query.is)
    (carries_or sparql old (Query c.in-Query.text) c.asked.result c.or_memory.result
    (subst (λ (t : List ℕ). IfOk c.asked.result (Carries sparql old (Query t) old)) c.as_str.ensures c.asked.ensures)
    c.or_memory.ensures)

pub returns-in-Update : goal.returns-in-Update
returns-in-Update c =
    let old = stored_of c.args.max_rows c.args.store.now in
    let new = stored_of c.args.max_rows c.changed.new.store in
    subst (λ (r : Request). CarriesOrMemory (Carries sparql) old r new c.changed.result) (sym c.in-Update.is)
    (subst (λ (t : List ℕ). CarriesOrMemory (Carries sparql) old (Update t) new c.changed.result) c.as_str-in-Update.ensures c.changed.ensures)

pub returns-in-Dump : goal.returns-in-Dump
returns-in-Dump c =
    let old = stored_of c.args.max_rows c.args.store.now in
    subst (λ (r : Request). CarriesOrMemory (Carries sparql) old r old c.or_memory-in-Dump.result) (sym c.in-Dump.is)
    (carries_or sparql old Dump c.dumped.result c.or_memory-in-Dump.result (dumped_at sparql old c.dumped.result c.dumped.ensures) c.or_memory-in-Dump.ensures)
