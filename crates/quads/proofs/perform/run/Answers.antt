use Rattle.quads.proofs.Runs.{ran, check_of_job, query_of_job, update_of_job, explanation_of_job, replay_ran}
use Rattle.quads.proofs.perform.run.Goals as goal

pub returns-in-Check : goal.returns-in-Check
returns-in-Check g c =
    ran c.args.job.now _ _ _ _ c.put_result.result c.check_result.result (check_of_job c.args.job.now c.check_result.result c.as_slice.result.now c.in-Check.data c.in-Check.is c.as_slice.ensures.value c.check_result.ensures) c.put_result.ensures

pub returns-in-Query : goal.returns-in-Query
returns-in-Query g c =
    ran c.args.job.now _ _ _ _ c.put_result-in-Query.result c.query_result-end.result
    (query_of_job c.args.job.now c.query_result-end.result c.as_slice-in-Query.result.now c.in-Query.data c.as_slice-in-Query-2.result.now c.in-Query.text c.in-Query.default_graph c.in-Query.is c.as_slice-in-Query.ensures.value c.as_slice-in-Query-2.ensures.value
    (c.query_result-end.ensures c.in-Query.default_graph c.as_slice-in-Query.result.now c.load_store-loaded.ensures.becomes))
    c.put_result-in-Query.ensures

pub returns-in-Update : goal.returns-in-Update
returns-in-Update g c =
    ran c.args.job.now _ _ _ _ c.put_result-in-Update.result c.update_result-end.result
    (update_of_job c.args.job.now c.update_result-end.result c.as_slice-in-Update.result.now c.in-Update.data c.as_slice-in-Update-2.result.now c.in-Update.text c.in-Update.default_graph c.in-Update.is c.as_slice-in-Update.ensures.value c.as_slice-in-Update-2.ensures.value
    (c.update_result-end.ensures c.in-Update.default_graph c.as_slice-in-Update.result.now c.load_store-loaded-in-Update.ensures.becomes))
    c.put_result-in-Update.ensures

pub returns-in-Replay : goal.returns-in-Replay
returns-in-Replay g c =
    replay_ran c.args.job.now c.as_slice-in-Replay.result.now c.as_slice-in-Replay-2.result.now _ _ _ _ c.replay_script.result c.in-Replay.data c.in-Replay.script c.in-Replay.default_graph c.in-Replay.is c.as_slice-in-Replay.ensures.value c.as_slice-in-Replay-2.ensures.value
    (c.replay_script.ensures c.in-Replay.default_graph c.as_slice-in-Replay.result.now c.load_service-loaded.ensures)

pub returns-in-Explain : goal.returns-in-Explain
returns-in-Explain g c =
    ran c.args.job.now _ _ _ _ c.put_result-in-Explain.result c.explanation_result-end.result
    (explanation_of_job c.args.job.now c.explanation_result-end.result c.as_slice-in-Explain.result.now c.in-Explain.data c.as_slice-in-Explain-2.result.now c.in-Explain.text c.in-Explain.default_graph c.in-Explain.kind c.in-Explain.is c.as_slice-in-Explain.ensures.value c.as_slice-in-Explain-2.ensures.value
    (c.explanation_result-end.ensures c.in-Explain.default_graph c.as_slice-in-Explain.result.now c.load_store-loaded-in-Explain.ensures.becomes))
    c.put_result-in-Explain.ensures
