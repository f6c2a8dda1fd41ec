use Rattle.std.proofs.Common.{refl}
use Rattle.quads.proofs.Runs.{ran, check_of_job, query_of_job, update_of_job, explanation_of_job, replay_ran}
use Rattle.quads.proofs.owned.run_owned.Goals as goal

pub returns-in-Check : goal.returns-in-Check
returns-in-Check g c =
    ran c.args.job _ _ _ _ c.put_result.result c.check_owned.result (check_of_job c.args.job c.check_owned.result c.in-Check.data.items c.in-Check.data c.in-Check.is refl c.check_owned.ensures) c.put_result.ensures

pub returns-in-Query : goal.returns-in-Query
returns-in-Query g c =
    ran c.args.job _ _ _ _ c.put_result-in-Query.result c.query_result-end.result
    (query_of_job c.args.job c.query_result-end.result c.in-Query.data.items c.in-Query.data c.as_slice.result.now c.in-Query.text c.in-Query.default_graph c.in-Query.is refl c.as_slice.ensures.value
    (c.query_result-end.ensures c.in-Query.default_graph c.in-Query.data.items c.load_owned_store-loaded.ensures.becomes))
    c.put_result-in-Query.ensures

pub returns-in-Update : goal.returns-in-Update
returns-in-Update g c =
    ran c.args.job _ _ _ _ c.put_result-in-Update.result c.update_result-end.result
    (update_of_job c.args.job c.update_result-end.result c.in-Update.data.items c.in-Update.data c.as_slice-in-Update.result.now c.in-Update.text c.in-Update.default_graph c.in-Update.is refl c.as_slice-in-Update.ensures.value
    (c.update_result-end.ensures c.in-Update.default_graph c.in-Update.data.items c.load_owned_store-loaded-in-Update.ensures.becomes))
    c.put_result-in-Update.ensures

pub returns-in-Replay : goal.returns-in-Replay
returns-in-Replay g c =
    replay_ran c.args.job c.in-Replay.data.items c.as_slice-in-Replay.result.now _ _ _ _ c.replay_script.result c.in-Replay.data c.in-Replay.script c.in-Replay.default_graph c.in-Replay.is refl c.as_slice-in-Replay.ensures.value
    (c.replay_script.ensures c.in-Replay.default_graph c.in-Replay.data.items c.load_owned_service-loaded.ensures)

pub returns-in-Explain : goal.returns-in-Explain
returns-in-Explain g c =
    ran c.args.job _ _ _ _ c.put_result-in-Explain.result c.explanation_result-end.result
    (explanation_of_job c.args.job c.explanation_result-end.result c.in-Explain.data.items c.in-Explain.data c.as_slice-in-Explain.result.now c.in-Explain.text c.in-Explain.default_graph c.in-Explain.kind c.in-Explain.is refl c.as_slice-in-Explain.ensures.value
    (c.explanation_result-end.ensures c.in-Explain.default_graph c.in-Explain.data.items c.load_owned_store-loaded-in-Explain.ensures.becomes))
    c.put_result-in-Explain.ensures
