-- From a job's result, and what the sink took of its line, to the run.
use Rattle.std.proofs.Common.{◌≡◌, ◌<◌, ℕ, List, Option, Vec, Global, ◌⊎◌, inl, inr, Ok, Err, length, take, refl, sym, subst, arith}
use Rattle.std.proofs.lemmas.List.{take_all}
use Rattle.std.specs.Io.KnownBytes.{Appends}
use Rattle.qs_terms.specs.Device.{one_more}
use Rattle.qs_terms.specs.declared.fault.QFault.TheVariants as fault
use Rattle.qs_results.specs.Lines.{fault_line}
use Rattle.qs_store.specs.declared.default_graph.DefaultGraph.{DefaultGraph}
use Rattle.quads.specs.Due.{line, IsDue, IsBegun}
use Rattle.quads.specs.inner.JobResult.{IsCheckResult, IsQueryResult, IsUpdateResult, IsExplanationResult, IsJobResult, printed, status}
use Rattle.quads.specs.inner.Replay.{IsReplayDue, IsReplayBegun}
use Rattle.quads.specs.Run.{IsRun}
use Rattle.quads.specs.inner.Run.{Prints, Runs}
use Rattle.quads.specs.declared.result.JobResult.{JobResult}
use Rattle.quads.specs.declared.result.JobResult.TheVariants.{Answered, Quads, Explained, DataRefused, Refused}
use Rattle.quads.specs.declared.job.Job.{Job}
use Rattle.quads.specs.declared.job.Job.TheVariants.{Check, Query, Update, Replay, Explain}
use Rattle.quads.specs.declared.job.TextKind.{TextKind}
use Rattle.quads.specs.declared.job.Ran.{Ran}

-- what is printed of a job's result is due
due_of : (job : Job) (end : JobResult) → IsJobResult job end → IsDue job (printed end) (status end)
due_of (Check file) (Answered answer) is = absurd is
due_of (Check file) (Quads quads) is = inl (quads.items, is.0, is.1, is.2, refl, refl)
due_of (Check file) (Explained explanation) is = absurd is
due_of (Check file) (DataRefused f) is = inr (inr (f, is, refl, refl))
due_of (Check file) (Refused f) is = absurd is
due_of (Query file text choice) (Answered answer) is = inl (Ok answer, is, (refl, refl))
due_of (Query file text choice) (Quads quads) is = absurd is
due_of (Query file text choice) (Explained explanation) is = absurd is
due_of (Query file text choice) (DataRefused f) is = inr (f, is, refl, refl)
due_of (Query file text choice) (Refused f) is = inl (Err f, is, (refl, refl))
due_of (Update file text choice) (Answered answer) is = absurd is
due_of (Update file text choice) (Quads quads) is = inl (Ok is.0, is.1, ((quads.items, is.2, refl), refl))
due_of (Update file text choice) (Explained explanation) is = absurd is
due_of (Update file text choice) (DataRefused f) is = inr (f, is, refl, refl)
due_of (Update file text choice) (Refused f) is = inl (Err f, is, (refl, refl))
due_of (Replay file script choice) end is = absurd is
due_of (Explain file text kind choice) (Answered answer) is = absurd is
due_of (Explain file text kind choice) (Quads quads) is = absurd is
due_of (Explain file text kind choice) (Explained explanation) is = inl (Ok explanation, is, (refl, refl))
due_of (Explain file text kind choice) (DataRefused f) is = inr (f, is, refl, refl)
due_of (Explain file text kind choice) (Refused f) is = inl (Err f, is, (refl, refl))

begun : (job : Job) (bytes : List ℕ) (s : ℕ) → IsDue job bytes s → IsBegun job bytes
begun (Check file) bytes s due = (s, due)
begun (Query file text choice) bytes s due = (s, due)
begun (Update file text choice) bytes s due = (s, due)
begun (Replay file script choice) bytes s due = inl (s, due)
begun (Explain file text kind choice) bytes s due = (s, due)

-- out of memory is due of each job
memory : (job : Job) → IsDue job (line (fault_line fault.Memory)) 1
memory (Check file) = inr (inl (refl, refl))
memory (Query file text choice) = inl (Err fault.Memory, (λ other. absurd (other refl)), (refl, refl))
memory (Update file text choice) = inl (Err fault.Memory, (λ other. absurd (other refl)), (refl, refl))
memory (Replay file script choice) = inr (inl (refl, refl))
memory (Explain file text kind choice) = inl (Err fault.Memory, (λ other. absurd (other refl)), (refl, refl))

whole : (n : ℕ) (bytes : List ℕ) → n ≡ length bytes → take n bytes ≡ bytes
whole n bytes is = take_all n bytes (omega (arith, is))

module _ (job : Job) (taken taken2 : Option (List ℕ)) (faults faults2 : ℕ) (r : Ran) where
  ran_of : (bytes : List ℕ) (s : ℕ) → IsDue job bytes s → Prints bytes s taken taken2 faults faults2 r → IsRun job taken taken2 faults faults2 r
  ran_of bytes s due p = at p.2
    where
      at : ((r.written ≡ length bytes) × (r.status ≡ s) × (faults2 ≡ faults)) ⊎ ((r.written < length bytes) × (r.status ≡ 1) × (faults2 ≡ one_more faults)) → IsRun job taken taken2 faults faults2 r
      at (inl w) = inl (bytes, subst (λ (n : ℕ). IsDue job bytes n) (sym w.1) due, w.0, subst (λ (l : List ℕ). Appends taken taken2 l) (whole r.written bytes w.0) p.1, w.2)
      at (inr w) = inr (bytes, begun job bytes s due, w.0, p.1, w.1, w.2)

  -- the job's result that is printed, or the fault for out of memory in its place
  pub ran : (end : JobResult) → IsJobResult job end → (Prints (printed end) (status end) taken taken2 faults faults2 r) ⊎ (Prints (line (fault_line fault.Memory)) 1 taken taken2 faults faults2 r) → IsRun job taken taken2 faults faults2 r
  ran end is (inl p) = ran_of (printed end) (status end) (due_of job end is) p
  ran end is (inr p) = ran_of (line (fault_line fault.Memory)) 1 (memory job) p

-- the result of the job's bytes is that of the job
module _ (job : Job) (end : JobResult) (bytes : List ℕ) (file : Vec ℕ Global) where
  pub check_of_job : job ≡ Check file → bytes ≡ file.items → IsCheckResult bytes end → IsJobResult job end
  check_of_job is same e = subst (λ (j : Job). IsJobResult j end) (sym is) (subst (λ (l : List ℕ). IsCheckResult l end) same e)

  module _ (lent : List ℕ) (text : Vec ℕ Global) (choice : DefaultGraph) where
    pub query_of_job : job ≡ Query file text choice → bytes ≡ file.items → lent ≡ text.items → IsQueryResult choice bytes lent end → IsJobResult job end
    query_of_job is same also e =
        subst (λ (j : Job). IsJobResult j end) (sym is) (subst (λ (l : List ℕ). IsQueryResult choice file.items l end) also (subst (λ (l : List ℕ). IsQueryResult choice l lent end) same e))

    pub update_of_job : job ≡ Update file text choice → bytes ≡ file.items → lent ≡ text.items → IsUpdateResult choice bytes lent end → IsJobResult job end
    update_of_job is same also e =
        subst (λ (j : Job). IsJobResult j end) (sym is) (subst (λ (l : List ℕ). IsUpdateResult choice file.items l end) also (subst (λ (l : List ℕ). IsUpdateResult choice l lent end) same e))

    pub explanation_of_job : (kind : TextKind) → job ≡ Explain file text kind choice → bytes ≡ file.items → lent ≡ text.items → IsExplanationResult kind bytes lent end → IsJobResult job end
    explanation_of_job kind is same also e =
        subst (λ (j : Job). IsJobResult j end) (sym is) (subst (λ (l : List ℕ). IsExplanationResult kind file.items l end) also (subst (λ (l : List ℕ). IsExplanationResult kind l lent end) same e))

-- the run of a replay of the job's bytes is that of the job
module _ (job : Job) (bytes lent : List ℕ) (taken taken2 : Option (List ℕ)) (faults faults2 : ℕ) (r : Ran) (file script : Vec ℕ Global) (choice : DefaultGraph) where
  pub replay_ran : job ≡ Replay file script choice → bytes ≡ file.items → lent ≡ script.items
      → Runs (IsReplayDue choice bytes lent) (IsReplayBegun choice bytes lent) taken taken2 faults faults2 r → IsRun job taken taken2 faults faults2 r
  replay_ran is same also ran =
      let at = subst (λ (l : List ℕ). Runs (IsReplayDue choice l lent) (IsReplayBegun choice l lent) taken taken2 faults faults2 r) same ran in
      subst (λ (j : Job). IsRun j taken taken2 faults faults2 r) (sym is) (subst (λ (l : List ℕ). Runs (IsReplayDue choice file.items l) (IsReplayBegun choice file.items l) taken taken2 faults faults2 r) also at)
