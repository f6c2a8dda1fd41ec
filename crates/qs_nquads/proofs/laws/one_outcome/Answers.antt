use Rattle.qs_nquads.proofs.Bridge.{from_nquads}
use Rattle.qs_nquads.proofs.FaultBridge.{from_fault}
use Rattle.qs_nquads.proofs.Unique.{one_nquads, nquads_or_fault, one_fault}
use Rattle.qs_nquads.proofs.laws.one_outcome.Goals as goal

pub returns-clause-quads : goal.returns-clause-quads
returns-clause-quads c = λ bytes first q r m n h k. one_nquads bytes first q r m n (from_nquads bytes first q m h) (from_nquads bytes first r n k)

pub returns-clause-never_both : goal.returns-clause-never_both
returns-clause-never_both c = λ bytes first q m kind line is h k. nquads_or_fault bytes first q m kind line is (from_nquads bytes first q m h) (from_fault bytes first kind line k)

pub returns-clause-fault : goal.returns-clause-fault
returns-clause-fault c = λ bytes first kind other line place m n h k.
    one_fault bytes first kind other line place m n (from_fault bytes first kind line h) (from_fault bytes first other place k)
