-- A request that is ready stands.
use Rattle.std.proofs.Common.{◌≡◌, None, Some}
use Rattle.qs_http.specs.inner.Feeding.{Seen, Reading, Done}
use Rattle.qs_http.specs.Outcome.{More, Ready, Refused}
use Rattle.qs_http.specs.inner.Stage.{progress_of, request_in}
use Rattle.qs_http.specs.declared.session.Progress.TheVariants as progress

pub ready_stands : (seen : Seen) → progress_of seen ≡ progress.Ready → request_in seen ≡ None → ⊥
ready_stands (Reading bytes) p r = let e : progress.More ≡ progress.Ready = p in cc
ready_stands (Done More) p r = let e : progress.More ≡ progress.Ready = p in cc
ready_stands (Done (Ready request)) p r = let e : Some request ≡ None = r in cc
ready_stands (Done (Refused fixed)) p r = let e : progress.Refused fixed ≡ progress.Ready = p in cc
