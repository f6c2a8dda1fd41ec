use Rattle.qs_syntax_scope.proofs.Reading.{of_group, fit, bind_fits}
use Rattle.qs_syntax_scope.proofs.laws.patterns_fit_one_by_one.Goals as goal

pub returns : goal.returns
returns c = record { group = of_group; patterns = fit; bind = bind_fits }
