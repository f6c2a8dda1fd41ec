use Rattle.qs_update_laws.proofs.Solutions.{in_any, in_one}
use Rattle.qs_update_laws.proofs.laws.solutions_bind_no_other_blanks.Goals as goal

pub returns : goal.returns
returns c = record {
  any = λ next width quads pattern graph a b d e. in_any next width quads pattern a b d graph e;
  one = λ next width quads pattern name a b d. in_one next width quads pattern a b d name;
}
