use Rattle.qs_update.proofs.AboveBlanks.{data_lawful, operation_lawful}
use Rattle.qs_update.proofs.lawful.effects_are_lawful.Goals as goal

pub returns : goal.returns
returns c = record {
  of_operation = λ max_rows default o quads next outcome above iris values e.
      operation_lawful c.solutions_bind_no_other_blanks.ensures.one c.instances_are_below.ensures.of_text_with c.texts_name_no_blanks.ensures c.blocks_name_no_blanks.ensures
      max_rows default o quads next outcome above iris values e;
  of_data = data_lawful c.instances_are_below.ensures.of_text_with;
}
