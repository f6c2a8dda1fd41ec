use Rattle.qs_query_template.specs.Template.{template_of_blocks, template_in}
use Rattle.qs_update_laws.proofs.Instances.{made_below}
use Rattle.qs_update_laws.proofs.TemplatesUnderWith.{none_more}
use Rattle.qs_update_laws.proofs.laws.instances_are_below.Goals as goal

pub returns-clause-any : goal.returns-clause-any
returns-clause-any c = λ template next rows named. made_below c.blanks_are_fresh.ensures.all template named next rows

pub returns-clause-of_text : goal.returns-clause-of_text
returns-clause-of_text c = λ names blocks. made_below c.blanks_are_fresh.ensures.all (template_of_blocks names blocks) (λ n. c.templates_name_no_blanks.ensures.blocks names blocks n)

pub returns-clause-of_text_with : goal.returns-clause-of_text_with
returns-clause-of_text_with c = λ graph names blocks.
    made_below c.blanks_are_fresh.ensures.all (template_in graph (template_of_blocks names blocks))
    (λ n. none_more n graph (template_of_blocks names blocks) (c.templates_name_no_blanks.ensures.blocks names blocks n))
