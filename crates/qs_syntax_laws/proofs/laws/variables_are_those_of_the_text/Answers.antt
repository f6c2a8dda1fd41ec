use Rattle.qs_syntax_laws.proofs.QueryVariables as law
use Rattle.qs_syntax_laws.proofs.laws.variables_are_those_of_the_text.Goals as goal

pub returns-clause-as_often : goal.returns-clause-as_often
returns-clause-as_often c = law.as_often

pub returns-clause-each_once : goal.returns-clause-each_once
returns-clause-each_once c = law.each_once

pub returns-clause-of_text : goal.returns-clause-of_text
returns-clause-of_text c = law.of_text
