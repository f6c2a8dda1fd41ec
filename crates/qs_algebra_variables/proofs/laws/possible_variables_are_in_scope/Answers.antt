use Rattle.std.proofs.Common.{◌≡◌, IsTrue, length}
use Rattle.qs_syntax_ast.specs.declared.pattern.Group.{Group}
use Rattle.qs_syntax_scope.specs.Firsts.{names_of}
use Rattle.qs_algebra_variables.proofs.Groups.{pattern_agrees}
use Rattle.qs_algebra_variables.proofs.laws.possible_variables_are_in_scope.Goals as goal

pub returns : goal.returns
returns c = record {
  node = λ names group name h. pattern_agrees names name (c.names_stand_at_their_places.ensures.within names name h) (c.names_stand_at_their_places.ensures.at names name h) group;
  pattern = λ variables group name h. pattern_agrees (names_of variables) name (c.names_stand_at_their_places.ensures.within (names_of variables) name h) (c.names_stand_at_their_places.ensures.at (names_of variables) name h) group;
}
