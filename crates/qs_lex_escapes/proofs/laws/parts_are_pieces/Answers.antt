use Rattle.std.proofs.Common.{length, ◌+◌, refl}
use Rattle.qs_lex_escapes.proofs.PiecesBetween.{piece_between}
use Rattle.qs_lex_escapes.proofs.laws.parts_are_pieces.Goals as goal

pub returns : goal.returns
returns c = λ text before found after u v e. piece_between text before found after (length before) (length before + length found) u v e refl refl
