use Rattle.std.proofs.Common.{◌≡◌, ◌<◌, List, [], ◌∷◌, length, arith, refl}
use Rattle.std.specs.Prelude.{reverse}
use Rattle.qs_syntax_resolve.proofs.reversed.reversed.Goals as goal

short_is : {A : Type 0} (l : List A) → length l < 2 → l ≡ reverse l
short_is [] h = refl
short_is (x ∷ []) h = refl
short_is (x ∷ y ∷ l) h = absurd (omega arith)

pub returns-then-len-lt2 : goal.returns-then-len-lt2
returns-then-len-lt2 g c = short_is c.args.items (omega arith)
