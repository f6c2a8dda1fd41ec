use Rattle.std.proofs.Common.{◌≡◌, ◌+◌, [], ◌∷◌, length, get_or, set, arith, ap, sym, ◌∙◌}
use Rattle.std.proofs.lemmas.List.{get_or_read, get_or-set_other, length-set}
use Rattle.qs_index.specs.inner.PageBlocks.{flat, block_at, gap_at}
use Rattle.qs_index.proofs.Blocks.{flat_down, gap_down}
use Rattle.qs_index.proofs.page_blocks.carry_down.Goals as goal

pub returns-in-Some-clause-same : goal.returns-in-Some-clause-same
returns-in-Some-clause-same c =
    let blocks = c.args.blocks.now.items in
    let k = c.args.k in
    let up = c.take_first.new.self in
    let n = length-set blocks (k + 1) up in
    let u : get_or blocks (k + 1) [] ≡ c.in-Some.page ∷ up = sym (get_or_read blocks (k + 1) _ (omega (arith, c.requires.within)) c.index_mut-upper.ensures.value []) ∙ c.in-Some.ensures.rest in
    let l : get_or blocks k [] ≡ c.index_mut-lower.result.now = sym (get_or_read (set blocks (k + 1) up) k _ (omega (arith, c.requires.within)) c.index_mut-lower.ensures.value [] ∙ get_or-set_other blocks (k + 1) k up [] (λ e. omega (arith, e))) in
    ap (λ r. flat (set (set blocks (k + 1) up) k r)) c.add_last.ensures ∙ flat_down blocks k _ up c.in-Some.page c.requires.within l u

pub returns-in-Some-clause-gap : goal.returns-in-Some-clause-gap
returns-in-Some-clause-gap c = λ n h j.
    let blocks = c.args.blocks.now.items in
    let k = c.args.k in
    let up = c.take_first.new.self in
    let s = length-set blocks (k + 1) up in
    let u : get_or blocks (k + 1) [] ≡ c.in-Some.page ∷ up = sym (get_or_read blocks (k + 1) _ (omega (arith, c.requires.within)) c.index_mut-upper.ensures.value []) ∙ c.in-Some.ensures.rest in
    let l : get_or blocks k [] ≡ c.index_mut-lower.result.now = sym (get_or_read (set blocks (k + 1) up) k _ (omega (arith, c.requires.within)) c.index_mut-lower.ensures.value [] ∙ get_or-set_other blocks (k + 1) k up [] (λ e. omega (arith, e))) in
    ap (λ r. length (block_at (set (set blocks (k + 1) up) k r) j) + gap_at j (k + 1)) c.add_last.ensures ∙ gap_down blocks k j _ up c.in-Some.page c.requires.within l u ∙ h j
