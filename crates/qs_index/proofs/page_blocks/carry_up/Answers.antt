use Rattle.std.proofs.Common.{◌≡◌, ◌+◌, ◌++◌, [], ◌∷◌, length, get_or, set, arith, ap, sym, ◌∙◌}
use Rattle.std.proofs.lemmas.List.{get_or_read, get_or-set_other, length-set}
use Rattle.qs_index.specs.inner.PageBlocks.{flat, block_at, gap_at}
use Rattle.qs_index.proofs.Blocks.{flat_up, gap_up}
use Rattle.qs_index.proofs.page_blocks.carry_up.Goals as goal

pub returns-in-Some-clause-same : goal.returns-in-Some-clause-same
returns-in-Some-clause-same c =
    let blocks = c.args.blocks.now.items in
    let k = c.args.k in
    let low = c.take_last.new.self in
    let n = length-set blocks k low in
    let l : get_or blocks k [] ≡ low ++ c.in-Some.page ∷ [] = sym (get_or_read blocks k _ (omega (arith, c.requires.within)) c.index_mut-lower.ensures.value []) ∙ c.in-Some.ensures.rest in
    let u : get_or blocks (k + 1) [] ≡ c.index_mut-upper.result.now = sym (get_or_read (set blocks k low) (k + 1) _ (omega (arith, c.requires.within)) c.index_mut-upper.ensures.value [] ∙ get_or-set_other blocks k (k + 1) low [] (λ e. omega (arith, e))) in
    ap (λ r. flat (set (set blocks k low) (k + 1) r)) c.add_first.ensures ∙ flat_up blocks k low _ c.in-Some.page c.requires.within l u

pub returns-in-Some-clause-gap : goal.returns-in-Some-clause-gap
returns-in-Some-clause-gap c = λ n h j.
    let blocks = c.args.blocks.now.items in
    let k = c.args.k in
    let low = c.take_last.new.self in
    let s = length-set blocks k low in
    let l : get_or blocks k [] ≡ low ++ c.in-Some.page ∷ [] = sym (get_or_read blocks k _ (omega (arith, c.requires.within)) c.index_mut-lower.ensures.value []) ∙ c.in-Some.ensures.rest in
    let u : get_or blocks (k + 1) [] ≡ c.index_mut-upper.result.now = sym (get_or_read (set blocks k low) (k + 1) _ (omega (arith, c.requires.within)) c.index_mut-upper.ensures.value [] ∙ get_or-set_other blocks k (k + 1) low [] (λ e. omega (arith, e))) in
    ap (λ r. length (block_at (set (set blocks k low) (k + 1) r) j) + gap_at j k) c.add_first.ensures ∙ gap_up blocks k j low _ c.in-Some.page c.requires.within l u ∙ h j
