-- No word at first, and all words at the end; without these lines both goals stay open. Assumes nothing.
use mathlib.Core.List.{zip_with}
use Rattle.std.proofs.Common.{◌≡◌, ◌∙◌, refl, arith, rules}
use Rattle.flash.specs.Operations.{total}
use Rattle.flash.proofs.Laws.{row_done, count_done}
use Rattle.flash.proofs.program_words.Goals as goal

pub loop-index-init : goal.loop-index-init
unfolding zip_with total
loop-index-init c = (omega arith, refl, refl, omega arith)

pub returns : goal.returns
returns c =
    let loop = c.loop-index in
    let e : loop.index ≡ 64 = omega arith in
    record {
      not_set = loop.invariant.2 ∙ rw e (count_done _ _ c.requires (search rules));
      words = loop.invariant.1 ∙ rw e (row_done _ _ c.requires (search rules));
    }
