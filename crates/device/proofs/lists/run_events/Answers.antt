-- One event more, from what `listed` promises; and the two ways in which a run ends. Without, the search reaches its limits.
-- Assumes nothing.
use Rattle.std.proofs.Common.{◌≡◌, ◌∙◌, ap, sym, arith}
use Rattle.carrying.specs.Lent.{as_device}
use Rattle.device.proofs.Runs.{joined, joined_none, joined_start, trace_end, turn_on, turn_stop, list_whole, arrays_still}
use Rattle.device.proofs.lists.run_events.Goals as goal

pub loop-index-preserved : goal.loop-index-preserved
loop-index-preserved c =
    let loop = c.loop-index in
    let done = c.listed-answer in
    let test = c.loop-index-test.true in
    record {
      within = omega (arith, test);
      slots = done.auto.slots ∙ loop.invariant.slots;
      arrays = arrays_still loop.invariant.arrays done.ensures.left.arrays;
      whole =
          turn_on _ _ _ _ _ c.args.list.now loop.slots done.result _ _ _ test c.min-total.ensures (list_whole _ _ c.requires)
          done.ensures.left.same done.ensures.stored loop.invariant.whole
          (sym c.ends_run.ensures ∙ c.if-ends_run.false);
    }

pub returns-then-ends_run : goal.returns-then-ends_run
returns-then-ends_run c =
    let loop = c.loop-index in
    let done = c.listed-answer in
    record {
      told =
          turn_stop _ _ _ _ _ c.args.list.now loop.slots done.result _ _ _ c.loop-index-test.true c.min-total.ensures (list_whole _ _ c.requires)
          done.ensures.left.same done.ensures.stored loop.invariant.whole
          (sym c.ends_run.ensures ∙ c.if-ends_run.true)
          ∙ joined_start _ _ _ _ _ c.requires;
      arrays = arrays_still loop.invariant.arrays done.ensures.left.arrays;
    }

pub returns : goal.returns
returns c =
    let loop = c.loop-index in
    let device = as_device loop.device in
    let done : loop.index ≡ c.min-total.result = omega (arith, c.loop-index-test.false) in
    record {
      told =
          rw (← done)
          (sym (joined_none loop.index loop.slots device)
          ∙ ap (joined loop.index loop.slots) (sym (trace_end _ c.args.limit loop.index device c.args.list.now (list_whole _ _ c.requires) (omega (arith, c.min-total.ensures))))
          ∙ loop.invariant.whole ∙ joined_start _ _ _ _ _ c.requires);
      arrays = loop.invariant.arrays;
    }
