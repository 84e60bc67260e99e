use Rattle.std.proofs.Common.{◌+◌, ℕ, List, arith, refl, subst}
use Rattle.std.specs.Io.KnownBytes.{Appends}
use Rattle.program_files.specs.Output.{Begins}
use Rattle.sim.proofs.Reaching.{all_done, bad_end, broken_if, broken_off, err_if, next_line, ok_if, printed_if, starts, stops}
use Rattle.sim.proofs.file.run_from.Goals as goal

pub loop-line-init : goal.loop-line-init
loop-line-init g c = record {
  going = starts _ _ c.args.lines.now c.args.world.now _ _ c.requires.first;
  number = refl;
}

pub returns-then-is_err : goal.returns-then-is_err
returns-then-is_err g c =
    let P : List ℕ → Type 0 = λ t. Begins (g.O.Output.printed c.loop-line.out) (g.O.Output.printed c.print.new.self) t in
    let begun = subst P c.as_str.ensures.value (broken_if c.print.result c.is_err.result _ c.is_err.ensures.value c.if-is_err.true c.print.ensures.begun) in
    let lost = c.print.ensures.lost (err_if c.print.result c.is_err.result c.is_err.ensures.value c.if-is_err.true) in
    rw c.requires.classes
    (broken_off _ _ c.args.lines.now c.loop-line.line-index _ c.loop-line.number (c.loop-line.number + 1) _ _ _ _ _ _ _ _ _ _ c.loop-line-test.true (omega arith) c.loop-line.invariant.going
    c.in-Ok.ensures begun lost)

pub returns-then-is_bad : goal.returns-then-is_bad
returns-then-is_bad g c =
    let P : List ℕ → Type 0 = λ t. Appends (g.O.Output.printed c.loop-line.out) (g.O.Output.printed c.print.new.self) t in
    let grew = subst P c.as_str.ensures.value (printed_if c.print.result c.is_err.result _ c.is_err.ensures.value c.if-is_err.false c.print.ensures.printed) in
    let well = c.print.ensures.took (ok_if c.print.result c.is_err.result c.is_err.ensures.value c.if-is_err.false) in
    rw c.requires.classes
    (bad_end _ _ c.args.lines.now c.loop-line.line-index _ c.loop-line.number (c.loop-line.number + 1) _ _ _ _ _ _ _ _ _ _ c.loop-line-test.true (omega arith) c.loop-line.invariant.going
    c.in-Ok.ensures c.if-is_bad.true grew well)

pub returns-in-Err : goal.returns-in-Err
returns-in-Err g c =
    rw c.requires.classes
    (stops _ _ c.args.lines.now c.loop-line.line-index c.loop-line.number c.loop-line.world _ _ _ _ (omega arith) c.loop-line.invariant.going)

pub loop-line-preserved : goal.loop-line-preserved
loop-line-preserved g c =
    let P : List ℕ → Type 0 = λ t. Appends (g.O.Output.printed c.loop-line.out) (g.O.Output.printed c.print.new.self) t in
    let grew = subst P c.as_str.ensures.value (printed_if c.print.result c.is_err.result _ c.is_err.ensures.value c.if-is_err.false c.print.ensures.printed) in
    let well = c.print.ensures.took (ok_if c.print.result c.is_err.result c.is_err.ensures.value c.if-is_err.false) in
    record {
      going = next_line _ _ c.args.lines.now c.loop-line.line-index (c.loop-line.line-index + 1) _ c.loop-line.number (c.loop-line.number + 1) _ _ _ _ _ _ _ _ _ _ c.loop-line-test.true (omega arith) (omega arith)
          c.loop-line.invariant.going c.in-Ok.ensures c.if-is_bad.false grew well;
      number = omega arith;
    }

pub returns : goal.returns
returns g c =
    rw c.requires.classes
    (all_done _ _ c.args.lines.now c.loop-line.line-index c.loop-line.number c.loop-line.world _ _ _ _ (omega arith) c.loop-line.invariant.going)
