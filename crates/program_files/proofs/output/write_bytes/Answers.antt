use Rattle.std.proofs.Common.{◌≡◌, ℕ, ◌+◌, ◌-◌, ◌≤◌, List, ap, le_of_eq, length, take, drop, sym, subst, arith, length-drop}
use Rattle.std.proofs.lemmas.List.{take_all}
use Rattle.std.specs.Io.KnownBytes.{Appends}
use Rattle.std.proofs.KnownBytes.{Appends-kept}
use Rattle.program_files.proofs.Printed.{part_more}
use Rattle.program_files.proofs.output.write_bytes.Goals as goal
use Rattle.program_files.proofs.output.write_bytes.Goals.{in-Ok, in-Err+else-ne}

pub loop-preserved : goal.loop-preserved
loop-preserved g c =
    let bytes = c.args.bytes.now in
    elim c.match-write.branch [
      | in-Ok w ↦
          let here = w in
          let at = c.loop.at in
          let count = w.in-Ok.count in
          let rest : List ℕ = take (length bytes - at) (drop at bytes) in
          let left : length (drop at bytes) ≡ length bytes - at = length-drop at bytes in
          let all : rest ≡ drop at bytes = take_all (length bytes - at) (drop at bytes) (le_of_eq left) in
          let bound : count ≤ length rest = w.in-Ok.ensures.bound in
          let within : at + count ≤ length bytes = omega (arith, bound, ap length all, left, c.loop.invariant.within) in
          let grew = part_more _ _ _ at count bytes c.loop.invariant.grew (subst (λ (l : List ℕ). Appends (g.W.Write.contents c.loop.writer) (g.W.Write.contents c.write.new.self) (take count l)) all w.in-Ok.ensures.bytes) in
          record {
            within = subst (λ (n : ℕ). n ≤ length bytes) (sym w.at-is) within;
            grew = subst (λ (n : ℕ). Appends (g.W.Write.contents c.args.writer.now) (g.W.Write.contents c.write.new.self) (take n bytes)) (sym w.at-is) grew;
          }
      | in-Err+else-ne w ↦
          let here = w in
          record {
            within = subst (λ (n : ℕ). n ≤ length bytes) (sym w.at-is) c.loop.invariant.within;
            grew = subst (λ (n : ℕ). Appends (g.W.Write.contents c.args.writer.now) (g.W.Write.contents c.write.new.self) (take n bytes)) (sym w.at-is) (Appends-kept _ _ _ _ c.loop.invariant.grew w.in-Err.ensures.bytes);
          }
    ]
