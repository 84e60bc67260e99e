use Rattle.std.proofs.Common.{◌≡◌, ◌≤◌, ◌*◌, ◌-◌, drop, length, ℕ, List}
use Rattle.bpf_asm.specs.Places.{first_place, place_in, or_else}
use Rattle.bpf_asm.proofs.labels.first_of.Given as goal

-- the map has the labels so far, and what it lacks stands first among the lines to come
abbrev pub invariant-loop-index : goal.invariant-loop-index
invariant-loop-index l =
    record {
      inside : l.index ≤ length l.lines;
      small : l.slot ≤ 2 * l.index;
      same : (name : List ℕ) → or_else (place_in l.first name) (first_place name l.slot l.index (drop l.index l.lines)) ≡ first_place name 0 0 l.lines;
    }

abbrev pub decreases-loop-index : goal.decreases-loop-index
decreases-loop-index l = length l.initial.lines - l.index
