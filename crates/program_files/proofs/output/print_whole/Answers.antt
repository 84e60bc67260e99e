use Rattle.std.proofs.Common.{◌≡◌, ℕ, ◌+◌, IfSome, take, drop, length, ◌<◌, sym, subst, ◌∙◌, List, Option}
use Rattle.std.specs.Io.KnownBytes.{Appends}
use Rattle.program_files.proofs.Printed.{at_err, at_ok, known_begins, known_begun, known_more, known_whole, known_kept}
use Rattle.program_files.proofs.output.print_whole.Goals as goal

-- what the window shows
abbrev IsPart : (o : Option (List ℕ)) → ℕ → List ℕ → Type 0
IsPart o n part = IfSome o (λ t. part ≡ take 1024 (drop n t))

pub returns-in_err-write_bytes-clause-begun : goal.returns-in_err-write_bytes-clause-begun
returns-in_err-write_bytes-clause-begun g c =
    let o = g.D.Display.output c.args.text in
    at_err _ _ (known_begun _ _ _ c.loop.written 1024 c.shown.result.now o c.loop.invariant (subst (IsPart o c.loop.written) (sym c.shown.ensures) c.in_ok-window.ensures) c.in_err-write_bytes.ensures.begun)

pub returns-then-shown-lt-ROOM-clause-all : goal.returns-then-shown-lt-ROOM-clause-all
returns-then-shown-lt-ROOM-clause-all g c =
    let o = g.D.Display.output c.args.text in
    let short : length c.shown.result.now < 1024 = subst (λ (l : List ℕ). length l < 1024) (c.shown-in-loop.ensures ∙ sym c.shown.ensures) c.if-shown-lt-ROOM.true in
    at_ok _ _ (known_whole _ _ _ _ c.loop.written 1024 c.shown.result.now o c.loop.invariant (subst (IsPart o c.loop.written) (sym c.shown.ensures) c.in_ok-window.ensures) c.in_ok-write_bytes.ensures.all short c.flush.ensures.bytes)

pub returns-then-shown-lt-ROOM-clause-begun : goal.returns-then-shown-lt-ROOM-clause-begun
returns-then-shown-lt-ROOM-clause-begun g c =
    let o = g.D.Display.output c.args.text in
    at_err _ _ (known_kept _ _ _ _ c.loop.written 1024 c.shown.result.now o c.loop.invariant (subst (IsPart o c.loop.written) (sym c.shown.ensures) c.in_ok-window.ensures) c.in_ok-write_bytes.ensures.all c.flush.ensures.bytes)

-- once that part is written
grown : (a b c : Option (List ℕ)) (n more : ℕ) (part : List ℕ) (o : Option (List ℕ)) → IfSome o (λ t. Appends a b (take n t)) → IsPart o n part → Appends b c part → more ≡ n + 1024
    → IfSome o (λ t. Appends a c (take more t))
grown a b c n more part o first is rest sum = subst (λ (k : ℕ). IfSome o (λ t. Appends a c (take k t))) (sym sum) (known_more a b c n 1024 part o first is rest)

pub loop-preserved : goal.loop-preserved
loop-preserved g c =
    let o = g.D.Display.output c.args.text in
    grown _ _ _ c.loop.written c.in-Some.more c.shown.result.now o c.loop.invariant (subst (IsPart o c.loop.written) (sym c.shown.ensures) c.in_ok-window.ensures) c.in_ok-write_bytes.ensures.all (c.in-Some.ensures).1

pub returns-in-None-clause-begun : goal.returns-in-None-clause-begun
returns-in-None-clause-begun g c =
    let o = g.D.Display.output c.args.text in
    let grew = known_more _ _ _ c.loop.written 1024 c.shown.result.now o c.loop.invariant (subst (IsPart o c.loop.written) (sym c.shown.ensures) c.in_ok-window.ensures) c.in_ok-write_bytes.ensures.all in
    known_begins _ _ (c.loop.written + 1024) o grew

pub returns-clause-begun : goal.returns-clause-begun
returns-clause-begun g c = known_begins _ _ c.loop.written (g.D.Display.output c.args.text) c.loop.invariant
