-- Lines that were done, and the run of the file from there.
use Rattle.std.proofs.Common.{◌≡◌, ◌<◌, ◌≤◌, ℕ, zero, suc, List, [], ◌∷◌, ◌++◌, length, map, Bor, Bool, true, false, if◌then◌else◌, Option, Some, None, refl, sym, ap, subst, ◌∙◌, append_assoc, append-nil, take, drop, min, ◌+◌, arith, get_or}
use Rattle.std.specs.Io.KnownBytes.{Appends}
use Rattle.std.proofs.lemmas.List.{take-append-le, take_min}
use Rattle.std.proofs.Math.Seq.{take-append-add}
use Rattle.std.specs.Prelude.{OnErr, OnOk, IsErr, IsOk, Result, Ok, Err, is_err}
use Rattle.program_files.specs.Output.{Begins}
use Rattle.pg_log.specs.Log.{Classes}
use Rattle.sim_world.specs.Lines.{line_of}
use Rattle.sim_world.specs.Texts.{is_bad, taken_text}
use Rattle.sim_world.specs.declared.line.Line.{Line}
use Rattle.sim_world.specs.declared.taken.Taken.{Taken}
use Rattle.sim.specs.Run.{Printed, SaysOf, Takes, bad_line, before_rest, text_of, run_from, run_lines, BreaksOff, Grew, Prints, Stops}
use Rattle.sim.specs.Run.{IsBelow, SaysAll, line_text}
use Rattle.sim_world.specs.Step.{Played, Happened, beginning, step}
use Rattle.sim_world.specs.Holds.{Holds, IsStep, Says, Steps}
use Rattle.sim_world.specs.inner.Parts.{Parts}

-- the text of a line's result, by whether the line is bad
pub says_bad : (classes : Classes) (parts : Parts) (number : ℕ) (taken : Taken) (text : List ℕ) → is_bad taken ≡ true → text ≡ bad_line number → SaysOf classes parts number taken text
says_bad classes parts number taken text bad e = λ p held. e ∙ sym (ap (λ (b : Bool). if b then bad_line number else taken_text p.world.sent taken) bad)

pub says_good : (classes : Classes) (parts : Parts) (number : ℕ) (taken : Taken) (text : List ℕ) → is_bad taken ≡ false → Says classes parts taken text → SaysOf classes parts number taken text
says_good classes parts number taken text good says = λ p held. says p held ∙ sym (ap (λ (b : Bool). if b then bad_line number else taken_text p.world.sent taken) good)

-- a line's text alone, and with what stands below it
pub says_plain : (full : Bool) (classes : Classes) (parts : Parts) (number : ℕ) (taken : Taken) (text : List ℕ) → full ≡ false → SaysOf classes parts number taken text → SaysAll full classes parts number taken text
says_plain full classes parts number taken text plain says = subst (λ (b : Bool). SaysAll b classes parts number taken text) (sym plain) says

pub says_more : (full : Bool) (classes : Classes) (parts : Parts) (number : ℕ) (taken : Taken) (text more whole : List ℕ) → full ≡ true
    → SaysOf classes parts number taken text → IsBelow classes parts taken more → whole ≡ text ++ more → SaysAll full classes parts number taken whole
says_more full classes parts number taken text more whole all says lies is =
    let both : SaysAll true classes parts number taken whole = λ p held.
    is ∙ ap (λ (t : List ℕ). t ++ more) (says p held) ∙ ap (λ (t : List ℕ). line_text number p.world.sent taken ++ t) (lies p held) in
    subst (λ (b : Bool). SaysAll b classes parts number taken whole) (sym all) both

-- a line was done and its text made
pub line_taken : {full : Bool} (classes : Classes) (names : List (List ℕ)) (line : List ℕ) (number : ℕ) (old new : Parts) (l : Line) (taken : Taken) (text : List ℕ) (bad : Bool)
    → l ≡ line_of names line → Steps classes old new l taken → bad ≡ is_bad taken → SaysAll full classes new number taken text → Takes full classes names line number old new text bad
line_taken {full} classes names line number old new l taken text bad e steps b says = λ p held.
    let h = step p (line_of names line) in
    let is : IsStep classes new p (line_of names line) taken = subst (λ (m : Line). IsStep classes new p m taken) e (steps p held) in
    record {
      held = is.held;
      says = says h.played is.held ∙ ap (λ (t : Taken). text_of full classes number (record { played = h.played; taken = t })) is.came;
      is = b ∙ ap is_bad is.came;
    }

-- what is printed of a line
abbrev pub said_of : (ℕ → Happened → List ℕ) → List (List ℕ) → ℕ → Played → List ℕ → List ℕ
said_of say names number p line = say number (step p (line_of names line))

-- these lines lead to a played world, and that text is printed
pub record Reached (full : Bool) (classes : Classes) (names above : List (List ℕ)) (number : ℕ) (p : Played) (text : List ℕ) : Type 0 where
  pub goes_on : (more : List (List ℕ)) → run_lines full classes names (above ++ more) ≡ before_rest text (run_from (text_of full classes) names number p more)

pub reached_none : (full : Bool) (classes : Classes) (names : List (List ℕ)) → Reached full classes names [] 0 (beginning classes) []
reached_none full classes names = record { goes_on = λ more. refl }

-- a line more
pub reached_more : (full : Bool) (classes : Classes) (names above : List (List ℕ)) (number : ℕ) (p : Played) (text line : List ℕ)
    → Reached full classes names above number p text → is_bad (step p (line_of names line)).taken ≡ false
    → Reached full classes names (above ++ line ∷ []) (suc number) (step p (line_of names line)).played (text ++ said_of (text_of full classes) names (suc number) p line)
reached_more full classes names above number p text line reached good = record {
  goes_on = λ more.
      let h = step p (line_of names line) in
      let said = said_of (text_of full classes) names (suc number) p line in
      let rest = run_from (text_of full classes) names (suc number) h.played more in
      ap (run_lines full classes names) (append_assoc above (line ∷ []) more) ∙ reached.goes_on (line ∷ more)
      ∙ ap (λ (b : Bool). before_rest text (if b then record { text = said; bad = true; played = h.played } else before_rest said rest)) good
      ∙ ap (λ (t : List ℕ). record { text = t; bad = rest.bad; played = rest.played }) (sym (append_assoc text said rest.text));
}

-- all lines were done
pub reached_all : (full : Bool) (classes : Classes) (names above : List (List ℕ)) (number : ℕ) (p : Played) (text : List ℕ)
    → Reached full classes names above number p text → run_lines full classes names above ≡ record { text = text; bad = false; played = p }
reached_all full classes names above number p text reached =
    ap (run_lines full classes names) (sym (append-nil above)) ∙ reached.goes_on [] ∙ ap (λ (t : List ℕ). record { text = t; bad = false; played = p }) (append-nil text)

-- the next one is bad
pub reached_bad : (full : Bool) (classes : Classes) (names above : List (List ℕ)) (number : ℕ) (p : Played) (text line : List ℕ) (rest : List (List ℕ))
    → Reached full classes names above number p text → is_bad (step p (line_of names line)).taken ≡ true
    → run_lines full classes names (above ++ line ∷ rest) ≡ record { text = text ++ said_of (text_of full classes) names (suc number) p line; bad = true; played = (step p (line_of names line)).played }
reached_bad full classes names above number p text line rest reached bad =
    let h = step p (line_of names line) in
    let said = said_of (text_of full classes) names (suc number) p line in
    reached.goes_on (line ∷ rest)
    ∙ ap (λ (b : Bool). before_rest text (if b then record { text = said; bad = true; played = h.played } else before_rest said (run_from (text_of full classes) names (suc number) h.played rest))) bad

-- a text that is printed in two pieces
appends_none : (a : Option (List ℕ)) → Appends a a []
appends_none None = tt
appends_none (Some s) = sym (append-nil s)

appends_more : (a b c : Option (List ℕ)) (x y : List ℕ) → Appends a b x → Appends b c y → Appends a c (x ++ y)
appends_more None b c x y p q = tt
appends_more (Some s) None c x y p q = absurd p
appends_more (Some s) (Some t) None x y p q = absurd q
appends_more (Some s) (Some t) (Some u) x y p q = q ∙ ap (λ z. z ++ y) p ∙ append_assoc s x y

-- a beginning of a text after another text
begun_more : (old mid new : Option (List ℕ)) (text said more : List ℕ) → Appends old mid text → Begins mid new said → Begins old new (text ++ (said ++ more))
begun_more old mid new text said more first begun =
    let count = min begun.count (length said) in
    let front : take count (said ++ more) ≡ take begun.count said = take-append-le count said more (omega arith) ∙ take_min begun.count said in
    record {
      count = length text + count;
      grew = subst (Appends old new) (ap (λ (t : List ℕ). text ++ t) (sym front) ∙ sym (take-append-add text (said ++ more) count))
          (appends_more old mid new text (take begun.count said) first begun.grew);
    }

-- the state of a run: some lines were done, and their text was printed
pub record Going (full : Bool) (classes : Classes) (names above : List (List ℕ)) (number : ℕ) (w : Parts) (old new : Option (List ℕ)) (failed fails : Bool) : Type 0 where
  pub played : Played
  pub held : Holds classes w played
  pub text : List ℕ
  pub reached : Reached full classes names above number played text
  pub shown : Grew old new failed fails text

-- the printed text is that of the lines that were done
prints : (printed : Printed) (text : List ℕ) (bad : Bool) (p : Played) (old new : Option (List ℕ)) (failed fails : Bool)
    → printed ≡ record { text = text; bad = bad; played = p } → Grew old new failed fails text → Prints printed bad old new failed fails
prints printed text bad p old new failed fails is shown = record {
  shown = record { grew = subst (λ (t : List ℕ). Appends old new t) (sym (ap (λ (r : Printed). r.text) is)) shown.grew; well = shown.well };
  is = ap (λ (r : Printed). r.bad) is;
}

-- a beginning of the next line's text was printed
said_first : (said : List ℕ) (p : Played) (rest : Printed) (b : Bool)
    → (more : List ℕ) × ((if b then record { text = said; bad = true; played = p } else before_rest said rest).text ≡ said ++ more)
said_first said p rest true = ([], sym (append-nil said))
said_first said p rest false = (rest.text, refl)

going_broken : (full : Bool) (classes : Classes) (names above : List (List ℕ)) (number : ℕ) (w : Parts) (old new : Option (List ℕ)) (failed fails : Bool)
    (line : List ℕ) (rest : List (List ℕ)) (v : Parts) (text : List ℕ) (bad : Bool) (next : Option (List ℕ)) (fails_now : Bool)
    → Going full classes names above number w old new failed fails → Takes full classes names line (suc number) w v text bad
    → Begins new next text → fails_now ≡ true → BreaksOff (run_lines full classes names (above ++ line ∷ rest)) old next fails_now
going_broken full classes names above number w old new failed fails line rest v text bad next fails_now going takes begun lost =
    let is = takes going.played going.held in
    let h = step going.played (line_of names line) in
    let said = said_of (text_of full classes) names (suc number) going.played line in
    let all = said_first said h.played (run_from (text_of full classes) names (suc number) h.played rest) (is_bad h.taken) in
    let whole : (run_lines full classes names (above ++ line ∷ rest)).text ≡ going.text ++ (said ++ all.0) =
    ap (λ (r : Printed). r.text) (going.reached.goes_on (line ∷ rest)) ∙ ap (λ (t : List ℕ). going.text ++ t) all.1 in
    record {
      begun = subst (Begins old next) (sym whole) (begun_more old new next going.text said all.0 going.shown.grew (subst (λ (t : List ℕ). Begins new next t) is.says begun));
      failed = lost;
    }

-- all of them were done
going_all : (full : Bool) (classes : Classes) (names above : List (List ℕ)) (number : ℕ) (w : Parts) (old new : Option (List ℕ)) (failed fails : Bool)
    → Going full classes names above number w old new failed fails → Prints (run_lines full classes names above) false old new failed fails
going_all full classes names above number w old new failed fails going =
    prints (run_lines full classes names above) going.text false going.played old new failed fails
    (reached_all full classes names above number going.played going.text going.reached) going.shown

-- a line was done, and its text was printed
going_more : (full : Bool) (classes : Classes) (names above : List (List ℕ)) (number : ℕ) (w : Parts) (old new : Option (List ℕ)) (failed fails : Bool)
    (line : List ℕ) (v : Parts) (text : List ℕ) (bad : Bool) (next : Option (List ℕ)) (fails_now : Bool)
    → Going full classes names above number w old new failed fails → Takes full classes names line (suc number) w v text bad → bad ≡ false
    → Appends new next text → fails_now ≡ fails → Going full classes names (above ++ line ∷ []) (suc number) v old next failed fails_now
going_more full classes names above number w old new failed fails line v text bad next fails_now going takes good more well =
    let is = takes going.played going.held in
    let said = said_of (text_of full classes) names (suc number) going.played line in
    record {
      played = (step going.played (line_of names line)).played;
      held = is.held;
      text = going.text ++ said;
      reached = reached_more full classes names above number going.played going.text line going.reached (sym is.is ∙ good);
      shown = record {
        grew = appends_more old new next going.text said going.shown.grew (subst (λ (t : List ℕ). Appends new next t) is.says more);
        well = well ∙ going.shown.well;
      };
    }

-- or the line is bad, and its text was printed
going_bad : (full : Bool) (classes : Classes) (names above : List (List ℕ)) (number : ℕ) (w : Parts) (old new : Option (List ℕ)) (failed fails : Bool)
    (line : List ℕ) (rest : List (List ℕ)) (v : Parts) (text : List ℕ) (bad : Bool) (next : Option (List ℕ)) (fails_now : Bool)
    → Going full classes names above number w old new failed fails → Takes full classes names line (suc number) w v text bad → bad ≡ true
    → Appends new next text → fails_now ≡ fails → Prints (run_lines full classes names (above ++ line ∷ rest)) true old next failed fails_now
going_bad full classes names above number w old new failed fails line rest v text bad next fails_now going takes was more well =
    let is = takes going.played going.held in
    let h = step going.played (line_of names line) in
    let said = said_of (text_of full classes) names (suc number) going.played line in
    prints (run_lines full classes names (above ++ line ∷ rest)) (going.text ++ said) true h.played old next failed fails_now
    (reached_bad full classes names above number going.played going.text line rest going.reached (sym is.is ∙ was))
    (record {
      grew = appends_more old new next going.text said going.shown.grew (subst (λ (t : List ℕ). Appends new next t) is.says more);
      well = well ∙ going.shown.well;
    })

-- the lines up to one, and all of them around it
pub front_more : (ws : List (Bor (List ℕ))) (i : ℕ) (d : Bor (List ℕ)) → i < length ws → take (suc i) (map (λ (l : Bor (List ℕ)). l.now) ws) ≡ take i (map (λ l. l.now) ws) ++ (get_or ws i d).now ∷ []
front_more [] i d h = absurd (omega arith)
front_more (x ∷ xs) zero d h = refl
front_more (x ∷ xs) (suc i) d h = ap (λ ls. x.now ∷ ls) (front_more xs i d (omega arith))

pub split_at : (ws : List (Bor (List ℕ))) (i : ℕ) (d : Bor (List ℕ)) → i < length ws
    → take i (map (λ (l : Bor (List ℕ)). l.now) ws) ++ (get_or ws i d).now ∷ drop (suc i) (map (λ l. l.now) ws) ≡ map (λ l. l.now) ws
split_at [] i d h = absurd (omega arith)
split_at (x ∷ xs) zero d h = refl
split_at (x ∷ xs) (suc i) d h = ap (λ ls. x.now ∷ ls) (split_at xs i d (omega arith))

length_lines : (ws : List (Bor (List ℕ))) → length (map (λ (l : Bor (List ℕ)). l.now) ws) ≡ length ws
length_lines [] = refl
length_lines (x ∷ xs) = ap suc (length_lines xs)

pub all_lines : (ws : List (Bor (List ℕ))) → take (length ws) (map (λ (l : Bor (List ℕ)). l.now) ws) ≡ map (λ l. l.now) ws
all_lines [] = refl
all_lines (x ∷ xs) = ap (λ ls. x.now ∷ ls) (all_lines xs)

-- a run before its first line
pub starts : {full : Bool} (classes : Classes) (names : List (List ℕ)) (ws : List (Bor (List ℕ))) (w : Parts) (old : Option (List ℕ)) (failed : Bool) → Holds classes w (beginning classes)
    → Going full classes names (take 0 (map (λ (l : Bor (List ℕ)). l.now) ws)) 0 w old old failed failed
starts {full} classes names ws w old failed held = record {
  played = beginning classes;
  held = held;
  text = [];
  reached = reached_none full classes names;
  shown = record { grew = appends_none old; well = refl };
}

-- memory was refused at a line
pub stops : {full : Bool} (classes : Classes) (names : List (List ℕ)) (ws : List (Bor (List ℕ))) (i number : ℕ) (w : Parts) (old new : Option (List ℕ)) (failed fails : Bool) → i ≤ length ws
    → Going full classes names (take i (map (λ (l : Bor (List ℕ)). l.now) ws)) number w old new failed fails → Stops full classes names (map (λ l. l.now) ws) old new failed fails
stops {full} classes names ws i number w old new failed fails h going = record {
  above = i;
  within = rw (length_lines ws) h;
  printed = going_all full classes names (take i (map (λ l. l.now) ws)) number w old new failed fails going;
}

-- or before the first
pub stops_first : {full : Bool} (classes : Classes) (names lines : List (List ℕ)) (old : Option (List ℕ)) (failed : Bool) → Stops full classes names lines old old failed failed
stops_first {full} classes names lines old failed = record {
  above = 0;
  within = omega arith;
  printed = prints (run_lines full classes names []) [] false (beginning classes) old old failed failed refl
      (record { grew = appends_none old; well = refl });
}

-- a line was done
pub next_line : {full : Bool} (classes : Classes) (names : List (List ℕ)) (ws : List (Bor (List ℕ))) (i j : ℕ) (d : Bor (List ℕ)) (number m : ℕ) (w v : Parts) (old new next : Option (List ℕ)) (failed fails fails_now : Bool) (text : List ℕ) (bad : Bool)
    → i < length ws → j ≡ suc i → m ≡ suc number → Going full classes names (take i (map (λ (l : Bor (List ℕ)). l.now) ws)) number w old new failed fails
    → Takes full classes names (get_or ws i d).now m w v text bad → bad ≡ false → Appends new next text → fails_now ≡ fails
    → Going full classes names (take j (map (λ (l : Bor (List ℕ)). l.now) ws)) m v old next failed fails_now
next_line {full} classes names ws i j d number m w v old new next failed fails fails_now text bad h f e going is good more well =
    let P : ℕ → Type 0 = λ n. Takes full classes names (get_or ws i d).now n w v text bad in
    let Q : ℕ → Type 0 = λ n. Going full classes names (take j (map (λ (l : Bor (List ℕ)). l.now) ws)) n v old next failed fails_now in
    let S : ℕ → Type 0 = λ k. Going full classes names (take k (map (λ (l : Bor (List ℕ)). l.now) ws)) (suc number) v old next failed fails_now in
    let R : List (List ℕ) → Type 0 = λ ls. Going full classes names ls (suc number) v old next failed fails_now in
    subst Q (sym e) (subst S (sym f) (subst R (sym (front_more ws i d h))
    (going_more full classes names (take i (map (λ l. l.now) ws)) number w old new failed fails (get_or ws i d).now v text bad next fails_now going (subst P e is) good more well)))

-- a line is bad
pub bad_end : {full : Bool} (classes : Classes) (names : List (List ℕ)) (ws : List (Bor (List ℕ))) (i : ℕ) (d : Bor (List ℕ)) (number m : ℕ) (w v : Parts) (old new next : Option (List ℕ)) (failed fails fails_now : Bool) (text : List ℕ) (bad : Bool)
    → i < length ws → m ≡ suc number → Going full classes names (take i (map (λ (l : Bor (List ℕ)). l.now) ws)) number w old new failed fails
    → Takes full classes names (get_or ws i d).now m w v text bad → bad ≡ true → Appends new next text → fails_now ≡ fails
    → Prints (run_lines full classes names (map (λ (l : Bor (List ℕ)). l.now) ws)) true old next failed fails_now
bad_end {full} classes names ws i d number m w v old new next failed fails fails_now text bad h e going is was more well =
    let P : ℕ → Type 0 = λ n. Takes full classes names (get_or ws i d).now n w v text bad in
    let Q : List (List ℕ) → Type 0 = λ ls. Prints (run_lines full classes names ls) true old next failed fails_now in
    subst Q (split_at ws i d h)
    (going_bad full classes names (take i (map (λ l. l.now) ws)) number w old new failed fails (get_or ws i d).now (drop (suc i) (map (λ l. l.now) ws)) v text bad next fails_now going (subst P e is) was more well)

-- a line couldn't be printed whole
pub broken_off : {full : Bool} (classes : Classes) (names : List (List ℕ)) (ws : List (Bor (List ℕ))) (i : ℕ) (d : Bor (List ℕ)) (number m : ℕ) (w v : Parts) (old new next : Option (List ℕ)) (failed fails fails_now : Bool) (text : List ℕ) (bad : Bool)
    → i < length ws → m ≡ suc number → Going full classes names (take i (map (λ (l : Bor (List ℕ)). l.now) ws)) number w old new failed fails
    → Takes full classes names (get_or ws i d).now m w v text bad → Begins new next text → fails_now ≡ true
    → BreaksOff (run_lines full classes names (map (λ (l : Bor (List ℕ)). l.now) ws)) old next fails_now
broken_off {full} classes names ws i d number m w v old new next failed fails fails_now text bad h e going is begun lost =
    let P : ℕ → Type 0 = λ n. Takes full classes names (get_or ws i d).now n w v text bad in
    let Q : List (List ℕ) → Type 0 = λ ls. BreaksOff (run_lines full classes names ls) old next fails_now in
    subst Q (split_at ws i d h)
    (going_broken full classes names (take i (map (λ l. l.now) ws)) number w old new failed fails (get_or ws i d).now (drop (suc i) (map (λ l. l.now) ws)) v text bad next fails_now going (subst P e is) begun lost)

-- all lines were done
pub all_done : {full : Bool} (classes : Classes) (names : List (List ℕ)) (ws : List (Bor (List ℕ))) (i number : ℕ) (w : Parts) (old new : Option (List ℕ)) (failed fails : Bool) → i ≡ length ws
    → Going full classes names (take i (map (λ (l : Bor (List ℕ)). l.now) ws)) number w old new failed fails → Prints (run_lines full classes names (map (λ l. l.now) ws)) false old new failed fails
all_done {full} classes names ws i number w old new failed fails e going =
    let Q : List (List ℕ) → Type 0 = λ ls. Prints (run_lines full classes names ls) false old new failed fails in
    subst Q (ap (λ k. take k (map (λ (l : Bor (List ℕ)). l.now) ws)) e ∙ all_lines ws)
    (going_all full classes names (take i (map (λ l. l.now) ws)) number w old new failed fails going)

apart : {b : Bool} → b ≡ false → b ≡ true → ⊥
apart p q = let bad : false ≡ true = sym p ∙ q in absurd cc

-- if a print succeeds, its promise for that holds
pub printed_if : {T E : Type 0} (r : Result T E) (b : Bool) (P : Type 0) → b ≡ is_err r → b ≡ false → OnOk r P → P
printed_if (Ok x) b P e f p = p
printed_if (Err x) b P e f p = absurd (apart f e)

pub ok_if : {T E : Type 0} (r : Result T E) (b : Bool) → b ≡ is_err r → b ≡ false → IsOk r
ok_if (Ok x) b e f = refl
ok_if (Err x) b e f = absurd (apart f e)

-- if a print fails, its promise for that holds
pub broken_if : {T E : Type 0} (r : Result T E) (b : Bool) (P : Type 0) → b ≡ is_err r → b ≡ true → OnErr r P → P
broken_if (Ok x) b P e f p = absurd (apart e f)
broken_if (Err x) b P e f p = p

pub err_if : {T E : Type 0} (r : Result T E) (b : Bool) → b ≡ is_err r → b ≡ true → IsErr r
err_if (Ok x) b e f = absurd (apart e f)
err_if (Err x) b e f = refl
