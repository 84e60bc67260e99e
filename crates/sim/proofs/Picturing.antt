-- Lines that were done without their text, and the bad line at which they end.
use Rattle.std.proofs.Common.{◌≡◌, ◌<◌, ℕ, suc, List, [], ◌∷◌, ◌++◌, length, map, Bor, Bool, true, false, if◌then◌else◌, Option, Some, None, sym, ap, subst, ◌∙◌, take, drop, get_or}
use Rattle.pg_log.specs.Log.{Classes}
use Rattle.sim_world.specs.Lines.{line_of}
use Rattle.sim_world.specs.Texts.{is_bad, taken_text}
use Rattle.sim_world.specs.declared.line.Line.{Line}
use Rattle.sim_world.specs.declared.taken.Taken.{Taken}
use Rattle.sim.specs.Run.{Does, EndsAt, HasBad, IsPicture, Printed, bad_line, run_lines, text_of}
use Rattle.sim.specs.Simulating.{Draws}
use Rattle.sim.proofs.Reaching.{Reached, all_lines, front_more, reached_all, reached_bad, reached_more, reached_none, said_of, split_at}
use Rattle.sim_world.specs.Step.{Played, beginning, step}
use Rattle.sim_world.specs.Holds.{Holds, IsStep, Steps}
use Rattle.sim_world.specs.inner.Parts.{Parts}

-- a line was done
pub line_done : (classes : Classes) (names : List (List ℕ)) (line : List ℕ) (old new : Parts) (l : Line) (taken : Taken) (bad : Bool)
    → l ≡ line_of names line → Steps classes old new l taken → bad ≡ is_bad taken → Does classes names line old new bad
line_done classes names line old new l taken bad e steps b = λ p held.
    let is : IsStep classes new p (line_of names line) taken = subst (λ (m : Line). IsStep classes new p m taken) e (steps p held) in
    record { held = is.held; is = b ∙ ap is_bad is.came }

abbrev texts : List (Bor (List ℕ)) → List (List ℕ)
texts ws = map (λ (w : Bor (List ℕ)). w.now) ws

-- the state of a run: some lines were done, and none of them is bad
pub record Doing (classes : Classes) (names above : List (List ℕ)) (number : ℕ) (w : Parts) : Type 0 where
  pub played : Played
  pub held : Holds classes w played
  pub text : List ℕ
  pub reached : Reached false classes names above number played text

pub none_done : (classes : Classes) (names : List (List ℕ)) (ws : List (Bor (List ℕ))) (w : Parts) → Holds classes w (beginning classes)
    → Doing classes names (take 0 (map (λ (l : Bor (List ℕ)). l.now) ws)) 0 w
none_done classes names ws w held = record { played = beginning classes; held = held; text = []; reached = reached_none false classes names }

-- a line more
pub one_done : (classes : Classes) (names : List (List ℕ)) (ws : List (Bor (List ℕ))) (i j : ℕ) (d : Bor (List ℕ)) (number m : ℕ) (w v : Parts) (bad : Bool)
    → i < length ws → j ≡ suc i → m ≡ suc number → Doing classes names (take i (map (λ (l : Bor (List ℕ)). l.now) ws)) number w
    → Does classes names (get_or ws i d).now w v bad → bad ≡ false → Doing classes names (take j (map (λ (l : Bor (List ℕ)). l.now) ws)) m v
one_done classes names ws i j d number m w v bad h f e at does good =
    let line = (get_or ws i d).now in
    let is = does at.played at.held in
    let now : Doing classes names (take i (texts ws) ++ line ∷ []) (suc number) v = record {
      played = (step at.played (line_of names line)).played;
      held = is.held;
      text = at.text ++ said_of (text_of false classes) names (suc number) at.played line;
      reached = reached_more false classes names (take i (texts ws)) number at.played at.text line at.reached (sym is.is ∙ good);
    } in
    subst (λ (n : ℕ). Doing classes names (take j (texts ws)) n v) (sym e)
    (subst (λ (k : ℕ). Doing classes names (take k (texts ws)) (suc number) v) (sym f)
    (subst (λ (ls : List (List ℕ)). Doing classes names ls (suc number) v) (sym (front_more ws i d h)) now))

-- the next one is bad
pub bad_at : (classes : Classes) (names : List (List ℕ)) (ws : List (Bor (List ℕ))) (i : ℕ) (d : Bor (List ℕ)) (number m : ℕ) (w v : Parts) (bad : Bool)
    → i < length ws → m ≡ suc number → Doing classes names (take i (map (λ (l : Bor (List ℕ)). l.now) ws)) number w
    → Does classes names (get_or ws i d).now w v bad → bad ≡ true → HasBad (run_lines false classes names (map (λ (l : Bor (List ℕ)). l.now) ws)) (Some m)
bad_at classes names ws i d number m w v bad h e at does was =
    let line = (get_or ws i d).now in
    let rest = drop (suc i) (texts ws) in
    let is = does at.played at.held in
    let h' = step at.played (line_of names line) in
    let wrong : is_bad h'.taken ≡ true = sym is.is ∙ was in
    let whole = reached_bad false classes names (take i (texts ws)) number at.played at.text line rest at.reached wrong in
    let ends : EndsAt (run_lines false classes names (take i (texts ws) ++ line ∷ rest)) (suc number) = record {
      is = ap (λ (r : Printed). r.bad) whole;
      above = at.text;
      says = ap (λ (r : Printed). r.text) whole ∙ ap (λ (b : Bool). at.text ++ (if b then bad_line (suc number) else taken_text h'.played.world.sent h'.taken)) wrong;
    } in
    subst (λ (n : ℕ). EndsAt (run_lines false classes names (texts ws)) n) (sym e)
    (subst (λ (ls : List (List ℕ)). EndsAt (run_lines false classes names ls) (suc number)) (split_at ws i d h) ends)

-- all were done
pub none_bad : (classes : Classes) (names : List (List ℕ)) (ws : List (Bor (List ℕ))) (i number : ℕ) (w : Parts) → i ≡ length ws
    → Doing classes names (take i (map (λ (l : Bor (List ℕ)). l.now) ws)) number w → HasBad (run_lines false classes names (map (λ (l : Bor (List ℕ)). l.now) ws)) None
none_bad classes names ws i number w e at =
    subst (λ (ls : List (List ℕ)). (run_lines false classes names ls).bad ≡ false) (ap (λ (k : ℕ). take k (texts ws)) e ∙ all_lines ws)
    (ap (λ (r : Printed). r.bad) (reached_all false classes names (take i (texts ws)) number at.played at.text at.reached))

-- a picture of lines is their drawing
pub is_drawing : (run : Printed) (number : Option ℕ) (text : List ℕ) (bad : Bool) → HasBad run number → IsPicture number text bad → Draws run text bad
is_drawing run None text bad has is = record {
  is = has ∙ sym is.bad_is;
  ends = λ e. let no : false ≡ true = sym is.bad_is ∙ e in absurd cc;
}
is_drawing run (Some number) text bad has is = record {
  is = has.is ∙ sym is.bad_is;
  ends = λ e. record { number = number; above = has.above; picture = is.picture; printed_is = has.says; drawn_is = is.text_is };
}
