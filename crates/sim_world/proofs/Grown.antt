-- Lists that grew by one item.
use Rattle.std.proofs.Common.{◌≡◌, ◌<◌, ℕ, suc, List, [], ◌∷◌, ◌++◌, length, drop, get_or, map, sym, ap, ◌∙◌, append_assoc, drop-cons}
use Rattle.group_world.specs.declared.message.Packet.{Packet}
use Rattle.sim_world.specs.Kept.{kept_line}
use Rattle.sim_world.specs.declared.kept.KeptMessage.{KeptMessage}
use Rattle.sim_world.specs.inner.Parts.{kept_lines}

-- the list that is made from messages, after one more
pub made_more : {A : Type 0} (f : Packet → A) (made grown : List A) (x : A) (p : Packet) (rest left : List Packet) (all : List A) → grown ≡ made ++ x ∷ [] → x ≡ f p
    → rest ≡ p ∷ left → made ++ map f rest ≡ all → grown ++ map f left ≡ all
made_more {A} f made grown x p rest left all more is step so_far =
    ap (λ (g : List A). g ++ map f left) more
    ∙ append_assoc made (x ∷ []) (map f left)
    ∙ ap (λ (y : A). made ++ y ∷ map f left) is
    ∙ ap (λ (ps : List Packet). made ++ map f ps) (sym step)
    ∙ so_far

-- the text of messages, after one more line
pub lines_more : (ks : List KeptMessage) (i j : ℕ) (d : KeptMessage) (text grown line : List ℕ) (n m : ℕ) (k : KeptMessage) (all : List ℕ) → i < length ks → j ≡ suc i → m ≡ suc n
    → k ≡ get_or ks i d → line ≡ kept_line n k.receiver k.message → grown ≡ text ++ line → text ++ kept_lines n (drop i ks) ≡ all → grown ++ kept_lines m (drop j ks) ≡ all
lines_more ks i j d text grown line n m k all h next up here is more so_far =
    ap (λ (g : List ℕ). g ++ kept_lines m (drop j ks)) more
    ∙ ap (λ (x : ℕ). (text ++ line) ++ kept_lines m (drop x ks)) next
    ∙ ap (λ (x : ℕ). (text ++ line) ++ kept_lines x (drop (suc i) ks)) up
    ∙ ap (λ (l : List ℕ). (text ++ l) ++ kept_lines (suc n) (drop (suc i) ks)) (is ∙ ap (λ (q : KeptMessage). kept_line n q.receiver q.message) here)
    ∙ append_assoc text (kept_line n (get_or ks i d).receiver (get_or ks i d).message) (kept_lines (suc n) (drop (suc i) ks))
    ∙ ap (λ (l : List KeptMessage). text ++ kept_lines n l) (sym (drop-cons ks i d h))
    ∙ so_far
