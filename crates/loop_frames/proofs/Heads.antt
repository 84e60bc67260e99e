-- The frame at a head is true of what the frame that flows there is true of.
use Rattle.std.proofs.Common.{◌≡◌, ℕ, ◌-◌, List, [], ◌∷◌, length, Option, Bool, true, false, refl, inl, ap, ◌∙◌, sym, subst, cond}
use Rattle.std.specs.Prelude.{nat_lt, slice_get, slice_set}
use Rattle.std.proofs.lemmas.List.{length-set, length-replicate}
use Rattle.bpf_decode.specs.declared.value.Value.{Value}
use Rattle.abstract_num.specs.declared.precision.Precision.{Precision}
use Rattle.abstract_regs.specs.Kind.{PlainKind, HoldsKind, join_kind}
use Rattle.abstract_regs.specs.Link.{no_link, HoldsLink, NameBelow}
use Rattle.abstract_regs.specs.Links.{slot_place}
use Rattle.abstract_regs.specs.Frame.{PlainFrame, or_unset, kind_at, with_kind, with_slots, HoldsEach}
use Rattle.abstract_regs.specs.Moves.{value_at, HoldsLinks}
use Rattle.abstract_regs.specs.Laws.{JoinsHold}
use Rattle.abstract_regs.proofs.LinkJoins.{none_in}
use Rattle.loop_heads.specs.declared.place.HeadPlace.{HeadPlace}
use Rattle.loop_frames.specs.Heads.{declared_kind, place_kind, with_place, with_declared, all_declared, unlinked_frame}
use Rattle.loop_frames.proofs.Registers.{held, kept}
use Rattle.loop_frames.specs.Laws.{HeadsKeep}

abbrev one : PlainKind → PlainFrame
one x = record { registers = x ∷ []; slots = []; links = [] }

-- no longer a frame, and true of the same
record Kept (f g : PlainFrame) : Type 0 where
  keeps : (cs vs : List (Option Value)) → HoldsEach f.registers cs → HoldsEach f.slots vs → HoldsEach g.registers cs × HoldsEach g.slots vs
  registers : length g.registers ≡ length f.registers
  slots : length g.slots ≡ length f.slots
  links : g.links ≡ f.links

module _ (law : JoinsHold) where
  joined_kind : (x y : PlainKind) (c : Option Value) → HoldsKind x c → HoldsKind (join_kind x y) c
  joined_kind x y c h = let both = law (one x) (one y) in let here = both.left (c ∷ []) (h, tt) in here.0

  register_kept : (f : PlainFrame) (n : ℕ) (y : PlainKind) → Kept f (with_kind f n (join_kind (kind_at f n) y))
  register_kept f n y = record {
    keeps = λ cs vs h s. (kept f.registers cs n (join_kind (kind_at f n) y) (joined_kind (kind_at f n) y (value_at cs n) (held f.registers cs n h)) h, s);
    registers = length-set f.registers n (join_kind (kind_at f n) y);
    slots = refl;
    links = refl;
  }

  slot_kept : (f : PlainFrame) (j : ℕ) (y : PlainKind) → Kept f (with_slots f (slice_set f.slots j (join_kind (or_unset (slice_get f.slots j)) y)))
  slot_kept f j y = record {
    keeps = λ cs vs h s. (h, kept f.slots vs j (join_kind (or_unset (slice_get f.slots j)) y) (joined_kind (or_unset (slice_get f.slots j)) y (value_at vs j) (held f.slots vs j s)) s);
    registers = refl;
    slots = length-set f.slots j (join_kind (or_unset (slice_get f.slots j)) y);
    links = refl;
  }

  place_kept : (f : PlainFrame) (n : ℕ) (y : PlainKind) → Kept f (with_place f n (join_kind (place_kind f n) y))
  place_kept f n y = by (nat_lt n 11)
    where
      by : (b : Bool) → Kept f (cond b (with_kind f n (join_kind (cond b (kind_at f n) (or_unset (slice_get f.slots (n - 11)))) y)) (with_slots f (slice_set f.slots (n - 11) (join_kind (cond b (kind_at f n) (or_unset (slice_get f.slots (n - 11)))) y))))
      by true = register_kept f n y
      by false = slot_kept f (n - 11) y

  all_kept : (precision : Precision) (places : List HeadPlace) (f : PlainFrame) → Kept f (all_declared precision places f)
  all_kept precision [] f = record { keeps = λ cs vs h s. (h, s); registers = refl; slots = refl; links = refl }
  all_kept precision (p ∷ ps) f =
      let first = place_kept f p.number (declared_kind precision p.kind) in
      let rest = all_kept precision ps (with_declared precision f p) in
      record {
        keeps = λ cs vs h s. let both = first.keeps cs vs h s in rest.keeps cs vs both.0 both.1;
        registers = rest.registers ∙ first.registers;
        slots = rest.slots ∙ first.slots;
        links = rest.links ∙ first.links;
      }

  no_links : (f : PlainFrame) (cs vs : List (Option Value)) → HoldsLinks (unlinked_frame f) cs vs
  no_links f cs vs = (
    λ _. 0,
    record {
      registers = λ r few. subst (λ l. HoldsLink (λ _. 0) l (value_at cs r)) (sym (none_in (length f.links) r)) tt;
      slots = λ j. subst (λ l. HoldsLink (λ _. 0) l (value_at vs j)) (sym (none_in (length f.links) (slot_place j))) tt;
    },
  )

  pub heads_keep : HeadsKeep
  heads_keep precision places f =
      let all = all_kept precision places f in
      let g = all_declared precision places f in
      record {
        keeps = λ cs vs h. let both = all.keeps cs vs h.registers h.slots in record { registers = both.0; slots = both.1; links = no_links g cs vs };
        slots = all.slots;
        registers = all.registers;
        links = length-replicate (length g.links) no_link ∙ ap length all.links;
        names = λ p place. subst (NameBelow p) (sym (none_in (length g.links) place)) (inl refl);
      }
