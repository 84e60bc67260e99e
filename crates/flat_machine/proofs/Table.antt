-- The helper of an id is its row.
use Rattle.std.proofs.Common.{◌≡◌, ℕ, Option, Some, None, true, false, ap, ◌∙◌, sym, cond}
use Rattle.std.specs.Prelude.{◌||◌, not, unwrap_or}
use Rattle.std.specs.Option.{option_map}
use Rattle.helpers.specs.declared.helper.Helper.{Helper}
use Rattle.helpers.specs.Edits.{edits_of}
use Rattle.helpers.specs.Table.{row, helper_of, effect_of}
use Rattle.bpf_machine.specs.declared.caps.Caps.{Caps}
use Rattle.bpf_machine.specs.State.{◌>>=◌, only, State, with_edits}
use Rattle.bpf_machine.specs.Helper.{asked, answered, write_room}
use Rattle.bpf_machine.specs.Flat.{Layout, arguments, help}
use Rattle.flat_machine.specs.inner.FlatState.{may_call, helped}

module _ (caps : Caps) (lay : Layout) (s : State ℕ) where
  -- what the helper of an id does, where there is leave
  abbrev help_of : Option Helper → Option (State ℕ)
  help_of o =
      option_map (λ k. (row k).takes) o >>= λ takes. only (not takes.writes || caps.writes) (arguments caps lay s takes.arguments 1 >>= λ g.
      let f = effect_of o s.object (asked g) in
      Some (record { slot = s.slot; regs = answered s.regs f.answer; memory = write_room s.memory g.target f.bytes; object = f.object; out_len = unwrap_or f.out_len s.out_len; caller = s.caller; limits = s.limits; edits = with_edits (edits_of o s.object (asked g)) s.edits }))

  -- where it may, its row says what it does
  pub help_is : (id : ℕ) (h : Helper) → may_call caps id ≡ true → helper_of id ≡ Some h → help caps lay id s ≡ helped caps lay h s
  help_is id h leave e =
      let allowed : (not (row h).takes.writes || caps.writes) ≡ true = sym (ap (λ o. unwrap_or (option_map (λ takes. not takes.writes || caps.writes) (option_map (λ k. (row k).takes) o)) false) e) ∙ leave in
      ap help_of e ∙ ap (λ b. cond b (helped caps lay h s) None) allowed
