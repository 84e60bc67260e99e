-- Helpers: what the typed machine takes and does, the flat machine takes and does.
use Rattle.std.proofs.Common.{◌≡◌, ℕ, ◌+◌, ◌%◌, ◌^◌, ◌<◌, ◌≤◌, List, [], ◌∷◌, Some, None, Bool, true, false, cond, refl, ap, ◌∙◌, arith}
use Rattle.std.specs.Prelude.{◌==◌, ◌||◌, not, unwrap_or, map, drop}
use Rattle.std.specs.Option.{option_map}
use Rattle.std.proofs.lemmas.List.{drop-map}
use Rattle.std.proofs.lemmas.Bool.{eqb-false}
use Rattle.bpf_decode.specs.declared.region.Region.{Region}
use Rattle.bpf_decode.specs.declared.value.Value.{Value}
use Rattle.bpf_decode.specs.declared.value.Value.TheVariants.{Num, Ptr}
use Rattle.bpf_machine.specs.declared.caps.Caps.{Caps}
use Rattle.helpers.specs.declared.argument.Argument.{Argument}
use Rattle.helpers.specs.declared.argument.Argument.TheVariants.{Number, OutputLength, Readable, Writable}
use Rattle.helpers.specs.Table.{signature_of, effect}
use Rattle.helpers.specs.Edits.{edits}
use Rattle.bpf_machine.specs.State.{◌>>=◌, only, may_store, size, with_edits}
use Rattle.bpf_machine.specs.Helper.{nothing_given, with_number, with_text, with_room, asked, bytes_in, write_room}
use Rattle.bpf_machine.specs.Flat.{Layout, IsLayout, base, find, range, arguments, help}
use Rattle.bpf_machine.specs.Typed.{Typed, locate, typed_range, typed_text, typed_arguments, typed_help, address, image_memory, image}
use Rattle.bpf_machine.proofs.Sim.{Sim, Any, same, sim_none, sim_some, sim_if, sim_eq, sim_bind, sim_drop, sim_same}
use Rattle.bpf_machine.proofs.Place.{find_sim}
use Rattle.bpf_machine.proofs.Parts.{text_sim, room_image}
use Rattle.bpf_machine.proofs.Registers.{register, number_in}

module _ (caps : Caps) (lay : Layout) (ok : IsLayout caps lay) where
  -- a range of some length is found at its address
  place : (r : Region) (o n : ℕ) → (n == 0) ≡ false → Sim (λ p. p.1 + n ≤ size caps p.0) (λ p. p) (locate caps (Ptr r o) 0 n) (find caps lay ((base lay r + o) % 2 ^ 64) n)
  place r o n e =
      let no = eqb-false n 0 e in
      let pos : 0 < n = omega arith in
      let zero_more : (base lay r + o) % 2 ^ 64 ≡ ((base lay r + o) % 2 ^ 64 + 0) % 2 ^ 64 = omega arith in
      sim_eq _ _ _ _ _ (ap (λ a. find caps lay a n) zero_more) (find_sim caps lay ok (Ptr r o) 0 n pos)

  -- a range of length 0 is found nowhere; another is a place
  range_cases : (writes : Bool) (r : Region) (o n : ℕ) (t : Bool) → (n == 0) ≡ t → Sim Any same (locate caps (Ptr r o) 0 n >>= λ p. cond t (Some None) (cond writes (only (may_store p.0) (Some (Some p))) (Some (Some p)))) (cond t (Some None) (find caps lay ((base lay r + o) % 2 ^ 64) n >>= λ p. cond writes (only (may_store p.0) (Some (Some p))) (Some (Some p))))
  range_cases writes r o n true e = sim_drop _ _ _ _ _ (λ p _. sim_same (Some None))
  range_cases true r o n false e =
      sim_bind _ _ _ _ _ _ _ _ (place r o n e) (λ p _ h. sim_same (only (may_store p.0) (Some (Some p))))
  range_cases false r o n false e =
      sim_bind _ _ _ _ _ _ _ _ (place r o n e) (λ p _ h. sim_same (Some (Some p)))

  range_sim : (writes : Bool) (v : Value) (n : ℕ) → Sim Any same (typed_range caps writes v n) (range caps lay writes (address lay v) n)
  range_sim writes (Num a) n = sim_none _ _ _
  range_sim writes (Ptr r o) n = range_cases writes r o n (n == 0) refl

  arguments_sim : (s : Typed) (more : List Argument) (k : ℕ) → Sim Any same (typed_arguments caps s more k) (arguments caps lay (image lay s) more k)
  arguments_sim s [] k = sim_same (Some (nothing_given s.limits s.caller))
  arguments_sim s (Number ∷ more) k =
      number_in caps lay same s k _ _ (λ n. sim_bind _ _ _ _ _ _ _ _ (arguments_sim s more (k + 1)) (λ g _ _. sim_same (Some (with_number n g))))
  arguments_sim s (OutputLength ∷ more) k =
      number_in caps lay same s k _ _ (λ n. sim_if _ _ _ _ _ (λ _. sim_bind _ _ _ _ _ _ _ _ (arguments_sim s more (k + 1)) (λ g _ _. sim_same (Some (with_number n g)))))
  arguments_sim s (Readable ∷ more) k =
      sim_bind Any (address lay) _ _ _ _ _ _ (register caps lay s k) (λ at _ _.
      number_in caps lay same s (k + 1) _ _ (λ n.
      sim_bind _ _ _ _ _ _ _ _ (range_sim false at n) (λ p _ _.
      sim_bind Any same Any same (typed_text s.memory p n) (Some (bytes_in (image_memory lay s.memory) p n)) _ (λ text. arguments caps lay (image lay s) more (k + 2) >>= λ g. Some (with_text text g)) (text_sim lay s.memory p n) (λ text _ _.
      sim_bind _ _ _ _ _ _ _ _ (arguments_sim s more (k + 2)) (λ g _ _. sim_same (Some (with_text text g)))))))
  arguments_sim s (Writable ∷ more) k =
      sim_bind Any (address lay) _ _ _ _ _ _ (register caps lay s k) (λ at _ _.
      number_in caps lay same s (k + 1) _ _ (λ n.
      sim_bind _ _ _ _ _ _ _ _ (range_sim true at n) (λ p _ _.
      sim_bind _ _ _ _ _ _ _ _ (arguments_sim s more (k + 2)) (λ g _ _. sim_same (Some (with_room n p g))))))

  pub help_sim : (id : ℕ) (s : Typed) → Sim Any (image lay) (typed_help caps id s) (help caps lay id (image lay s))
  help_sim id s =
      sim_bind Any same Any (image lay) _ _ _ _ (sim_same (signature_of id)) (λ takes _ _.
      sim_if Any (image lay) (not takes.writes || caps.writes) _ _ (λ _.
      sim_bind Any same Any (image lay) _ _ _ _ (arguments_sim s takes.arguments 1) (λ given _ _.
      let e = effect id s.object (asked given) in
      sim_some Any (image lay) _ _ tt
      (ap (λ regs. record { slot = s.slot; regs = Some e.answer ∷ None ∷ None ∷ None ∷ None ∷ None ∷ regs; memory = write_room (image_memory lay s.memory) given.target e.bytes; object = e.object; out_len = unwrap_or e.out_len s.out_len; caller = s.caller; limits = s.limits; edits = with_edits (edits id s.object (asked given)) s.edits }) (drop-map (option_map (address lay)) 6 s.regs)
      ∙ ap (λ memory. record { slot = s.slot; regs = Some e.answer ∷ None ∷ None ∷ None ∷ None ∷ None ∷ map (option_map (address lay)) (drop 6 s.regs); memory = memory; object = e.object; out_len = unwrap_or e.out_len s.out_len; caller = s.caller; limits = s.limits; edits = with_edits (edits id s.object (asked given)) s.edits }) (room_image lay s.memory given.target e.bytes)))))
