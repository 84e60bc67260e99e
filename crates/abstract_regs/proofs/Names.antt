-- Instructions keep the number of places that may be linked, and give links no names of later
-- slots.
use Rattle.std.proofs.Common.{◌≡◌, ℕ, ◌+◌, ◌-◌, ◌%◌, ◌^◌, ◌<◌, List, length, Option, Some, None, Bool, cond, refl, inl, inr, ap, ◌∙◌, sym, subst, arith, ⊎_elim}
use Rattle.std.specs.Prelude.{◌==◌, ◌&&◌, nat_le, slice_set}
use Rattle.std.proofs.lemmas.Bool.{cases_eq, cond_both, false≢true}
use Rattle.std.proofs.lemmas.List.{length-set}
use Rattle.bpf_decode.specs.declared.insn.Operand.{Operand}
use Rattle.bpf_decode.specs.declared.insn.Operand.TheVariants.{Immediate, Register}
use Rattle.bpf_decode.specs.declared.insn.Insn.{Insn}
use Rattle.bpf_decode.specs.declared.insn.Insn.TheVariants.{Alu, Neg, Mov, MovSigned, End, LoadWide, Load, LoadSigned, Store, Jump, JumpLong, Branch, Call, CallLocal, Exit}
use Rattle.bpf_decode.specs.declared.operation.OpWidth.{OpWidth}
use Rattle.bpf_decode.specs.declared.operation.OpWidth.TheVariants.{Bits32, Bits64}
use Rattle.bpf_decode.specs.declared.operation.Arithmetic.{Arithmetic}
use Rattle.bpf_decode.specs.declared.operation.Arithmetic.TheVariants.{Add, Sub, Mul, Div, SignedDiv, Or, And, Lsh, Rsh, Mod, SignedMod, Xor, Arsh}
use Rattle.bpf_decode.specs.declared.operation.SignedMove.{SignedMove}
use Rattle.bpf_decode.specs.declared.operation.SignedMove.TheVariants.{Byte64, Half64, Word64, Byte32, Half32}
use Rattle.bpf_decode.specs.Instruction.{byte_count}
use Rattle.bpf_decode.specs.Values.{extended}
use Rattle.abstract_num.specs.declared.precision.Precision.{Precision}
use Rattle.abstract_num.specs.Plain.{Plain}
use Rattle.abstract_regs.specs.declared.link.Link.{Link}
use Rattle.abstract_regs.specs.declared.link.LinkForm.{LinkForm}
use Rattle.abstract_regs.specs.declared.link.LinkForm.TheVariants.{Unlinked, Whole}
use Rattle.abstract_regs.specs.Kind.{PlainKind, Unset, Num, Ptr}
use Rattle.abstract_regs.specs.Slots.{Span, stack_place, access_span}
use Rattle.abstract_regs.specs.Frame.{PlainFrame, kind_at, operand_kind, room_span}
use Rattle.abstract_regs.specs.Link.{no_link, is_linked, is_whole, link_in, NameBelow, shaped, low_form, up_form, sign_form, down_form, moved_link, is_ones, unlinked}
use Rattle.abstract_regs.specs.Links.{slot_place, is_touched, is_clobbered, accessed_slot, slot_at, taken, copied_link, is_short, halved_link, moved_links, extended_links, loaded_links, stored_links, constant_of, shifted_link, masked_link, alu_link, constant_link, computed_link, links_after}
use Rattle.abstract_regs.specs.Laws.{FlowsKeepLinks, FlowsKeepNames}
use Rattle.abstract_regs.proofs.LinkLists.{link_set_other, link_set_same, link_unlinked, length_unlinked}
use Rattle.abstract_regs.proofs.Lengths.{flow_links}

-- ---- lengths

copied_long : (p : ℕ) (ls : List Link) (source : ℕ) (x : PlainKind) (target : ℕ) → length (copied_link p ls source x target) ≡ length ls
copied_long p ls source x target =
    let l = taken p x (link_in ls source) in length-set (slice_set ls source l) target l ∙ length-set ls source l

halved_long : (p : ℕ) (ls : List Link) (source : ℕ) (x : PlainKind) (target : ℕ) → length (halved_link p ls source x target) ≡ length ls
halved_long p ls source x target =
    let l = taken p x (link_in ls source) in
    cond_both (is_short x) (slice_set (slice_set ls source l) target (shaped l (low_form l.form))) (slice_set ls target no_link) (λ (xs : List Link). length xs ≡ length ls)
    (λ _. length-set (slice_set ls source l) target (shaped l (low_form l.form)) ∙ length-set ls source l) (λ _. length-set ls target no_link)

moved_long : (bits : OpWidth) (source : Operand) (p : ℕ) (f : PlainFrame) (d : ℕ) → length (moved_links bits source p f d) ≡ length f.links
moved_long bits (Immediate imm) p f d = length-set f.links d no_link
moved_long Bits64 (Register src) p f d = copied_long p f.links src (kind_at f src) d
moved_long Bits32 (Register src) p f d = halved_long p f.links src (kind_at f src) d

extended_long : (extension : SignedMove) (src p : ℕ) (f : PlainFrame) (d : ℕ) → length (extended_links extension src p f d) ≡ length f.links
extended_long Word64 src p f d = halved_long p f.links src (kind_at f src) d
extended_long Byte64 src p f d = length-set f.links d no_link
extended_long Half64 src p f d = length-set f.links d no_link
extended_long Byte32 src p f d = length-set f.links d no_link
extended_long Half32 src p f d = length-set f.links d no_link

loaded_long : (o : Option ℕ) (p : ℕ) (f : PlainFrame) (d : ℕ) → length (loaded_links o p f d) ≡ length f.links
loaded_long None p f d = length-set f.links d no_link
loaded_long (Some j) p f d = copied_long p f.links (slot_place j) (slot_at f j) d

stored_long : (o : Option ℕ) (span : Option Span) (source : Operand) (p : ℕ) (f : PlainFrame) → length (stored_links o span source p f) ≡ length f.links
stored_long None span source p f = length_unlinked (is_touched span) 0 f.links
stored_long (Some j) span (Immediate imm) p f = length-set f.links (slot_place j) no_link
stored_long (Some j) span (Register src) p f = copied_long p f.links src (kind_at f src) (slot_place j)

after_long : (precision : Precision) (room : Option ℕ) (i : Insn) (p : ℕ) (f : PlainFrame) → length (links_after precision room i p f) ≡ length f.links
after_long precision room (Alu bits operation d x) p f = length-set f.links d _
after_long precision room (Neg bits d) p f = length-set f.links d no_link
after_long precision room (Mov bits d x) p f = moved_long bits x p f d
after_long precision room (MovSigned extension d src) p f = extended_long extension src p f d
after_long precision room (End order width d) p f = length-set f.links d no_link
after_long precision room (LoadWide d value) p f = length-set f.links d no_link
after_long precision room (Load width d base offset) p f = loaded_long (accessed_slot precision f (kind_at f base) (extended offset) (byte_count width)) p f d
after_long precision room (LoadSigned width d base offset) p f = length-set f.links d no_link
after_long precision room (Store width base offset x) p f =
    stored_long (accessed_slot precision f (kind_at f base) (extended offset) (byte_count width)) (access_span (stack_place precision (kind_at f base) (extended offset)) (byte_count width)) x p f
after_long precision room (Jump offset) p f = refl
after_long precision room (JumpLong distance) p f = refl
after_long precision room (Branch bits comparison d x offset) p f = refl
after_long precision room (Call helper) p f = length_unlinked (is_touched (room_span f room)) 0 (unlinked is_clobbered 0 f.links) ∙ length_unlinked is_clobbered 0 f.links
after_long precision room (CallLocal distance) p f = refl
after_long precision room Exit p f = refl

pub flows_keep_links : FlowsKeepLinks
flows_keep_links precision room answer i p q f g e = ap length (flow_links precision room answer i p q f g e) ∙ after_long precision room i p f

-- ---- names

-- every name is below n
abbrev AllBelow : ℕ → List Link → Type 0
AllBelow n ls = (place : ℕ) → NameBelow n (link_in ls place)

module _ (n : ℕ) where
  none_below : NameBelow n no_link
  none_below = inl refl

  set_below : (ls : List Link) (d : ℕ) (l : Link) → AllBelow n ls → NameBelow n l → AllBelow n (slice_set ls d l)
  set_below ls d l all is place = ⊎_elim
      (λ (e : place ≡ d). ⊎_elim
      (λ (same : link_in (slice_set ls d l) d ≡ l). subst (NameBelow n) (sym (ap (link_in (slice_set ls d l)) e ∙ same)) is)
      (λ (none : link_in (slice_set ls d l) d ≡ no_link). subst (NameBelow n) (sym (ap (link_in (slice_set ls d l)) e ∙ none)) none_below) (link_set_same ls d l))
      (λ (ne : place ≡ d → ⊥). subst (NameBelow n) (sym (link_set_other ls d place l ne)) (all place)) (cases_eq place d)

  unlink_below : (places : ℕ → Bool) (ls : List Link) → AllBelow n ls → AllBelow n (unlinked places 0 ls)
  unlink_below places ls all place =
      subst (NameBelow n) (sym (link_unlinked places 0 ls place)) (cond_both (places (0 + place)) no_link (link_in ls place) (NameBelow n) (λ _. none_below) (λ _. all place))

  taken_below : (p : ℕ) (x : PlainKind) (l : Link) → p < n → NameBelow n l → NameBelow n (taken p x l)
  taken_below p Unset l lt h = none_below
  taken_below p (Num k) l lt h = cond_both (is_linked l.form) l (record { distance = 0; name = p; form = Whole }) (NameBelow n) (λ _. h) (λ _. inr lt)
  taken_below p (Ptr r k) l lt h = none_below

  -- another form, which is none of none
  form_below : (to : LinkForm → LinkForm) (l : Link) → to Unlinked ≡ Unlinked → NameBelow n l → NameBelow n (shaped l (to l.form))
  form_below to l none h = ⊎_elim
      (λ (e : l.form ≡ Unlinked). let same : to l.form ≡ Unlinked = ap to e ∙ none in subst (λ form. NameBelow n (shaped l form)) (sym same) none_below)
      (λ (lt : l.name < n). cond_both (is_linked (to l.form)) (record { distance = l.distance; name = l.name; form = to l.form }) no_link (NameBelow n) (λ _. inr lt) (λ _. none_below)) h

  moved_below : (l : Link) (by : ℕ) → NameBelow n l → NameBelow n (moved_link l by)
  moved_below l by h = ⊎_elim
      (λ (e : l.form ≡ Unlinked). cond_both (is_whole l.form) (record { distance = (l.distance + by) % 2 ^ 64; name = l.name; form = Whole }) no_link (NameBelow n)
      (λ w. absurd (false≢true (sym (ap is_whole e) ∙ w))) (λ _. none_below))
      (λ (lt : l.name < n). cond_both (is_whole l.form) (record { distance = (l.distance + by) % 2 ^ 64; name = l.name; form = Whole }) no_link (NameBelow n) (λ _. inr lt) (λ _. none_below)) h

  shifted_below : (c : ℕ) (l : Link) → NameBelow n l → NameBelow n (shifted_link c l)
  shifted_below c l h = cond_both (c % 64 == 32) l no_link (NameBelow n) (λ _. h) (λ _. none_below)

  masked_below : (k : Plain) (c : ℕ) (l : Link) → NameBelow n l → NameBelow n (masked_link k c l)
  masked_below k c l h =
      cond_both (is_ones c && nat_le k.high c) l (cond (c == 2 ^ 31) (shaped l (sign_form l.form)) no_link) (NameBelow n) (λ _. h)
      (λ _. cond_both (c == 2 ^ 31) (shaped l (sign_form l.form)) no_link (NameBelow n) (λ _. form_below sign_form l refl h) (λ _. none_below))

  alu_below : (bits : OpWidth) (operation : Arithmetic) (k : Plain) (c : ℕ) (l : Link) → NameBelow n l → NameBelow n (alu_link bits operation k c l)
  alu_below Bits64 Add k c l h = moved_below l c h
  alu_below Bits64 Sub k c l h = moved_below l (2 ^ 64 - c) h
  alu_below Bits64 Mul k c l h = none_below
  alu_below Bits64 Div k c l h = none_below
  alu_below Bits64 SignedDiv k c l h = none_below
  alu_below Bits64 Or k c l h = none_below
  alu_below Bits64 And k c l h = masked_below k c l h
  alu_below Bits64 Lsh k c l h = shifted_below c (shaped l (up_form l.form)) (form_below up_form l refl h)
  alu_below Bits64 Rsh k c l h = shifted_below c (shaped l (down_form l.form)) (form_below down_form l refl h)
  alu_below Bits64 Mod k c l h = none_below
  alu_below Bits64 SignedMod k c l h = none_below
  alu_below Bits64 Xor k c l h = none_below
  alu_below Bits64 Arsh k c l h = shifted_below c (shaped l (down_form l.form)) (form_below down_form l refl h)
  alu_below Bits32 Add k c l h = none_below
  alu_below Bits32 Sub k c l h = none_below
  alu_below Bits32 Mul k c l h = none_below
  alu_below Bits32 Div k c l h = none_below
  alu_below Bits32 SignedDiv k c l h = none_below
  alu_below Bits32 Or k c l h = none_below
  alu_below Bits32 And k c l h = masked_below k c l h
  alu_below Bits32 Lsh k c l h = none_below
  alu_below Bits32 Rsh k c l h = none_below
  alu_below Bits32 Mod k c l h = none_below
  alu_below Bits32 SignedMod k c l h = none_below
  alu_below Bits32 Xor k c l h = none_below
  alu_below Bits32 Arsh k c l h = none_below

  constant_below : (bits : OpWidth) (operation : Arithmetic) (k : Plain) (o : Option ℕ) (l : Link) → NameBelow n l → NameBelow n (constant_link bits operation k o l)
  constant_below bits operation k None l h = none_below
  constant_below bits operation k (Some c) l h = alu_below bits operation k c l h

  computed_below : (bits : OpWidth) (operation : Arithmetic) (x y : PlainKind) (l : Link) → NameBelow n l → NameBelow n (computed_link bits operation x y l)
  computed_below bits operation Unset y l h = none_below
  computed_below bits operation (Num k) y l h = constant_below bits operation k (constant_of bits y) l h
  computed_below bits operation (Ptr r k) y l h = none_below

  module _ (p : ℕ) (lt : p < n) (f : PlainFrame) (all : AllBelow n f.links) where
    freed : (d : ℕ) → AllBelow n (slice_set f.links d no_link)
    freed d = set_below f.links d no_link all none_below

    copied : (source : ℕ) (x : PlainKind) (target : ℕ) → AllBelow n (copied_link p f.links source x target)
    copied source x target =
        let l = taken p x (link_in f.links source) in
        let is = taken_below p x (link_in f.links source) lt (all source) in
        set_below (slice_set f.links source l) target l (set_below f.links source l all is) is

    halved : (source : ℕ) (x : PlainKind) (target : ℕ) → AllBelow n (halved_link p f.links source x target)
    halved source x target =
        let l = taken p x (link_in f.links source) in
        let is = taken_below p x (link_in f.links source) lt (all source) in
        cond_both (is_short x) (slice_set (slice_set f.links source l) target (shaped l (low_form l.form))) (slice_set f.links target no_link) (AllBelow n)
        (λ _. set_below (slice_set f.links source l) target (shaped l (low_form l.form)) (set_below f.links source l all is) (form_below low_form l refl is)) (λ _. freed target)

    moved : (bits : OpWidth) (source : Operand) (d : ℕ) → AllBelow n (moved_links bits source p f d)
    moved bits (Immediate imm) d = freed d
    moved Bits64 (Register src) d = copied src (kind_at f src) d
    moved Bits32 (Register src) d = halved src (kind_at f src) d

    extends : (extension : SignedMove) (src d : ℕ) → AllBelow n (extended_links extension src p f d)
    extends Word64 src d = halved src (kind_at f src) d
    extends Byte64 src d = freed d
    extends Half64 src d = freed d
    extends Byte32 src d = freed d
    extends Half32 src d = freed d

    loaded : (o : Option ℕ) (d : ℕ) → AllBelow n (loaded_links o p f d)
    loaded None d = freed d
    loaded (Some j) d = copied (slot_place j) (slot_at f j) d

    stored : (o : Option ℕ) (span : Option Span) (source : Operand) → AllBelow n (stored_links o span source p f)
    stored None span source = unlink_below (is_touched span) f.links all
    stored (Some j) span (Immediate imm) = freed (slot_place j)
    stored (Some j) span (Register src) = copied src (kind_at f src) (slot_place j)

    after_below : (precision : Precision) (room : Option ℕ) (i : Insn) → AllBelow n (links_after precision room i p f)
    after_below precision room (Alu bits operation d x) = set_below f.links d _ all (computed_below bits operation (kind_at f d) (operand_kind f x) (link_in f.links d) (all d))
    after_below precision room (Neg bits d) = freed d
    after_below precision room (Mov bits d x) = moved bits x d
    after_below precision room (MovSigned extension d src) = extends extension src d
    after_below precision room (End order width d) = freed d
    after_below precision room (LoadWide d value) = freed d
    after_below precision room (Load width d base offset) = loaded (accessed_slot precision f (kind_at f base) (extended offset) (byte_count width)) d
    after_below precision room (LoadSigned width d base offset) = freed d
    after_below precision room (Store width base offset x) =
        stored (accessed_slot precision f (kind_at f base) (extended offset) (byte_count width)) (access_span (stack_place precision (kind_at f base) (extended offset)) (byte_count width)) x
    after_below precision room (Jump offset) = all
    after_below precision room (JumpLong distance) = all
    after_below precision room (Branch bits comparison d x offset) = all
    after_below precision room (Call helper) = unlink_below (is_touched (room_span f room)) (unlinked is_clobbered 0 f.links) (unlink_below is_clobbered f.links all)
    after_below precision room (CallLocal distance) = all
    after_below precision room Exit = all

above : (p n : ℕ) (l : Link) → p < n → NameBelow p l → NameBelow n l
above p n l lt h = ⊎_elim (λ (e : l.form ≡ Unlinked). inl e) (λ (less : l.name < p). inr (omega (arith, lt, less))) h

pub flows_keep_names : FlowsKeepNames
flows_keep_names precision room answer i p q f g below e n lt =
    let all = after_below n p lt f (λ place. above p n (link_in f.links place) lt (below place)) precision room i in
    subst (AllBelow n) (sym (flow_links precision room answer i p q f g e)) all
