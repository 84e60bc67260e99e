-- The edits that a run by an OSD's limits leaves are such as an object within them can hold.
use Rattle.std.proofs.Common.{◌≡◌, ◌∙◌, ℕ, zero, suc, ◌+◌, ◌^◌, ◌<◌, Bool, true, false, List, [], ◌∷◌, ◌++◌, Option, Some, None, refl, ap, sym, subst, arith, length, IsTrue}
use Rattle.std.specs.Prelude.{if◌then◌else◌, ◌==◌, ◌||◌, not, nat_lt, nat_le, unwrap_or}
use Rattle.std.specs.Option.{option_map}
use Rattle.std.proofs.lemmas.Option.{none-some, same_Some}
use Rattle.std.proofs.lemmas.Bool.Decides.{leb_tells}
use Rattle.std.specs.FinMap as fin
use Rattle.bpf_decode.specs.Class.{ClassMethod}
use Rattle.bpf_decode.specs.Instruction.{AllFit, spelling, slots}
use Rattle.bpf_decode.specs.declared.insn.Insn.{Insn}
use Rattle.bpf_decode.specs.declared.insn.Insn.TheVariants.{Alu, Neg, Mov, MovSigned, End, LoadWide, Load, LoadSigned, Store, Jump, JumpLong, Branch, Call, CallLocal, Exit}
use Rattle.object_store.specs.Calls.{is_named}
use Rattle.object_store.specs.Object.{PlainObject}
use Rattle.object_store.specs.declared.limits.Limits.{Limits}
use Rattle.object_store.specs.declared.limits.TheConstants.{VALUE_LIMIT}
use Rattle.object_store.specs.declared.store_error.StoreError.{StoreError}
use Rattle.object_store.specs.declared.store_error.StoreError.TheVariants.{TooBig, Range}
use Rattle.txn.specs.Edits as edit
use Rattle.txn.specs.Edits.{Edit, created, creating, write_edits}
use Rattle.helpers.specs.declared.errno.TheConstants.{EINVAL, EFBIG, ENOSPC, ENODATA}
use Rattle.helpers.specs.declared.argument.Argument.{Argument}
use Rattle.helpers.specs.declared.helper.Helper.{Helper}
use Rattle.helpers.specs.declared.helper.Helper.TheVariants.{Stat, Read, Write, Truncate, Remove, GetXattr, SetXattr, RmXattr, MapGet, MapSet, MapRm, MapNext, OutLen, Create, Caller, Compare, Copy, XattrNext}
use Rattle.helpers.specs.Edits.{edits, edits_row, edits_of, if_done}
use Rattle.helpers.specs.Effect as table
use Rattle.helpers.specs.Effect.{Effect, Takes, changes, number, text, refused}
use Rattle.helpers.specs.Table.{row, effect, helper_of, signature_of, write_effect, truncate_effect, setxattr_effect, rmxattr_effect, map_set_effect, map_rm_effect}
use Rattle.bpf_machine.specs.declared.caps.Caps.{Caps}
use Rattle.bpf_machine.specs.Blind.{NoCall, elsewhere, StepsAreBlind}
use Rattle.bpf_machine.specs.Decoded.{insn_act}
use Rattle.bpf_machine.specs.Flat.{Layout, arguments, help, step, Chain}
use Rattle.bpf_machine.specs.Helper.{Given, asked, answered, write_room}
use Rattle.bpf_machine.specs.Lists.{ListsWithin, list_of}
use Rattle.bpf_machine.specs.Safe.{caps_of, first_layout, BytesAreInstructions, ElsewhereIsStuck, HasLayout}
use Rattle.bpf_machine.specs.State.{◌>>=◌, only, State, Outcome, with_edits, go}
use Rattle.bpf_machine.specs.Typed.{fetch}
use Rattle.large_objects.specs.declared.limits.TheConstants.{LARGE_LIMIT}
use Rattle.large_objects.specs.Large.{AreFormed, IsFormed, large_limits}

-- ---- the edits of a helper

-- these edits, where the helper did this
record Leaves (es : List Edit) (e : Effect) : Type 0 where
  pub formed : AreFormed (if_done e.answer es)

if_formed : (b : Bool) (es : List Edit) → AreFormed es → AreFormed (if b then es else [])
if_formed true es h = h
if_formed false es h = tt

formed_done : (n : ℕ) (es : List Edit) → AreFormed es → AreFormed (if_done n es)
formed_done n es h = if_formed (nat_lt n (2 ^ 63)) es h

leaves_if : (es : List Edit) (object : PlainObject) (errno : ℕ) (b : Bool) (e : Effect) → Leaves es (refused errno object) → (b ≡ false → Leaves es e) → Leaves es (if b then refused errno object else e)
leaves_if es object errno true e r h = r
leaves_if es object errno false e r h = h refl

formed_created : (object : PlainObject) → AreFormed (created object)
formed_created None = (tt, tt)
formed_created (Some o) = tt

formed_creating : (object : PlainObject) (e : Edit) → IsFormed e → AreFormed (creating object e)
formed_creating None e h = (tt, (h, tt))
formed_creating (Some o) e h = (h, tt)

within : (m n : ℕ) → nat_lt m n ≡ false → IsTrue (nat_le n m)
within m n e = grind (arith, leb_tells (suc m) n, leb_tells n m)

is_not : (b : Bool) → not b ≡ false → IsTrue b
is_not true e = refl
is_not false e = absurd cc

set_formed : (a b : Bool) → not a ≡ false → b ≡ false → ◌≡◌ {A = Option StoreError} (if a then if b then Some TooBig else None else Some Range) None
set_formed true true p q = absurd cc
set_formed true false p q = refl
set_formed false b p q = absurd cc

write_formed : (object : PlainObject) (at : ℕ) (bytes : List ℕ) → Leaves (write_edits object at bytes) (write_effect large_limits object at bytes)
write_formed object at bytes =
    leaves_if _ object EFBIG (nat_lt LARGE_LIMIT (at + length bytes)) _ (record { formed = tt }) (λ e. record { formed = formed_done (length bytes) (write_edits object at bytes) (by (length bytes == 0) e) })
  where
    by : (b : Bool) → nat_lt LARGE_LIMIT (at + length bytes) ≡ false → AreFormed (if b then created object else creating object (edit.Write at bytes))
    by true e = formed_created object
    by false e = formed_creating object (edit.Write at bytes) (within LARGE_LIMIT (at + length bytes) e)

truncate_formed : (object : PlainObject) (size : ℕ) → Leaves (edit.SetLength size ∷ []) (truncate_effect large_limits object size)
truncate_formed None size = leaves_if _ None EFBIG (nat_lt LARGE_LIMIT size) _ (record { formed = tt }) (λ e. record { formed = tt })
truncate_formed (Some o) size =
    leaves_if _ (Some o) EFBIG (nat_lt LARGE_LIMIT size) _ (record { formed = tt }) (λ e.
    let h : AreFormed (edit.SetLength size ∷ []) = (subst (λ n. IsTrue (nat_le n LARGE_LIMIT)) (plus_none size) (within LARGE_LIMIT size e), tt) in
    record { formed = h })
  where
    plus_none : (n : ℕ) → n ≡ n + 0
    plus_none n = omega arith

setxattr_formed : (object : PlainObject) (name value : List ℕ) → Leaves (creating object (edit.SetXattr name value)) (setxattr_effect large_limits object name value)
setxattr_formed object name value =
    leaves_if _ object EINVAL (not (is_named name)) _ (record { formed = tt }) (λ n.
    leaves_if _ object EFBIG (nat_lt VALUE_LIMIT (length value)) _ (record { formed = tt }) (λ v.
    leaves_if _ object ENOSPC false _ (record { formed = tt }) (λ f. record { formed = formed_creating object (edit.SetXattr name value) (set_formed (is_named name) (nat_lt VALUE_LIMIT (length value)) n v) })))

map_set_formed : (object : PlainObject) (key value : List ℕ) → Leaves (creating object (edit.SetKey key value)) (map_set_effect large_limits object key value)
map_set_formed object key value =
    leaves_if _ object EINVAL (not (is_named key)) _ (record { formed = tt }) (λ n.
    leaves_if _ object EFBIG (nat_lt VALUE_LIMIT (length value)) _ (record { formed = tt }) (λ v.
    leaves_if _ object ENOSPC false _ (record { formed = tt }) (λ f. record { formed = formed_creating object (edit.SetKey key value) (set_formed (is_named key) (nat_lt VALUE_LIMIT (length value)) n v) })))

rmxattr_formed : (object : PlainObject) (name : List ℕ) → Leaves (edit.RemoveXattr name ∷ []) (rmxattr_effect large_limits object name)
rmxattr_formed None name = leaves_if _ None EINVAL (not (is_named name)) _ (record { formed = tt }) (λ n. record { formed = tt })
rmxattr_formed (Some o) name =
    leaves_if _ (Some o) EINVAL (not (is_named name)) _ (record { formed = tt }) (λ n. leaves_if _ (Some o) ENODATA (not (fin.contains_key o.xattrs name)) (changes (Some (record o { xattrs = fin.remove o.xattrs name })) 0) (record { formed = tt }) (λ f.
    let h : AreFormed (edit.RemoveXattr name ∷ []) = (is_not (is_named name) n, tt) in
    record { formed = h }))

map_rm_formed : (object : PlainObject) (key : List ℕ) → Leaves (edit.RemoveKey key ∷ []) (map_rm_effect large_limits object key)
map_rm_formed None key = leaves_if _ None EINVAL (not (is_named key)) _ (record { formed = tt }) (λ n. record { formed = tt })
map_rm_formed (Some o) key =
    leaves_if _ (Some o) EINVAL (not (is_named key)) _ (record { formed = tt }) (λ n. leaves_if _ (Some o) ENODATA (not (fin.contains_key o.omap key)) (changes (Some (record o { omap = fin.remove o.omap key })) 0) (record { formed = tt }) (λ f.
    let h : AreFormed (edit.RemoveKey key ∷ []) = (is_not (is_named key) n, tt) in
    record { formed = h }))

-- a helper by these limits
abbrev by_large : table.Given → table.Given
by_large g = record g { limits = large_limits }

row_formed : (h : Helper) (object : PlainObject) (g : table.Given) → Leaves (edits_row h object (by_large g)) ((row h).effect object (by_large g))
row_formed Stat object g = record { formed = formed_done ((row Stat).effect object (by_large g)).answer [] tt }
row_formed Read object g = record { formed = formed_done ((row Read).effect object (by_large g)).answer [] tt }
row_formed Write object g = write_formed object (number g 0) (text g 0)
row_formed Truncate object g = truncate_formed object (number g 0)
row_formed Remove object g = record { formed = formed_done ((row Remove).effect object (by_large g)).answer (edit.Remove ∷ []) (tt, tt) }
row_formed GetXattr object g = record { formed = formed_done ((row GetXattr).effect object (by_large g)).answer [] tt }
row_formed SetXattr object g = setxattr_formed object (text g 0) (text g 1)
row_formed RmXattr object g = rmxattr_formed object (text g 0)
row_formed MapGet object g = record { formed = formed_done ((row MapGet).effect object (by_large g)).answer [] tt }
row_formed MapSet object g = map_set_formed object (text g 0) (text g 1)
row_formed MapRm object g = map_rm_formed object (text g 0)
row_formed MapNext object g = record { formed = formed_done ((row MapNext).effect object (by_large g)).answer [] tt }
row_formed OutLen object g = record { formed = formed_done ((row OutLen).effect object (by_large g)).answer [] tt }
row_formed Create object g = record { formed = formed_done ((row Create).effect object (by_large g)).answer (created object) (formed_created object) }
row_formed Caller object g = record { formed = formed_done ((row Caller).effect object (by_large g)).answer [] tt }
row_formed Compare object g = record { formed = formed_done ((row Compare).effect object (by_large g)).answer [] tt }
row_formed Copy object g = record { formed = formed_done ((row Copy).effect object (by_large g)).answer [] tt }
row_formed XattrNext object g = record { formed = formed_done ((row XattrNext).effect object (by_large g)).answer [] tt }

edits_formed : (id : ℕ) (object : PlainObject) (g : table.Given) → g.limits ≡ large_limits → AreFormed (edits id object g)
edits_formed id object g e =
    let same : by_large g ≡ g = ap (λ (l : Limits). record g { limits = l }) (sym e) in
    subst (λ (x : table.Given). AreFormed (edits id object x)) same (by (helper_of id))
  where
    by : (o : Option Helper) → AreFormed (edits_of o object (by_large g))
    by None = tt
    by (Some h) = (row_formed h object g).formed

-- ---- the list along a run

formed_append : (es fs : List Edit) → AreFormed es → AreFormed fs → AreFormed (es ++ fs)
formed_append [] fs h k = k
formed_append (e ∷ es) fs h k = (h.0, formed_append es fs h.1 k)

-- a state by these limits, whose list is such
pub record Keeps (s : State ℕ) : Type 0 where
  pub limits : s.limits ≡ large_limits
  pub list : List Edit
  pub kept : s.edits ≡ Some list
  pub formed : AreFormed list

module _ (caps : Caps) (lay : Layout) (blind : StepsAreBlind) where
  plain_keeps : (i : Insn) (s t : State ℕ) → NoCall i → insn_act caps lay i s ≡ Some t → Keeps s → Keeps t
  plain_keeps i s t other e k =
      let f : State ℕ → State ℕ = elsewhere s.limits s.object s.edits in
      let same : f t ≡ t = same_Some (f t) t (sym (ap (option_map f) e) ∙ blind.acts caps lay s.limits s.object s.edits i s other ∙ e) in
      record {
        limits = sym (ap (λ (u : State ℕ). u.limits) same) ∙ k.limits;
        list = k.list;
        kept = sym (ap (λ (u : State ℕ). u.edits) same) ∙ k.kept;
        formed = k.formed;
      }

  has_limits : (s : State ℕ) (args : List Argument) (k : ℕ) (g : Given) → arguments caps lay s args k ≡ Some g → g.limits ≡ s.limits
  has_limits s args k g e =
      let f : Given → Given = λ x. record x { limits = s.limits } in
      ap (λ (x : Given). x.limits) (same_Some g (f g) (sym e ∙ blind.arguments caps lay s.limits s.object s.edits s args k ∙ ap (option_map f) e))

  -- what a helper leaves of a state
  abbrev after_help : ℕ → State ℕ → Given → State ℕ
  after_help id s g =
      let e = effect id s.object (asked g) in
      record { slot = s.slot; regs = answered s.regs e.answer; memory = write_room s.memory g.target e.bytes; object = e.object; out_len = unwrap_or e.out_len s.out_len; caller = s.caller; limits = s.limits; edits = with_edits (edits id s.object (asked g)) s.edits }

  helped_keeps : (id : ℕ) (s : State ℕ) (g : Given) → g.limits ≡ s.limits → Keeps s → Keeps (after_help id s g)
  helped_keeps id s g l k = record {
    limits = k.limits;
    list = k.list ++ edits id s.object (asked g);
    kept = ap (with_edits (edits id s.object (asked g))) k.kept;
    formed = formed_append k.list (edits id s.object (asked g)) k.formed (edits_formed id s.object (asked g) (l ∙ k.limits));
  }

  help_keeps : (id : ℕ) (s t : State ℕ) → help caps lay id s ≡ Some t → Keeps s → Keeps t
  help_keeps id s t e k = by_signature (signature_of id) e
    where
      given : (o : Option Given) → ((g : Given) → o ≡ Some g → g.limits ≡ s.limits) → (o >>= λ g. Some (after_help id s g)) ≡ Some t → Keeps t
      given None w h = absurd (none-some t h)
      given (Some g) w h = subst Keeps (same_Some (after_help id s g) t h) (helped_keeps id s g (w g refl) k)

      by_leave : (b : Bool) (o : Option Given) → ((g : Given) → o ≡ Some g → g.limits ≡ s.limits) → only b (o >>= λ g. Some (after_help id s g)) ≡ Some t → Keeps t
      by_leave true o w h = given o w h
      by_leave false o w h = absurd (none-some t h)

      by_signature : (o : Option Takes) → (o >>= λ takes. only (not takes.writes || caps.writes) (arguments caps lay s takes.arguments 1 >>= λ g. Some (after_help id s g))) ≡ Some t → Keeps t
      by_signature None h = absurd (none-some t h)
      by_signature (Some takes) h = by_leave (not takes.writes || caps.writes) (arguments caps lay s takes.arguments 1) (has_limits s takes.arguments 1) h

  call_keeps : (id : ℕ) (s t : State ℕ) → insn_act caps lay (Call id) s ≡ Some t → Keeps s → Keeps t
  call_keeps id s t e k = by (help caps lay id s) refl e
    where
      by : (o : Option (State ℕ)) → help caps lay id s ≡ o → (o >>= λ u. Some (go (s.slot + 1) u)) ≡ Some t → Keeps t
      by None is h = absurd (none-some t h)
      by (Some u) is h =
          let kept = help_keeps id s u is k in
          subst Keeps (same_Some (go (s.slot + 1) u) t h) (record { limits = kept.limits; list = kept.list; kept = kept.kept; formed = kept.formed })

  act_keeps : (i : Insn) (s t : State ℕ) → insn_act caps lay i s ≡ Some t → Keeps s → Keeps t
  act_keeps (Alu bits operation dst source) s t e k = plain_keeps (Alu bits operation dst source) s t tt e k
  act_keeps (Neg bits dst) s t e k = plain_keeps (Neg bits dst) s t tt e k
  act_keeps (Mov bits dst source) s t e k = plain_keeps (Mov bits dst source) s t tt e k
  act_keeps (MovSigned extension dst src) s t e k = plain_keeps (MovSigned extension dst src) s t tt e k
  act_keeps (End order width dst) s t e k = plain_keeps (End order width dst) s t tt e k
  act_keeps (LoadWide dst value) s t e k = plain_keeps (LoadWide dst value) s t tt e k
  act_keeps (Load width dst base offset) s t e k = plain_keeps (Load width dst base offset) s t tt e k
  act_keeps (LoadSigned width dst base offset) s t e k = plain_keeps (LoadSigned width dst base offset) s t tt e k
  act_keeps (Store width base offset source) s t e k = plain_keeps (Store width base offset source) s t tt e k
  act_keeps (Jump offset) s t e k = plain_keeps (Jump offset) s t tt e k
  act_keeps (JumpLong distance) s t e k = plain_keeps (JumpLong distance) s t tt e k
  act_keeps (Branch bits comparison dst source offset) s t e k = plain_keeps (Branch bits comparison dst source offset) s t tt e k
  act_keeps (Call id) s t e k = call_keeps id s t e k
  act_keeps (CallLocal distance) s t e k = plain_keeps (CallLocal distance) s t tt e k
  act_keeps Exit s t e k = plain_keeps Exit s t tt e k

  module _ (is : List Insn) (fit : AllFit is) (decoded : BytesAreInstructions) (stuck : ElsewhereIsStuck) where
    step_keeps : (s t : State ℕ) → step caps lay (spelling is) s ≡ Some t → Keeps s → Keeps t
    step_keeps s t e k = by (fetch (slots is) s.slot) refl
      where
        by : (f : Option Insn) → fetch (slots is) s.slot ≡ f → Keeps t
        by None at = absurd (none-some t (sym (stuck caps lay is s at).no_step ∙ e))
        by (Some i) at = act_keeps i s t (sym (decoded caps lay is fit s i at).acts ∙ e) k

    chain_keeps : (n : ℕ) (s t : State ℕ) → Chain caps lay (spelling is) n s t → Keeps s → Keeps t
    chain_keeps zero s t e k = subst Keeps e k
    chain_keeps (suc n) s t c k = chain_keeps n c.0 t c.2 (step_keeps s c.0 c.1 k)

-- the list at an exit
formed_at : (code : ℕ) (s : State ℕ) → Keeps s → AreFormed (list_of code s)
formed_at code s k = if_formed (nat_lt code (2 ^ 63)) (unwrap_or s.edits []) (subst (λ (o : Option (List Edit)). AreFormed (unwrap_or o [])) (sym k.kept) k.formed)

-- The list of a run by these limits.
pub runs_are_formed : StepsAreBlind → BytesAreInstructions → ElsewhereIsStuck → HasLayout → (m : ClassMethod) → AllFit m.instructions → m.in_cap < 2 ^ 16 → m.out_cap < 2 ^ 16 →
    (o : PlainObject) (caller : ℕ) (input : List ℕ) (outcome : Outcome) (steps : ℕ) (list : List Edit) → ListsWithin large_limits m o caller input outcome steps list → AreFormed list
runs_are_formed blind decoded stuck layout m fit in_cap out_cap o caller input outcome steps list lists =
    let lay = first_layout (caps_of m) in
    let l = lists lay (layout (caps_of m) in_cap out_cap) in
    let last = chain_keeps (caps_of m) lay blind m.instructions fit decoded stuck l.ends.before_exit _ l.ends.last l.ends.chain (record { limits = refl; list = []; kept = refl; formed = tt }) in
    subst AreFormed (sym l.list_is) (formed_at l.ends.value l.ends.last last)
