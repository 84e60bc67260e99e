-- What code may do, by which parts it needs.
use Rattle.std.proofs.Common.{◌≡◌, ◌∙◌, ℕ, zero, suc, ◌-◌, Bool, true, false, List, [], ◌∷◌, ◌++◌, Option, Some, None, refl, ap, sym, replicate}
use Rattle.std.specs.Prelude.{if◌then◌else◌}
use Rattle.std.proofs.lemmas.Option.{none-some, same_Some}
use Rattle.bpf_decode.specs.declared.insn.Insn.{Insn}
use Rattle.bpf_decode.specs.declared.insn.Insn.TheVariants.{Alu, Neg, Mov, MovSigned, End, LoadWide, Load, LoadSigned, Store, Jump, JumpLong, Branch, Call, CallLocal, Exit}
use Rattle.bpf_decode.specs.Instruction.{slot_count, slots}
use Rattle.bpf_machine.specs.Typed.{fetch}
use Rattle.helpers.specs.declared.helper.Helper.{Helper}
use Rattle.helpers.specs.Table.{helper_of}
use Rattle.footprint.specs.declared.parts.Parts.{Parts}
use Rattle.footprint.specs.declared.scan.Touch.{Touch}
use Rattle.footprint.specs.declared.scan.Touch.TheVariants.{Bytes, Xattrs, Keys, Removal, Creation}
use Rattle.footprint.specs.Parts.{Covers}
use Rattle.footprint.specs.Needed.{touches, helper_touches, calls_such, calls, renews, needed}
use Rattle.footprint.proofs.Helpers.{MayCall}
use Rattle.footprint.proofs.Steps.{MayDo}

-- an instruction that begins after empty slots begins in what follows them
pub later : (m k : ℕ) (xs : List (Option Insn)) (i : Insn) → fetch (replicate m None ++ xs) k ≡ Some i → (j : ℕ) × (fetch xs j ≡ Some i)
later zero k xs i e = (k, e)
later (suc m) zero xs i e = absurd (none-some i e)
later (suc m) (suc k) xs i e = later m k xs i e

-- an instruction at a slot is one of the code
pub found : (touch : Touch) (is : List Insn) (k : ℕ) (i : Insn) → fetch (slots is) k ≡ Some i → calls_such touch i ≡ true → calls touch is ≡ true
found touch [] k i e c = absurd (none-some i e)
found touch (j ∷ is) zero i e c =
    ap (λ (b : Bool). if b then true else calls touch is) (ap (calls_such touch) (same_Some j i e) ∙ c)
found touch (j ∷ is) (suc k) i e c =
    let l = later (slot_count j - 1) k (slots is) i e in
    either (calls_such touch j) (found touch is l.0 i l.1 c)
  where
    either : (b : Bool) → calls touch is ≡ true → (if b then true else calls touch is) ≡ true
    either true h = refl
    either false h = h

true_if : (b c : Bool) → c ≡ true → (if b then true else c) ≡ true
true_if true c e = refl
true_if false c e = e

both : (b c : Bool) → b ≡ true → c ≡ true → (if b then c else false) ≡ true
both true c e f = f
both false c e f = e

pub false_true : {A : Type 0} → false ≡ true → A
false_true e = cc

module _ (is : List Insn) (kept : Parts) (covers : Covers kept (needed is)) (once : renews is ≡ false) where
  -- an instruction of the code calls helpers of kept parts alone
  may_call : (k id : ℕ) (h : Helper) → fetch (slots is) k ≡ Some (Call id) → helper_of id ≡ Some h → MayCall kept (calls Creation is) h
  may_call k id h at named = record {
    bytes = λ e. covers.bytes (true_if (renews is) (calls Bytes is) (does_it Bytes e));
    xattrs = λ e. covers.xattrs (true_if (renews is) (calls Xattrs is) (does_it Xattrs e));
    keys = λ e. covers.keys (true_if (renews is) (calls Keys is) (does_it Keys e));
    removal = λ e creates. false_true (sym once ∙ both (calls Removal is) (calls Creation is) (does_it Removal e) creates);
    creation = λ e. does_it Creation e;
  }
    where
      does_it : (touch : Touch) → touches touch h ≡ true → calls touch is ≡ true
      does_it touch e = found touch is k (Call id) at (ap (helper_touches touch) named ∙ e)

  pub may_do : (k : ℕ) (i : Insn) → fetch (slots is) k ≡ Some i → MayDo kept (calls Creation is) i
  may_do k (Alu bits operation dst source) at = tt
  may_do k (Neg bits dst) at = tt
  may_do k (Mov bits dst source) at = tt
  may_do k (MovSigned extension dst src) at = tt
  may_do k (End order width dst) at = tt
  may_do k (LoadWide dst value) at = tt
  may_do k (Load width dst base offset) at = tt
  may_do k (LoadSigned width dst base offset) at = tt
  may_do k (Store width base offset source) at = tt
  may_do k (Jump offset) at = tt
  may_do k (JumpLong distance) at = tt
  may_do k (Branch bits comparison dst source offset) at = tt
  may_do k (Call id) at = λ h named. may_call k id h at named
  may_do k (CallLocal distance) at = tt
  may_do k Exit at = tt
