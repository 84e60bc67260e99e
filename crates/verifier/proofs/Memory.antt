-- What loads, stores and helpers' ranges do to memory, by the values of the stack's slots: of the
-- first slots, that many, a frame may know something; the others are numbers.
use Rattle.std.proofs.Common.{◌≡◌, ◌⊎◌, inl, inr, ℕ, zero, suc, ◌+◌, ◌*◌, ◌/◌, ◌%◌, ◌^◌, ◌<◌, ◌≤◌, List, Option, Some, None, Bool, true, refl, ap, ◌∙◌, sym, subst, arith, length, take, drop, length-take, drop-drop, replicate, ◌∷◌}
use Rattle.std.specs.Prelude.{slice_get}
use Rattle.std.proofs.lemmas.Bool.{cases_lt, eq-eqb}
use Rattle.std.proofs.lemmas.Option.{slice_get_past, same_Some}
use Rattle.bpf_decode.specs.declared.region.Region.{Region}
use Rattle.bpf_decode.specs.declared.region.Region.TheVariants.{Input, Output, Stack}
use Rattle.bpf_decode.specs.declared.value.Value.{Value}
use Rattle.bpf_decode.specs.declared.value.Value.TheVariants.{Num, Ptr}
use Rattle.object_store.specs.Object.{AreBytes, part}
use Rattle.bpf_machine.specs.declared.caps.Caps.{Caps}
use Rattle.bpf_machine.specs.State.{only, le_value, le_bytes, size}
use Rattle.bpf_machine.specs.Typed.{Cell, TypedMemory, as_cells, parts_of, place_of, plain_bytes, is_slot, number_or, value_of, cells_at, over, put_bytes, stored, typed_room}
use Rattle.bpf_machine.specs.Slots as machine
use Rattle.bpf_machine.specs.declared.limits.TheConstants.{STACK_SIZE}
use Rattle.bpf_machine.specs.Slots.{IsStack, slot_of, slot_value, slot_values, Touches, SlotsHaveValues, SlotsBeginAtZero, NumbersAreRead, LeavesNumbers, BytesAreWritten, PlacesAreWritten, NumbersAreTheirBytes}
use Rattle.abstract_regs.specs.Moves.{flat_option, value_at, Reached, IsNumber, IsSlot, Loads, Stores, Overwrites, LoadIsKnown}
use Rattle.abstract_regs.specs.Laws.{JoinsHold, EntryHolds, AccessesFit, FlowsKeepSlots, JoinsKeepSlots, FlowsKeepNames, JoinsKeepNames, SlotsAreKnown, LoadsAreKnown, RangesAreKnown}
use Rattle.abstract_num.specs.Keeping.{AnyHolds, TightenKeeps}
use Rattle.helpers.specs.Laws.{EffectsKeepTheForm}
use Rattle.helpers.specs.Ranges.{AnswersAreInRange}
use Rattle.verifier.specs.Frame.{IsMemory}
use Rattle.verifier.proofs.Bytes.{bytes_take, bytes_drop, bytes_of_number, le_value_below, value_in, bytes_written, as_plain}

-- the laws of the stack's slots
pub record SlotLaws : Type 0 where
  pub values : SlotsHaveValues
  pub begin : SlotsBeginAtZero
  pub read : NumbersAreRead
  pub bytes : BytesAreWritten
  pub places : PlacesAreWritten
  pub numbers : NumbersAreTheirBytes

-- and all that a run stands on
pub record Laws : Type 0 where
  pub joins : JoinsHold
  pub entry : EntryHolds
  pub accesses : AccessesFit
  pub along : FlowsKeepSlots
  pub joined : JoinsKeepSlots
  pub names : FlowsKeepNames
  pub joined_names : JoinsKeepNames
  pub places : SlotsAreKnown
  pub loads : LoadsAreKnown
  pub ranges : RangesAreKnown
  pub slots : SlotLaws
  pub effects : EffectsKeepTheForm
  pub answers : AnswersAreInRange
  pub any : AnyHolds
  pub tighten : TightenKeeps

pub length-values : (n : ℕ) (cs : List Cell) → length (slot_values n cs) ≡ n
length-values zero cs = refl
length-values (suc n) cs = ap suc (length-values n (drop 8 cs))

length-bytes : (w n : ℕ) → length (le_bytes w n) ≡ w
length-bytes zero n = refl
length-bytes (suc w) n = ap suc (length-bytes w (n / 256))

-- a number, said in both ways
to_machine : (o : Option Value) → IsNumber o → machine.IsNumber o
to_machine None h = h
to_machine (Some (Num n)) h = h
to_machine (Some (Ptr r at)) h = h

from_machine : (o : Option Value) → machine.IsNumber o → IsNumber o
from_machine None h = h
from_machine (Some (Num n)) h = h
from_machine (Some (Ptr r at)) h = h

as_number : (v : Value) → IsNumber (Some v) → (n : ℕ) × (v ≡ Num n) × (n < 256 ^ 8)
as_number (Num n) h = (n, refl, h)
as_number (Ptr r at) h = absurd h

abbrev pub placed : Region → ℕ → Region × ℕ
placed r at = (r, at)

same_place : (p : Region × ℕ) (at : ℕ) → p.0 ≡ Stack → p.1 ≡ at → p ≡ placed Stack at
same_place p at e f = ap (λ (r : Region). placed r p.1) e ∙ ap (λ (k : ℕ). placed Stack k) f

is_aligned : (j : ℕ) → is_slot (placed Stack (8 * j)) 8 ≡ true
is_aligned j = eq-eqb ((8 * j) % 8) 0 (omega arith)

-- a load of a whole slot gives the slot's value
slot_load : (m : TypedMemory) (p : Region × ℕ) (w j : ℕ) → p.0 ≡ Stack → w ≡ 8 → p.1 ≡ 8 * j → value_of p w (cells_at m p.0 p.1 w) ≡ slot_value m.stack j
slot_load m p w j region width place =
    let cs = take 8 (drop (8 * j) m.stack) in
    ap (λ (q : Region × ℕ). value_of q w (cells_at m q.0 q.1 w)) (same_place p (8 * j) region place)
    ∙ ap (λ (k : ℕ). value_of (placed Stack (8 * j)) k (cells_at m Stack (8 * j) k)) width
    ∙ ap (λ (b : Bool). number_or (plain_bytes cs) (only b (place_of cs))) (is_aligned j)

-- bytes that are read
pub record ReadsBytes (m : TypedMemory) (r : Region) (at w : ℕ) : Type 0 where
  pub bytes : List ℕ
  pub are : plain_bytes (cells_at m r at w) ≡ Some bytes
  pub number : le_value bytes < 256 ^ w
  pub small : AreBytes bytes
  pub short : length bytes ≤ w

-- a load's value
pub record Loaded (n : ℕ) (m : TypedMemory) (p : Region × ℕ) (w : ℕ) : Type 0 where
  pub value : Value
  pub is : value_of p w (cells_at m p.0 p.1 w) ≡ Some value
  pub loads : Loads (slot_values n m.stack) p.0 p.1 w value

-- bytes that are written
pub record PutsBytes (n : ℕ) (m : TypedMemory) (r : Region) (at : ℕ) (bytes : List ℕ) : Type 0 where
  pub memory : IsMemory n (put_bytes m r at bytes)
  pub others : (j : ℕ) → ¬ Reached r at (length bytes) j → value_at (slot_values n (put_bytes m r at bytes).stack) j ≡ value_at (slot_values n m.stack) j
  pub numbers : (j : ℕ) → IsNumber (value_at (slot_values n m.stack) j) → IsNumber (value_at (slot_values n (put_bytes m r at bytes).stack) j)
  pub whole : (j : ℕ) → IsSlot (slot_values n m.stack) r at (length bytes) j → value_at (slot_values n (put_bytes m r at bytes).stack) j ≡ Some (Num (le_value bytes))

-- a value that is stored
pub record Stored (n : ℕ) (m : TypedMemory) (p : Region × ℕ) (w : ℕ) (x : Value) : Type 0 where
  pub to : TypedMemory
  pub is : stored m p w x ≡ Some to
  pub memory : IsMemory n to
  pub stores : Stores (slot_values n m.stack) p.0 p.1 w x (slot_values n to.stack)

-- what a helper wrote
pub record Wrote (n : ℕ) (m : TypedMemory) (r : Region) (at count : ℕ) (to : TypedMemory) : Type 0 where
  pub memory : IsMemory n to
  pub overwrites : Overwrites (slot_values n m.stack) r at count (slot_values n to.stack)

module _ (laws : SlotLaws) (caps : Caps) (n : ℕ) (few : n ≤ 64) (m : TypedMemory) (mem : IsMemory n m) where
  -- the values of the slots of which something may be known
  abbrev known : List (Option Value)
  known = slot_values n m.stack

  inside_known : (j : ℕ) → j < length known → j < n
  inside_known j h = omega (arith, h, length-values n m.stack)

  known_at : (cs : List Cell) (j : ℕ) → j < n → value_at (slot_values n cs) j ≡ slot_value cs j
  known_at cs j h = ap flat_option (laws.values n cs j h)

  none_past : (cs : List Cell) (j : ℕ) → n ≤ j → value_at (slot_values n cs) j ≡ None
  none_past cs j h = ap flat_option (slice_get_past (slot_values n cs) j (omega (arith, h, length-values n cs)))

  -- what each slot that an access reaches is, so long as those are numbers of which something may
  -- be known
  abbrev pub AreNumbersReached : Region → ℕ → ℕ → Type 0
  AreNumbersReached r at w = (j : ℕ) → j < length known → Reached r at w j → IsNumber (value_at known j)

  touched : (at w : ℕ) → AreNumbersReached Stack at w → (j : ℕ) → j < 64 → Touches at w j → machine.IsNumber (slot_value m.stack j)
  touched at w numbers j lt t =
      elim (cases_lt j n) [
        | inl below ↦ subst machine.IsNumber (known_at m.stack j below) (to_machine (value_at known j) (numbers j (omega (arith, below, length-values n m.stack)) (record { region = refl; touched = record { below = t.below; above = t.above } })))
        | inr past ↦ mem.rest j past lt
      ]

  -- ---- loads, and ranges that are read

  pub reads_bytes : (r : Region) (at w : ℕ) → at + w ≤ size caps r → AreNumbersReached r at w → ReadsBytes m r at w
  reads_bytes Input at w inside numbers = record {
    bytes = part m.input at w;
    are = as_plain (part m.input at w);
    number = value_in w _ (bytes_drop at m.input mem.input);
    small = bytes_take w _ (bytes_drop at m.input mem.input);
    short = omega (arith, length-take w (drop at m.input));
  }
  reads_bytes Output at w inside numbers = record {
    bytes = part m.output at w;
    are = as_plain (part m.output at w);
    number = value_in w _ (bytes_drop at m.output mem.output);
    small = bytes_take w _ (bytes_drop at m.output mem.output);
    short = omega (arith, length-take w (drop at m.output));
  }
  reads_bytes Stack at w inside numbers =
      let are = laws.read 64 m.stack mem.stack at w inside (touched at w numbers) in
      record {
        bytes = are.bytes;
        are = are.are;
        number = subst (λ (k : ℕ). le_value are.bytes < 256 ^ k) are.count (le_value_below are.bytes are.small);
        small = are.small;
        short = omega (arith, are.count);
      }

  -- bytes at a slot are its value
  bytes_are_slot : (r : Region) (at w j : ℕ) (bytes : List ℕ) → plain_bytes (cells_at m r at w) ≡ Some bytes → r ≡ Stack → w ≡ 8 → at ≡ 8 * j → slot_value m.stack j ≡ Some (Num (le_value bytes))
  bytes_are_slot r at w j bytes e region width place =
      let cs = take 8 (drop (8 * j) m.stack) in
      let same : cells_at m r at w ≡ cs =
      ap (λ (q : Region). cells_at m q at w) region ∙ ap (λ (k : ℕ). cells_at m Stack at k) width ∙ ap (λ (k : ℕ). cells_at m Stack k 8) place in
      ap (λ (o : Option (List ℕ)). number_or o (place_of cs)) (sym (ap plain_bytes same) ∙ e)

  pub number_loads : (r : Region) (at w : ℕ) (b : ReadsBytes m r at w) → Loads known r at w (Num (le_value b.bytes))
  number_loads r at w b = record {
    whole = λ j s. known_at m.stack j (inside_known j s.inside) ∙ bytes_are_slot r at w j b.bytes b.are s.region s.width s.place;
    number = λ _. (le_value b.bytes, refl, b.number);
  }

  number_loaded : (p : Region × ℕ) (w : ℕ) → ReadsBytes m p.0 p.1 w → Loaded n m p w
  number_loaded p w b = record {
    value = Num (le_value b.bytes);
    is = ap (λ (o : Option (List ℕ)). number_or o (only (is_slot p w) (place_of (cells_at m p.0 p.1 w)))) b.are;
    loads = number_loads p.0 p.1 w b;
  }

  slot_loaded : (p : Region × ℕ) (w j : ℕ) → IsSlot known p.0 p.1 w j → (v : Value) → value_at known j ≡ Some v → Loaded n m p w
  slot_loaded p w j s v e = record {
    value = v;
    is = slot_load m p w j s.region s.width s.place ∙ sym (known_at m.stack j (inside_known j s.inside)) ∙ e;
    loads = record {
      whole = λ i t.
          let same : j ≡ i = omega (arith, s.place, t.place) in
          subst (λ (k : ℕ). value_at known k ≡ Some v) same e;
      number = λ numbers.
          let is : IsNumber (Some v) = subst IsNumber e (numbers j s.inside (record { region = s.region; touched = record { below = omega (arith, s.width, s.place); above = omega (arith, s.place) } })) in
          let k = as_number v is in
          (k.0, k.1, subst (λ (w : ℕ). k.0 < 256 ^ w) (sym s.width) k.2);
    };
  }

  pub loaded : (p : Region × ℕ) (w : ℕ) → p.1 + w ≤ size caps p.0 → LoadIsKnown known p.0 p.1 w → Loaded n m p w
  loaded p w inside (inl numbers) = number_loaded p w (reads_bytes p.0 p.1 w inside numbers)
  loaded p w inside (inr s) = slot_loaded p w s.0 s.1 s.2 s.3

  -- ---- stores, and ranges that are written

  pub puts_bytes : (r : Region) (at : ℕ) (bytes : List ℕ) → at + length bytes ≤ size caps r → AreBytes bytes → PutsBytes n m r at bytes
  puts_bytes Input at bytes inside small = record {
    memory = record { input = bytes_written m.input at bytes mem.input small; output = mem.output; stack = mem.stack; rest = mem.rest };
    others = λ j out. refl;
    numbers = λ j is. is;
    whole = λ j s. absurd (not_stack_input s.region);
  }
    where
      not_stack_input : Input ≡ Stack → ⊥
      not_stack_input e = cc
  puts_bytes Output at bytes inside small = record {
    memory = record { input = mem.input; output = bytes_written m.output at bytes mem.output small; stack = mem.stack; rest = mem.rest };
    others = λ j out. refl;
    numbers = λ j is. is;
    whole = λ j s. absurd (not_stack_output s.region);
  }
    where
      not_stack_output : Output ≡ Stack → ⊥
      not_stack_output e = cc
  puts_bytes Stack at bytes inside small =
      let left : LeavesNumbers 64 m.stack at bytes (over m.stack at (as_cells bytes)) = laws.bytes 64 m.stack mem.stack at bytes inside small in
      let cs = over m.stack at (as_cells bytes) in
      record {
        memory = record { input = mem.input; output = mem.output; stack = (left.rest).stack; rest = λ j past lt. left.numbers j lt (mem.rest j past lt) };
        others = λ j out. other j out left (cases_lt j n);
        numbers = λ j is. still j is left (cases_lt j n);
        whole = λ j s. known_at cs j (inside_known j s.inside) ∙ left.whole j s.place s.width;
      }
    where
      other : (j : ℕ) → ¬ Reached Stack at (length bytes) j → LeavesNumbers 64 m.stack at bytes (over m.stack at (as_cells bytes)) → (j < n) ⊎ (n ≤ j) → value_at (slot_values n (over m.stack at (as_cells bytes))) j ≡ value_at known j
      other j out left (inl below) =
          known_at (over m.stack at (as_cells bytes)) j below
          ∙ (left.rest).others j (omega (arith, below, few)) (λ t. out (record { region = refl; touched = record { below = t.below; above = t.above } }))
          ∙ sym (known_at m.stack j below)
      other j out left (inr past) = none_past (over m.stack at (as_cells bytes)) j past ∙ sym (none_past m.stack j past)

      still : (j : ℕ) → IsNumber (value_at known j) → LeavesNumbers 64 m.stack at bytes (over m.stack at (as_cells bytes)) → (j < n) ⊎ (n ≤ j) → IsNumber (value_at (slot_values n (over m.stack at (as_cells bytes))) j)
      still j is left (inl below) =
          subst IsNumber (sym (known_at (over m.stack at (as_cells bytes)) j below))
          (from_machine (slot_value (over m.stack at (as_cells bytes)) j) (left.numbers j (omega (arith, below, few)) (to_machine (slot_value m.stack j) (subst IsNumber (known_at m.stack j below) is))))
      still j is left (inr past) = absurd (subst IsNumber (none_past m.stack j past) is)

  -- a number is stored anywhere
  pub number_stored : (p : Region × ℕ) (w y : ℕ) → p.1 + w ≤ size caps p.0 → y < 2 ^ 64 → Stored n m p w (Num y)
  number_stored p w y inside small =
      let long = length-bytes w y in
      let put = puts_bytes p.0 p.1 (le_bytes w y) (omega (arith, inside, long)) (bytes_of_number w y) in
      record {
        to = put_bytes m p.0 p.1 (le_bytes w y);
        is = refl;
        memory = put.memory;
        stores = record {
          long = length-values n _ ∙ sym (length-values n m.stack);
          whole = λ j s.
              put.whole j (record { region = s.region; width = long ∙ s.width; place = s.place; inside = s.inside })
              ∙ ap (λ (k : ℕ). Some (Num (le_value (le_bytes k y)))) s.width
              ∙ ap (λ (k : ℕ). Some (Num k)) (laws.numbers 8 y small);
          others = λ j out. put.others j (subst (λ (k : ℕ). ¬ Reached p.0 p.1 k j) (sym long) out);
          numbers = λ _ j is. put.numbers j is;
        };
      }

  -- a place is stored in a slot
  pub place_stored : (p : Region × ℕ) (w j : ℕ) → IsSlot known p.0 p.1 w j → (r : Region) (at : ℕ) → Stored n m p w (Ptr r at)
  place_stored p w j s r at =
      let below : j < n = inside_known j s.inside in
      let cs = over m.stack (8 * j) (parts_of r at) in
      let left = laws.places 64 m.stack mem.stack j (omega (arith, below, few)) r at in
      record {
        to = record m { stack = cs };
        is =
            ap (λ (q : Region × ℕ). stored m q w (Ptr r at)) (same_place p (8 * j) s.region s.place)
            ∙ ap (λ (k : ℕ). stored m (placed Stack (8 * j)) k (Ptr r at)) s.width
            ∙ ap (λ (b : Bool). only b (Some (record m { stack = cs }))) (is_aligned j);
        memory = record {
          input = mem.input;
          output = mem.output;
          stack = (left.rest).stack;
          rest = λ i past lt. subst machine.IsNumber (sym ((left.rest).others i lt (λ t. absurd (omega (arith, t.below, t.above, past, below))))) (mem.rest i past lt);
        };
        stores = record {
          long = length-values n cs ∙ sym (length-values n m.stack);
          whole = λ i t.
              let same : j ≡ i = omega (arith, s.place, t.place) in
              subst (λ (k : ℕ). value_at (slot_values n cs) k ≡ Some (Ptr r at)) same (known_at cs j below ∙ left.whole);
          others = λ i out. other i cs (left.rest).others out (cases_lt i n);
          numbers = λ no i is. absurd no;
        };
      }
    where
      other : (i : ℕ) (cs : List Cell) → ((i : ℕ) → i < 64 → (Touches (8 * j) 8 i → ⊥) → slot_value cs i ≡ slot_value m.stack i) → ¬ Reached p.0 p.1 w i → (i < n) ⊎ (n ≤ i) → value_at (slot_values n cs) i ≡ value_at known i
      other i cs others out (inl below) =
          known_at cs i below
          ∙ others i (omega (arith, below, few)) (λ t. out (record { region = s.region; touched = record { below = omega (arith, t.below, s.place, s.width); above = omega (arith, t.above, s.place) } }))
          ∙ sym (known_at m.stack i below)
      other i cs others out (inr past) = none_past cs i past ∙ sym (none_past m.stack i past)

  -- a helper writes into its range no more bytes than that has
  pub room_written : (p : Region × ℕ) (count : ℕ) (bytes : List ℕ) → 1 ≤ count → p.1 + count ≤ size caps p.0 → length bytes ≤ count → AreBytes bytes → Wrote n m p.0 p.1 count (typed_room m (Some p) bytes)
  room_written p count bytes one inside short small =
      let put = puts_bytes p.0 p.1 bytes (omega (arith, inside, short)) small in
      record {
        memory = put.memory;
        overwrites = record {
          long = length-values n _ ∙ sym (length-values n m.stack);
          others = λ j out. put.others j (λ t. out (one, record { region = t.region; touched = record { below = omega (arith, (t.touched).below, short); above = (t.touched).above } }));
          numbers = put.numbers;
        };
      }

  -- a range of no bytes leaves memory as it was
  pub no_room_written : (r : Region) (at count : ℕ) (bytes : List ℕ) → Wrote n m r at count (typed_room m None bytes)
  no_room_written r at count bytes = record { memory = mem; overwrites = record { long = refl; others = λ j out. refl; numbers = λ j is. is } }

-- ---- as a method begins

zero_values : (n : ℕ) (cs : List Cell) → ((j : ℕ) → j < n → slot_value cs j ≡ Some (Num 0)) → slot_values n cs ≡ replicate n (Some (Num 0))
zero_values zero cs h = refl
zero_values (suc n) cs h =
    let later = λ (j : ℕ) (lt : j < n). ap (λ (ds : List Cell). slot_of (take 8 ds)) (drop-drop (8 * j) 8 cs ∙ ap (λ (k : ℕ). drop k cs) (eight_more j)) ∙ h (suc j) (omega (arith, lt)) in
    ap (λ (v : Option Value). v ∷ slot_values n (drop 8 cs)) (h zero (omega arith))
    ∙ ap (λ (vs : List (Option Value)). Some (Num 0) ∷ vs) (zero_values n (drop 8 cs) later)
  where
    eight_more : (j : ℕ) → 8 + 8 * j ≡ 8 * suc j
    eight_more j = omega arith

zero_at : (n j : ℕ) → j < n → slice_get {X = Option Value} (replicate n (Some (Num 0))) j ≡ Some (Some (Num 0))
zero_at zero j lt = absurd (omega arith)
zero_at (suc n) zero lt = refl
zero_at (suc n) (suc j) lt = zero_at n j (omega arith)

abbrev pub zeros : List Cell
zeros = as_cells (replicate STACK_SIZE 0)

module _ (laws : SlotLaws) where
  zero_slot : (j : ℕ) → j < 64 → slot_value zeros j ≡ Some (Num 0)
  zero_slot j lt =
      let all = laws.begin 64 in
      same_Some _ _ (sym (laws.values 64 zeros j lt) ∙ ap (λ (vs : List (Option Value)). slice_get vs j) all.1 ∙ zero_at 64 j lt)

  pub zeros_known : (n : ℕ) → n ≤ 64 → slot_values n zeros ≡ replicate n (Some (Num 0))
  zeros_known n few = zero_values n zeros (λ j lt. zero_slot j (omega (arith, few, lt)))

  pub begins_within : (n : ℕ) (m : TypedMemory) → AreBytes m.input → AreBytes m.output → m.stack ≡ zeros → IsMemory n m
  begins_within n m input output stack = record {
    input = input;
    output = output;
    stack = let all = laws.begin 64 in subst (IsStack 64) (sym stack) all.0;
    rest = λ j past lt.
        subst (λ (cs : List Cell). machine.IsNumber (slot_value cs j)) (sym stack) (subst machine.IsNumber (sym (zero_slot j lt)) (omega arith));
  }
