-- The refusals by number and name, the slot that each names, and how they print.
use Rattle.std.specs.Prelude.{ℕ, List, [], ◌++◌, codes, Option, Some, None}
use Rattle.std.specs.Fmt.{decimal}
use Rattle.bpf_decode.specs.declared.decode_error.DecodeError.{DecodeError}
use Rattle.bpf_decode.specs.declared.image_error.ImageError.{ImageError}
use Rattle.bpf_decode.specs.declared.decode_error.DecodeError.TheVariants.{Truncated, Magic, Opcode, Register}
use Rattle.bpf_decode.specs.declared.decode_error.DecodeError.TheVariants.{NonzeroField, WideHalf, Name, Order, Flags}
use Rattle.bpf_decode.specs.declared.decode_error.DecodeError.TheVariants.{Limit, Trailing, NoMemory, Head}

-- the numbers of the refusals, and their names
abbrev pub number_of : DecodeError → ℕ
number_of Truncated = 1
number_of Magic = 2
number_of (Opcode slot) = 3
number_of (Register slot) = 4
number_of (NonzeroField slot) = 5
number_of (WideHalf slot) = 6
number_of Name = 7
number_of Order = 8
number_of Flags = 9
number_of Limit = 10
number_of Trailing = 11
number_of NoMemory = 12
number_of (Head slot) = 13

abbrev pub name_of : DecodeError → List ℕ
name_of Truncated = codes "Truncated"
name_of Magic = codes "Magic"
name_of (Opcode slot) = codes "Opcode"
name_of (Register slot) = codes "Register"
name_of (NonzeroField slot) = codes "NonzeroField"
name_of (WideHalf slot) = codes "WideHalf"
name_of Name = codes "Name"
name_of Order = codes "Order"
name_of Flags = codes "Flags"
name_of Limit = codes "Limit"
name_of Trailing = codes "Trailing"
name_of NoMemory = codes "NoMemory"
name_of (Head slot) = codes "Head"

-- the slot of a refused instruction or head
abbrev pub slot_of : DecodeError → Option ℕ
slot_of Truncated = None
slot_of Magic = None
slot_of (Opcode slot) = Some slot
slot_of (Register slot) = Some slot
slot_of (NonzeroField slot) = Some slot
slot_of (WideHalf slot) = Some slot
slot_of Name = None
slot_of Order = None
slot_of Flags = None
slot_of Limit = None
slot_of Trailing = None
slot_of NoMemory = None
slot_of (Head slot) = Some slot

-- a refusal's text: number and name
abbrev pub text_of : DecodeError → List ℕ
text_of e = decimal (number_of e) ++ codes " " ++ name_of e

-- the slot in an image's refusal, if there is one
abbrev pub slot_text : Option ℕ → List ℕ
slot_text None = []
slot_text (Some slot) = codes ", slot " ++ decimal slot

-- an image's refusal: the methods read whole before it, its slot, and its text
abbrev pub image_text_of : ImageError → List ℕ
image_text_of e = codes "image refused after " ++ decimal e.methods ++ codes " methods" ++
    slot_text (slot_of e.error) ++ codes ": " ++ text_of e.error
