-- A field that was written is read again.
use Rattle.std.proofs.Common.{◌≡◌, ◌∙◌, ℕ, suc, ◌^◌, ◌<◌, Bool, true, List, ◌∷◌, ◌++◌, length, Ok, refl, ap, append_assoc, arith, length-append}
use Rattle.std.specs.Prelude.{nat_le, Result}
use Rattle.std.proofs.lemmas.Bool.{le-leb}
use Rattle.std.proofs.lemmas.List.{take_at, drop_at}
use Rattle.byteorder.specs.Endian.{little_number, little_bytes}
use Rattle.byteorder.specs.Numbers.{little_number-reads_back}
use Rattle.bpf_decode.specs.Reading.{◌>>=◌, checked}
use Rattle.object_bytes.specs.declared.flat.FlatError.{FlatError}
use Rattle.object_bytes.specs.declared.flat.FlatError.TheVariants.{Malformed}
use Rattle.object_bytes.specs.Flat.{entry_bytes}
use Rattle.object_bytes.specs.Part.{IsShort}
use Rattle.object_bytes.specs.Reading.{number_at, bytes_at, entry_at}

pub number_again_2 : (n : ℕ) (rest : List ℕ) → n < 65536 → number_at 2 (little_bytes 2 n ++ rest) ≡ Ok (n, rest)
number_again_2 n rest h =
    let long : nat_le 2 (length (little_bytes 2 n ++ rest)) ≡ true = le-leb 2 (suc (suc (length rest))) (omega arith) in
    ap (λ (b : Bool). checked b Malformed (little_number 2 (little_bytes 2 n ++ rest), rest)) long ∙ ap (λ (m : ℕ). Ok (m, rest)) (little_number-reads_back 2 n rest h)

pub number_again_4 : (n : ℕ) (rest : List ℕ) → n < 2 ^ 32 → number_at 4 (little_bytes 4 n ++ rest) ≡ Ok (n, rest)
number_again_4 n rest h =
    let long : nat_le 4 (length (little_bytes 4 n ++ rest)) ≡ true = le-leb 4 (suc (suc (suc (suc (length rest))))) (omega arith) in
    ap (λ (b : Bool). checked b Malformed (little_number 4 (little_bytes 4 n ++ rest), rest)) long ∙ ap (λ (m : ℕ). Ok (m, rest)) (little_number-reads_back 4 n rest h)

pub bytes_again : (x rest : List ℕ) → bytes_at (length x) (x ++ rest) ≡ Ok (x, rest)
bytes_again x rest =
    let long : nat_le (length x) (length (x ++ rest)) ≡ true = le-leb (length x) (length (x ++ rest)) (omega (arith, length-append x rest)) in
    rw (long, take_at x rest (length x) refl, drop_at x rest (length x) refl) refl

-- a name and its value
pub entry_again : (e : List ℕ × List ℕ) (rest : List ℕ) → IsShort e → entry_at (entry_bytes e ++ rest) ≡ Ok (e, rest)
unfolding entry_at
entry_again e rest h =
    let name = e.0 in
    let value = e.1 in
    let after = little_bytes 2 (length value) ++ (value ++ rest) in
    let shape : entry_bytes e ++ rest ≡ length name ∷ (name ++ after) = simp append_assoc in
    ap entry_at shape
    ∙ ap (λ (r : Result (List ℕ × List ℕ) FlatError). r >>= λ n. number_at 2 n.1 >>= λ m. bytes_at m.0 m.1 >>= λ v. Ok ((n.0, v.0), v.1)) (bytes_again name after)
    ∙ ap (λ (r : Result (ℕ × List ℕ) FlatError). r >>= λ m. bytes_at m.0 m.1 >>= λ v. Ok ((name, v.0), v.1)) (number_again_2 (length value) (value ++ rest) h.value)
    ∙ ap (λ (r : Result (List ℕ × List ℕ) FlatError). r >>= λ v. Ok ((name, v.0), v.1)) (bytes_again value rest)
