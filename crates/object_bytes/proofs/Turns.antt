-- Reading one entry after the other, as a loop does.
use Rattle.std.proofs.Common.{◌≡◌, ◌∙◌, ℕ, zero, suc, ◌-◌, ◌<◌, ◌≤◌, Bool, true, false, List, Result, Ok, Err, refl, ap, arith}
use Rattle.bpf_decode.specs.Reading.{◌>>=◌, checked}
use Rattle.object_store.specs.Object.{Content}
use Rattle.object_bytes.specs.declared.flat.FlatError.{FlatError}
use Rattle.object_bytes.specs.declared.flat.FlatError.TheVariants.{Malformed}
use Rattle.object_bytes.specs.declared.part.Part.{Part}
use Rattle.object_bytes.specs.Reading.{entry_at, set_in, rises, entries_at}

abbrev Entry : Type 0
Entry = (List ℕ × List ℕ) × List ℕ

-- what the entry that was read gives, whose name may be behind the last, and that set
abbrev after_check : Part → ℕ → Content → List ℕ → Result (List ℕ × List ℕ) FlatError → Result (Content × List ℕ) FlatError
after_check part n c rest read = read >>= λ f. set_in part c f >>= λ more. entries_at part n f.0 more rest

abbrev after_entry : Part → ℕ → List ℕ → Content → Result Entry FlatError → Result (Content × List ℕ) FlatError
after_entry part n last c read = read >>= λ e. checked (rises last e.0.0) Malformed e.0 >>= λ f. set_in part c f >>= λ more. entries_at part n f.0 more e.1

abbrev after_set : Part → ℕ → List ℕ → List ℕ → Result Content FlatError → Result (Content × List ℕ) FlatError
after_set part n name rest made = made >>= λ more. entries_at part n name more rest

turn : (part : Part) (n : ℕ) (last : List ℕ) (c : Content) (bytes : List ℕ) (read : Result Entry FlatError) → 0 < n → entry_at bytes ≡ read → entries_at part n last c bytes ≡ after_entry part (n - 1) last c read
unfolding entries_at
turn part zero last c bytes read h e = absurd (omega arith)
turn part (suc n) last c bytes read h e = let less : suc n - 1 ≡ n = omega arith in rw less (ap (after_entry part n last c) e)

checks : (part : Part) (n : ℕ) (last : List ℕ) (c : Content) (bytes : List ℕ) (x : List ℕ × List ℕ) (rest : List ℕ) (b : Bool) → 0 < n → entry_at bytes ≡ Ok (x, rest) → rises last x.0 ≡ b → entries_at part n last c bytes ≡ after_check part (n - 1) c rest (checked b Malformed x)
checks part n last c bytes x rest b h read e = turn part n last c bytes (Ok (x, rest)) h read ∙ ap (λ (t : Bool). after_check part (n - 1) c rest (checked t Malformed x)) e

pub no_entry : (part : Part) (n : ℕ) (last : List ℕ) (c : Content) (bytes : List ℕ) (e : FlatError) → 0 < n → entry_at bytes ≡ Err e → entries_at part n last c bytes ≡ Err e
no_entry part n last c bytes e h read = turn part n last c bytes (Err e) h read

pub not_behind : (part : Part) (n : ℕ) (last : List ℕ) (c : Content) (bytes : List ℕ) (x : List ℕ × List ℕ) (rest : List ℕ) → 0 < n → entry_at bytes ≡ Ok (x, rest) → rises last x.0 ≡ false → entries_at part n last c bytes ≡ Err Malformed
not_behind part n last c bytes x rest h read e = checks part n last c bytes x rest false h read e

pub no_set : (part : Part) (n : ℕ) (last : List ℕ) (c : Content) (bytes : List ℕ) (x : List ℕ × List ℕ) (rest : List ℕ) (e : FlatError) → 0 < n → entry_at bytes ≡ Ok (x, rest) → rises last x.0 ≡ true → set_in part c x ≡ Err e → entries_at part n last c bytes ≡ Err e
no_set part n last c bytes x rest e h read behind set = checks part n last c bytes x rest true h read behind ∙ ap (after_set part (n - 1) x.0 rest) set

pub goes_on : (part : Part) (n : ℕ) (last : List ℕ) (c : Content) (bytes : List ℕ) (x : List ℕ × List ℕ) (rest : List ℕ) (more : Content) → 0 < n → entry_at bytes ≡ Ok (x, rest) → rises last x.0 ≡ true → set_in part c x ≡ Ok more → entries_at part n last c bytes ≡ entries_at part (n - 1) x.0 more rest
goes_on part n last c bytes x rest more h read behind set = checks part n last c bytes x rest true h read behind ∙ ap (after_set part (n - 1) x.0 rest) set

pub is_done : (part : Part) (n : ℕ) (last : List ℕ) (c : Content) (bytes : List ℕ) → n ≤ 0 → entries_at part n last c bytes ≡ Ok (c, bytes)
unfolding entries_at
is_done part zero last c bytes h = refl
is_done part (suc n) last c bytes h = absurd (omega arith)
