-- How a place of a head is named: `r0` to `r9`, and from number 11 on `s0` to `s63`.
use Rattle.std.specs.Prelude.{ℕ, ◌-◌, List, ◌++◌, codes, if◌then◌else◌, nat_lt}
use Rattle.std.specs.Fmt.{decimal}

-- that no head is found since that place has no bound
abbrev pub unbound_text : ℕ → List ℕ
unbound_text place =
    if nat_lt place 11 then codes ": no head found, r" ++ decimal place ++ codes " has no bound"
    else codes ": no head found, s" ++ decimal (place - 11) ++ codes " has no bound"
