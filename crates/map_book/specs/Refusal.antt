-- How a refusal of new maps is printed.
use Rattle.std.specs.Prelude.{ℕ, List, codes}
use Rattle.map_book.specs.declared.map_error.MapError.{MapError}
use Rattle.map_book.specs.declared.map_error.MapError.TheVariants.{NoneUp, Limit, EpochsUsedUp, NoMemory}

-- number, space and name
abbrev pub map_error_text : MapError → List ℕ
map_error_text NoneUp = codes "1 NoneUp"
map_error_text Limit = codes "2 Limit"
map_error_text EpochsUsedUp = codes "3 EpochsUsedUp"
map_error_text NoMemory = codes "4 NoMemory"
