-- The line on a method for which no heads are found.
use Rattle.std.specs.Prelude.{ℕ, List, ◌++◌, Option, Some, None, codes, string_bytes}
use Rattle.std.specs.Fmt.{decimal}
use Rattle.loop_finder.specs.declared.find_error.FindError.{FindError}
use Rattle.loop_finder.specs.declared.find_error.FindError.TheVariants.{NoMemory, Limit, RuleSet, NoHead}
use Rattle.loop_tool.specs.Places.{unbound_text}
use Rattle.loop_tool.specs.declared.no_heads.NoHeads.{NoHeads}

-- that none is found, and the place whose bounds keep growing, if it is known
abbrev pub none_text : Option ℕ → List ℕ
none_text None = codes ": no head found"
none_text (Some place) = unbound_text place

-- what is said after the method's name
abbrev pub why_text : FindError → List ℕ
why_text NoMemory = codes ": no memory"
why_text Limit = codes ": more than 64 heads"
why_text RuleSet = codes ": loops need rule set 3"
why_text (NoHead slot place) = codes " slot " ++ decimal slot ++ none_text place

abbrev pub no_heads_text : NoHeads → List ℕ
no_heads_text it = string_bytes it.method ++ why_text it.error
