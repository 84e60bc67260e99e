-- `verify --all` prints of each method the verdict of that method by itself.
use Rattle.std.specs.Prelude.{◌≡◌, ℕ, ◌+◌, ◌&&◌, Bool, true, List, [], ◌∷◌, ◌++◌, Option, Some, None, codes, is_none}
use Rattle.std.specs.Prelude.{string_bytes}
use Rattle.bpf_decode.specs.Class.{ClassMethod}
use Rattle.bpf_decode.specs.declared.rule_set.RuleSet.{RuleSet}
use Rattle.verifier.specs.RuleNumber.{refusal_text}
use Rattle.verifier.specs.Verdict.{method_verdict}
use Rattle.verifier.specs.declared.refusal.Refusal.{Refusal}
use Rattle.verifier.specs.declared.rule.Rule.{Rule}
use Rattle.class_tool.specs.ActionResult.{method_line}
use Rattle.program_files.specs.Files.{Disk}
use Rattle.program_files.specs.Image.{IsSourceOf, class_of}
use Rattle.class_tool.specs.Note.{IsNote}
use Rattle.class_tool.specs.declared.each.Verdicts.{Verdicts}
use Rattle.program_files.specs.declared.image.ClassSource.{ClassSource}

-- a refusal's line, and a note below it, if one is asked for
abbrev pub IsRefusalText : Bool → Refusal → List ℕ → Type 0
IsRefusalText is_explained refusal text =
    (note : List ℕ) × IsNote is_explained note × (text ≡ refusal_text refusal ++ codes "\n" ++ note)

-- the text of the method with that number, by its verdict
abbrev pub IsVerdictText : Bool → ℕ → ClassMethod → Option (ℕ × Rule) → List ℕ → Type 0
IsVerdictText is_explained number m None text = text ≡ method_line m
IsVerdictText is_explained number m (Some at) text =
    IsRefusalText is_explained (record { method = number; slot = at.0; rule = at.1 }) text

-- the text of all methods; the first has that number
abbrev pub IsEachText : Bool → RuleSet → ℕ → List ClassMethod → List ℕ → Type 0
IsEachText is_explained rules number [] text = text ≡ []
IsEachText is_explained rules number (m ∷ ms) text =
    (first rest : List ℕ) × IsVerdictText is_explained number m (method_verdict rules m) first
    × IsEachText is_explained rules (number + 1) ms rest × (text ≡ first ++ rest)

-- no rule refuses any of the methods
abbrev pub are_accepted : RuleSet → List ClassMethod → Bool
are_accepted rules [] = true
are_accepted rules (m ∷ ms) = is_none (method_verdict rules m) && are_accepted rules ms

-- the text is that of the class whose image or text the file holds
pub record AreVerdicts (disk : Option Disk) (name : List ℕ) (is_explained : Bool) (verdicts : Verdicts) : Type 0 where
  pub source : ClassSource
  pub read : IsSourceOf disk name source
  pub lines : IsEachText is_explained (class_of source).rules 0 (class_of source).methods (string_bytes verdicts.lines)
  pub accepted : verdicts.are_accepted ≡ are_accepted (class_of source).rules (class_of source).methods
