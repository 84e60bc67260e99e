-- Words whose budget and heads don't go together ask for no task of `asm` and `pack`.
use Rattle.std.proofs.Common.{◌≡◌, ◌∙◌, ◌⊎◌, ap, sym, inl, inr, refl, ℕ, true, false, Result, Ok, Err, IfErr}
use Rattle.std.specs.Prelude.{codes}
use Rattle.std.specs.Str.{bytes_eq}
use Rattle.class_tool.specs.declared.action.Action.{Action}
use Rattle.class_tool.specs.declared.action.Action.TheVariants.{Verify, Run, RunLarge, Assemble, Pack, Disassemble}
use Rattle.command_line.specs.Parsed.{Parsed, Text}
use Rattle.radoscls_program.specs.Arguments.{FindsHeads, FindsNone, Names, TakesTextHeads}
use Rattle.radoscls_program.specs.declared.task.Task.{Task}
use Rattle.radoscls_program.specs.declared.task.Task.TheVariants as task

first : {X Y : Type 0} → X × Y → X
first t = t.0

second : {X Y : Type 0} → X × Y → Y
second t = t.1

neither : {X Y : Type 0} → (X → ⊥) → (Y → ⊥) → X ⊎ Y → ⊥
neither no_x no_y (inl x) = no_x x
neither no_x no_y (inr y) = no_y y

-- a name is one text
apart : (name a b : Text) → bytes_eq a a ≡ true → bytes_eq a b ≡ false → name ≡ a → name ≡ b → ⊥
apart name a b same other is at =
    let bad : true ≡ false = sym same ∙ ap (λ t. bytes_eq a t) (sym is ∙ at) ∙ other in absurd cc

-- what holds whatever the error is
pub whatever : {A E : Type 0} (Q : E → Type 0) (P : Type 0) (o : Result A E) → P → IfErr o (λ e. Q e → P)
whatever Q P (Ok a) p = tt
whatever Q P (Err e) p = λ _. p

pub no_asm : (p : Parsed) → p.name ≡ codes "asm" → ((budget : ℕ) → FindsHeads p budget → ⊥) → (FindsNone p → ⊥) → (task : Task) → Names p task → ⊥
no_asm p is unfound found (task.Class (Verify image) t) names = apart p.name (codes "asm") (codes "verify") refl refl is names.name
no_asm p is unfound found (task.Class (Run call) t) names = first names.taken
no_asm p is unfound found (task.Class (RunLarge call) t) names = first names.taken
no_asm p is unfound found (task.Class (Assemble text image) t) names = found names.taken.0.2
no_asm p is unfound found (task.Class (Pack asked) t) names = apart p.name (codes "asm") (codes "pack") refl refl is names.name
no_asm p is unfound found (task.Class (Disassemble image slots) t) names = apart p.name (codes "asm") (codes "dis") refl refl is names.name
no_asm p is unfound found (task.Files asked) names = apart p.name (codes "asm") (codes "verify") refl refl is names.name
no_asm p is unfound found (task.Each image e) names = apart p.name (codes "asm") (codes "verify") refl refl is names.name
no_asm p is unfound found (task.Loops asked) names = apart p.name (codes "asm") (codes "verify") refl refl is names.name
no_asm p is unfound found (task.Heads asked) names =
    neither (λ h. apart p.name (codes "asm") (codes "heads") refl refl is (first h)) (λ h. let t : TakesTextHeads p asked = second h in unfound asked.budget t.heads) names.taken
no_asm p is unfound found (task.PackHeads asked) names = apart p.name (codes "asm") (codes "pack") refl refl is names.name
no_asm p is unfound found (task.Run call t) names = apart p.name (codes "asm") (codes "run") refl refl is names.name
no_asm p is unfound found (task.RunLoops call t) names = apart p.name (codes "asm") (codes "run") refl refl is names.name
no_asm p is unfound found (task.Test asked e) names = apart p.name (codes "asm") (codes "test") refl refl is names.name
no_asm p is unfound found (task.Sim s) names = apart p.name (codes "asm") (codes "sim") refl refl is names.name
no_asm p is unfound found (task.Cluster c) names = apart p.name (codes "asm") (codes "cluster") refl refl is names.name

pub no_pack : (p : Parsed) → p.name ≡ codes "pack" → ((budget : ℕ) → FindsHeads p budget → ⊥) → (FindsNone p → ⊥) → (task : Task) → Names p task → ⊥
no_pack p is unfound found (task.Class (Verify image) t) names = apart p.name (codes "pack") (codes "verify") refl refl is names.name
no_pack p is unfound found (task.Class (Run call) t) names = first names.taken
no_pack p is unfound found (task.Class (RunLarge call) t) names = first names.taken
no_pack p is unfound found (task.Class (Assemble text image) t) names = apart p.name (codes "pack") (codes "asm") refl refl is names.name
no_pack p is unfound found (task.Class (Pack asked) t) names = found (second (first names.taken))
no_pack p is unfound found (task.Class (Disassemble image slots) t) names = apart p.name (codes "pack") (codes "dis") refl refl is names.name
no_pack p is unfound found (task.Files asked) names = apart p.name (codes "pack") (codes "verify") refl refl is names.name
no_pack p is unfound found (task.Each image e) names = apart p.name (codes "pack") (codes "verify") refl refl is names.name
no_pack p is unfound found (task.Loops asked) names = apart p.name (codes "pack") (codes "verify") refl refl is names.name
no_pack p is unfound found (task.Heads asked) names =
    neither (λ h. apart p.name (codes "pack") (codes "heads") refl refl is (first h)) (λ h. apart p.name (codes "pack") (codes "asm") refl refl is (first h)) names.taken
no_pack p is unfound found (task.PackHeads asked) names = unfound asked.budget names.taken.heads
no_pack p is unfound found (task.Run call t) names = apart p.name (codes "pack") (codes "run") refl refl is names.name
no_pack p is unfound found (task.RunLoops call t) names = apart p.name (codes "pack") (codes "run") refl refl is names.name
no_pack p is unfound found (task.Test asked e) names = apart p.name (codes "pack") (codes "test") refl refl is names.name
no_pack p is unfound found (task.Sim s) names = apart p.name (codes "pack") (codes "sim") refl refl is names.name
no_pack p is unfound found (task.Cluster c) names = apart p.name (codes "pack") (codes "cluster") refl refl is names.name
