-- Lemmas on the lines of a text.
use Rattle.std.proofs.Common.{◌≡◌, ℕ, List, [], ◌∷◌, map, Bor, refl, ap, ◌∙◌}
use Rattle.asm_lines.specs.Texts.{content}
use Rattle.asm_lines.specs.Statements.{statement_of, lines_of, statements_of}

fused : (xs : List (Bor (List ℕ))) → map (λ (l : Bor (List ℕ)). statement_of (content l.now)) xs ≡ map (λ line. statement_of (content line)) (map (λ (l : Bor (List ℕ)). l.now) xs)
fused [] = refl
fused (x ∷ xs) = ap (λ r. statement_of (content x.now) ∷ r) (fused xs)

-- reading each line reads the text
pub each_line : (xs : List (Bor (List ℕ))) (text : List ℕ) → map (λ l. l.now) xs ≡ lines_of text → map (λ l. statement_of (content l.now)) xs ≡ statements_of text
unfolding statements_of
each_line xs text h = fused xs ∙ ap (map (λ line. statement_of (content line))) h
