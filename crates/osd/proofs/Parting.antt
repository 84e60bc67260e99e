-- What new queues and a new board hand out.
use Rattle.std.proofs.Common.{◌≡◌, ℕ, List, length, map, refl, ap, ◌∙◌}
use Rattle.std.specs.Prelude.{All}
use Rattle.std.specs.List.{range_with_len}
use Rattle.std.proofs.lemmas.List.Elements.{All-same, All-map}
use Rattle.std.proofs.lemmas.List.FromFn.{length-map-range_with_len}
use Rattle.atomic_table.specs.Seated.{TableId}
use Rattle.op_shards.specs.Passes.{Queues, Sender, Taker, new_sender, new_taker}
use Rattle.commit_board.specs.Tokens.{Row, new_writer}
use Rattle.carried.specs.declared.operation.Operation.{Operation}
use Rattle.osd.specs.Unnamed.{IsUnused}

pub senders_fit : (q : Queues) (n : ℕ) (xs : List (Sender Operation)) → xs ≡ map (new_sender q) (range_with_len 0 n) → (length xs ≡ n) × All (λ s. s.queues ≡ q) xs
senders_fit q n xs e = (
  ap length e ∙ length-map-range_with_len (new_sender q) 0 n,
  All-same (λ (s : Sender Operation). s.queues ≡ q) xs (map (new_sender q) (range_with_len 0 n)) e (All-map (λ (s : Sender Operation). s.queues ≡ q) (new_sender q) (range_with_len 0 n) (λ k d lt. refl)),
)

pub takers_fit : (q : Queues) (n : ℕ) (xs : List (Taker Operation)) → xs ≡ map (λ _. new_taker q) (range_with_len 0 n) → (length xs ≡ n) × All (λ t. t.queues ≡ q) xs
takers_fit q n xs e =
    let f : ℕ → Taker Operation = λ _. new_taker q in (
      ap length e ∙ length-map-range_with_len f 0 n,
      All-same (λ (t : Taker Operation). t.queues ≡ q) xs (map f (range_with_len 0 n)) e (All-map (λ (t : Taker Operation). t.queues ≡ q) f (range_with_len 0 n) (λ k d lt. refl)),
    )

pub writers_fit : (board : TableId) (n : ℕ) (xs : List Row) → xs ≡ map (new_writer board) (range_with_len 0 n) → (length xs ≡ n) × All (IsUnused board) xs
writers_fit board n xs e = (
  ap length e ∙ length-map-range_with_len (new_writer board) 0 n,
  All-same (IsUnused board) xs (map (new_writer board) (range_with_len 0 n)) e (All-map (IsUnused board) (new_writer board) (range_with_len 0 n) (λ k d lt. record { board = refl; list = refl })),
)
