-- A need is told by its spelling.
use Rattle.std.proofs.Common.{◌≡◌, ◌∙◌, ℕ, List, [], ◌∷◌, Option, Some, None, refl, ap, sym, arith, drop, get_or}
use Rattle.std.specs.Prelude.{◌==◌, if◌then◌else◌}
use Rattle.byteorder.specs.Endian.{little_number}
use Rattle.byteorder.specs.Numbers.{little_number-reads_back}
use Rattle.part_bytes.specs.declared.need.Need.{Need}
use Rattle.part_bytes.specs.declared.need.Need.TheVariants.{Blocks, Xattr, Key, KeyFrom, XattrFrom}
use Rattle.part_bytes.specs.Need.{IsNeed, need_bytes}

-- the need that was spelled
need_of : ℕ → List ℕ → Need
need_of kind rest =
    if kind == 1 then Blocks (little_number 8 rest) (get_or rest 8 0)
    else (if kind == 2 then Xattr (record { items = drop 2 rest })
    else (if kind == 3 then Key (record { items = drop 2 rest })
    else (if kind == 4 then KeyFrom (record { items = drop 2 rest }) else XattrFrom (record { items = drop 2 rest }))))

need_at : List ℕ → Option Need
need_at [] = None
need_at (kind ∷ rest) = Some (need_of kind rest)

need_again : (n : Need) → IsNeed n → need_at (need_bytes n) ≡ Some n
unfolding need_at need_of
need_again (Blocks first count) h = ap (λ (k : ℕ). Some (Blocks k count)) (little_number-reads_back 8 first (count ∷ []) (omega (arith, h)))
need_again (Xattr name) h = refl
need_again (Key name) h = refl
need_again (KeyFrom name) h = refl
need_again (XattrFrom name) h = refl

some_same : (n m : Need) → ◌≡◌ {A = Option Need} (Some n) (Some m) → n ≡ m
some_same n m e = cc

pub one_need : (n m : Need) → IsNeed n → IsNeed m → need_bytes n ≡ need_bytes m → n ≡ m
one_need n m g h e = some_same n m (sym (need_again n g) ∙ ap need_at e ∙ need_again m h)
