-- Points as machine words: the tests and the sum that the code makes.
use Rattle.std.proofs.Common.{◌<◌, ◌+◌, ◌%◌, ◌≡◌, refl, true, false, not, eqb, ℤ, pos, negsuc, w32, SFits, of_z, arith}
use borrow.Author.Tests.{eq-eqb, ne_eqb, eqb-true, eqb-false}
use mir.Val.{bool_byte}
use Rattle.cube_spec.specs.Shots.{unshot, shot_of}
use Rattle.cube_spec.proofs.Sums.{by}
use Rattle.cube_spec.proofs.Shots.{shot_none, shot_some}
use Rattle.cell_pair.specs.Tiles.{raised_of}

-- the test that the code makes
pub marked : (x : ℤ) → SFits w32 x → of_z w32 x ≡ 2147483648 → unshot x ≡ true
unfolding unshot
marked (pos n) f q = absurd (let h : n < 2147483648 = f.sfits in omega arith)
marked (negsuc n) f q = let h : n < 2147483648 = f.sfits in eq-eqb n 2147483647 (omega arith)

pub unmarked : (x : ℤ) → SFits w32 x → (of_z w32 x ≡ 2147483648 → ⊥) → unshot x ≡ false
unfolding unshot
unmarked (pos n) f q = refl
unmarked (negsuc n) f q = let h : n < 2147483648 = f.sfits in ne_eqb n 2147483647 (λ e. q (omega arith))

-- the test as a number
pub tested : (x : ℤ) → SFits w32 x → pos (bool_byte (not (eqb (of_z w32 x) 2147483648))) ≡ shot_of x
tested x f = by (eqb (of_z w32 x) 2147483648)
    (λ t. rw t (shot_none x (marked x f (eqb-true (of_z w32 x) 2147483648 t))))
    (λ t. rw t (shot_some x (unmarked x f (eqb-false (of_z w32 x) 2147483648 t))))

-- 2^31 added to the bits
pub raised_bits : (x : ℤ) → SFits w32 x → (of_z w32 x + 2147483648) % 4294967296 ≡ raised_of x
unfolding raised_of
raised_bits (pos n) f = let h : n < 2147483648 = f.sfits in omega arith
raised_bits (negsuc n) f = let h : n < 2147483648 = f.sfits in omega arith
