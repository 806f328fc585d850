-- What chains of iterators compute, in this repository's words.
use Prim.Native.Nat.{ℕ, suc, ◌+◌, ◌*◌, ◌^◌, ◌≤◌, ◌<◌}
use mathlib.Core.Path.{◌≡◌, sym, refl}
use mathlib.Core.Bool.{Bool, true, false, cond}
use mathlib.Core.List.{List}
use native.Mathlib.Omega.{arith}
use native.Mathlib.Nat.{pow-succ'}
use native.Mathlib.Decide.{dec_le}
use borrow.Author.Tests.{lt-ltb}
use lib.Dec.{eqb}
use lib.ListN.{length, get_or}
use lib.Pow.{pow_mono, pow_pos}
use Rattle.std.specs.Prelude.{Option, Some, None, IfNone, IfSome, unwrap_or}
use Rattle.std.specs.List.{sum, sum_by, count_by, position, position_or_len}
use Rattle.std.proofs.lemmas.List.Recursion.{is_sum_by, is_count_by, is_position_or_len, or_is}
use Rattle.cube_spec.specs.Boxes.{pick}
use Rattle.cube_spec.specs.Ways.{sum_list, log2, room}
use Rattle.plan_spec.specs.Plans.{count, find}
use Rattle.plan_spec.specs.Refusals.{all, some}
use Rattle.plan_spec.proofs.Judging.{all_each, all_fails, log2_none}
use Rattle.plan_spec.proofs.Room.{log2_fit, log2_most}

-- what `any` answered
pub some_is : (f : ℕ → Bool) (l : List ℕ) (r : Bool) → (r ≡ true → (i : ℕ) × (i < length l) × (f (get_or l i 0) ≡ true)) → (r ≡ false → (i : ℕ) → i < length l → f (get_or l i 0) ≡ false)
    → r ≡ some f l
unfolding some
some_is f l r y n = or_is (some f) f refl (λ x t. refl) l 0 r y n

-- and `all`, over the numbers below n
pub all_is : (f : ℕ → Bool) (n : ℕ) (r : Bool) → (r ≡ true → (d : ℕ) → d < n → f d ≡ true) → (r ≡ false → (d : ℕ) × (d < n) × (f d ≡ false)) → r ≡ all n f
all_is f n true y h = sym (all_each f n (y refl))
all_is f n false y h = let d = h refl in sym (all_fails f n d.0 d.1 d.2)

pub sum_listed : (l : List ℕ) → sum_list l ≡ sum l
unfolding sum_list
sum_listed l = is_sum_by sum_list (λ x. x) refl (λ x r. refl) l

pub room_listed : (l : List ℕ) → room l ≡ sum_by log2 l
unfolding room
room_listed l = is_sum_by room log2 refl (λ x r. refl) l

count_step : (b : Bool) (n : ℕ) → pick b 1 0 + n ≡ cond b (1 + n) n
count_step true n = refl
count_step false n = omega arith

pub count_listed : (a : ℕ) (l : List ℕ) → count a l ≡ count_by (λ x. eqb x a) l
unfolding count
count_listed a l = is_count_by (count a) (λ x. eqb x a) refl (λ x r. count_step (eqb x a) (count a r)) l

-- the one power of two between half of d and d
pub log2_by : (d k : ℕ) → 2 ^ k ≤ d → d < 2 * 2 ^ k → k ≡ log2 d
log2_by d k l h = go (dec_le (suc k) (log2 d))
  where
    go : Dec (suc k ≤ log2 d) → k ≡ log2 d
    go (yes r) = absurd (let p : 2 ^ suc k ≤ 2 ^ log2 d = pow_mono r in let q = pow-succ' 2 k in let s = pow_pos k in let f = log2_fit d (omega arith) in omega arith)
    go (no r) = let m = log2_most d k l in omega (arith, r)

pub log2_or : (d : ℕ) (o : Option ℕ) → IfNone o (d ≡ 0) → IfSome o (λ k. 2 ^ k ≤ d) → IfSome o (λ k. d < 2 * 2 ^ k) → IfSome o (λ k. k < 32)
    → (unwrap_or o 0 ≡ log2 d) × (unwrap_or o 0 < 32)
log2_or d None n l h b = (sym (log2_none d (omega arith)), omega arith)
log2_or d (Some k) n l h b = (log2_by d k l h, b)

-- ---- `position`, where something is found

place_step : (b : Bool) (n : ℕ) → pick b 0 (suc n) ≡ cond b 0 (1 + n)
place_step true n = refl
place_step false n = omega arith

pub find_listed : (a : ℕ) (l : List ℕ) → find a l ≡ position_or_len (λ x. eqb x a) l
unfolding find
find_listed a l = is_position_or_len (find a) (λ x. eqb x a) refl (λ x r. place_step (eqb x a) (find a r)) l

pub found_at : (a : ℕ) (l : List ℕ) → find a l < length l → position (λ x. eqb x a) l ≡ Some (find a l)
found_at a l h = let e = find_listed a l in rw (lt-ltb (position_or_len (λ x. eqb x a) l) (length l) (omega arith), e)
