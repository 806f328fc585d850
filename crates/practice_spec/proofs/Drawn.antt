-- Laws of the draws: a state that is not 0 stays so, and what holds of every value made of a draw holds of all that are drawn.
use Prim.Native.Nat.{ℕ, zero, suc, ◌+◌, ◌*◌, ◌-◌, ◌/◌, ◌%◌, ◌^◌, ◌<◌}
use mathlib.Core.Path.{◌≡◌, ◌∙◌, refl, ap}
use mathlib.Core.List.{[], ◌∷◌, ◌++◌}
use native.Mathlib.Omega.{arith}
use lib.Bits.{bit_xor, xor_lt, xor_add_and, and_le_l, and_le_r}
use lib.ListN.{length, get_or}
use Rattle.tape_spec.specs.Writing.{Every}
use Rattle.practice_spec.specs.Draws.{left_by, right_by, round, after, drawn}

-- ---- one round

pub round_fits : (x : ℕ) → x < 2 ^ 32 → round x < 2 ^ 32
unfolding round left_by right_by
round_fits x h =
    let a = bit_xor x ((x * 2 ^ 13) % 2 ^ 32) in
    let b = bit_xor a (a / 2 ^ 17) in
    let fa : a < 2 ^ 32 = xor_lt 32 x ((x * 2 ^ 13) % 2 ^ 32) h (omega arith) in
    let fb : b < 2 ^ 32 = xor_lt 32 a (a / 2 ^ 17) fa (omega arith) in
    xor_lt 32 b ((b * 2 ^ 5) % 2 ^ 32) fb (omega arith)

xor_none : (x y : ℕ) → bit_xor x y ≡ 0 → x ≡ y
xor_none x y e = let s = xor_add_and x y in let l = and_le_l x y in let r = and_le_r x y in omega arith

-- 0 comes from 0 alone
round_none : (x : ℕ) → x < 2 ^ 32 → round x ≡ 0 → x ≡ 0
unfolding round left_by right_by
round_none x h e =
    let a = bit_xor x ((x * 2 ^ 13) % 2 ^ 32) in
    let b = bit_xor a (a / 2 ^ 17) in
    let fa : a < 2 ^ 32 = xor_lt 32 x ((x * 2 ^ 13) % 2 ^ 32) h (omega arith) in
    let fb : b < 2 ^ 32 = xor_lt 32 a (a / 2 ^ 17) fa (omega arith) in
    let eb : b ≡ 0 = left_none_5 b fb (xor_none b ((b * 2 ^ 5) % 2 ^ 32) e) in
    let ea : a ≡ 0 = right_none a (xor_none a (a / 2 ^ 17) eb) in
    left_none_13 x h (xor_none x ((x * 2 ^ 13) % 2 ^ 32) ea)
  where
    multiple_none : (x t : ℕ) → x < 2 ^ 32 → x ≡ 2 ^ 32 * t → x ≡ 0
    multiple_none x t h e = omega arith

    left_none_13 : (x : ℕ) → x < 2 ^ 32 → x ≡ (x * 2 ^ 13) % 2 ^ 32 → x ≡ 0
    left_none_13 x h e = let q = x * 2 ^ 13 / 2 ^ 32 in let t = q * 4227850239 - 8063 * x in multiple_none x t h (omega arith)

    left_none_5 : (x : ℕ) → x < 2 ^ 32 → x ≡ (x * 2 ^ 5) % 2 ^ 32 → x ≡ 0
    left_none_5 x h e = let q = x * 2 ^ 5 / 2 ^ 32 in let t = q * 3186588639 - 23 * x in multiple_none x t h (omega arith)

    right_none : (x : ℕ) → x ≡ x / 2 ^ 17 → x ≡ 0
    right_none x e = omega arith

-- A STATE THAT IS NOT 0 STAYS SO, in 32 bits: no draw from a seed is 0
pub after_fits : (n s : ℕ) → s < 2 ^ 32 → after n s < 2 ^ 32
unfolding after
after_fits zero s h = h
after_fits (suc n) s h = round_fits (after n s) (after_fits n s h)

pub after_some : (n s : ℕ) → s < 2 ^ 32 → 0 < s → 0 < after n s
unfolding after
after_some zero s h k = k
after_some (suc n) s h k =
    let i = after_some n s h k in
    some (round (after n s)) (λ z. let q = round_none (after n s) (after_fits n s h) z in absurd (omega arith))
  where
    some : (x : ℕ) → (x ≡ 0 → ⊥) → 0 < x
    some zero h = absurd (h refl)
    some (suc x) h = omega arith

-- ---- many draws

pub drawn_length : {A : Type 0} (f : ℕ → A) (n s : ℕ) → length (drawn f n s) ≡ n
unfolding drawn
drawn_length f zero s = refl
drawn_length f (suc n) s = ap suc (drawn_length f n (round s))

pub drawn_every : {A : Type 0} (P : A → Type 0) (f : ℕ → A) → ((x : ℕ) → P (f x)) → (n s : ℕ) → Every P (drawn f n s)
unfolding drawn
drawn_every P f h zero s = tt
drawn_every P f h (suc n) s = (h (round s), drawn_every P f h n (round s))

-- one round first, or last
pub after_first : (n s : ℕ) → after n (round s) ≡ after (suc n) s
unfolding after
after_first zero s = refl
after_first (suc n) s = ap round (after_first n s)

pub after_next : (n s : ℕ) → round (after n s) ≡ after (n + 1) s
unfolding after
after_next n s = let e : n + 1 ≡ suc n = omega arith in rw e refl

-- one draw more
pub drawn_next : {A : Type 0} (f : ℕ → A) (n s : ℕ) → drawn f (n + 1) s ≡ drawn f n s ++ f (round (after n s)) ∷ []
unfolding drawn after
drawn_next f zero s = refl
drawn_next f (suc n) s =
    let e : suc n + 1 ≡ suc (n + 1) = omega arith in
    rw e (ap (λ l. f (round s) ∷ l) (drawn_next f n (round s) ∙ ap (λ x. drawn f n (round s) ++ f (round x) ∷ []) (after_first n s)))

-- draw j from state s on, counted from 0
pub drawn_at : {A : Type 0} (f : ℕ → A) (z : A) (n s j : ℕ) → j < n → get_or (drawn f n s) j z ≡ f (after (suc j) s)
unfolding drawn
drawn_at f z zero s j h = absurd (omega arith)
drawn_at f z (suc n) s zero h = unfold after in refl
drawn_at f z (suc n) s (suc j) h = drawn_at f z n (round s) j (omega arith) ∙ ap f (after_first (suc j) s)

-- n rounds, and m more
pub after_more : (m n s : ℕ) → after m (after n s) ≡ after (n + m) s
unfolding after
after_more zero n s = let e : n + 0 ≡ n = omega arith in rw e refl
after_more (suc m) n s = let e : n + suc m ≡ suc (n + m) = omega arith in rw e (ap round (after_more m n s))
