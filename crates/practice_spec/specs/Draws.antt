-- Practice campaigns: the draws from a seed, and the campaign and the tape that they make.
use Rattle.std.specs.Prelude.{ℕ, zero, suc, ◌+◌, ◌*◌, ◌/◌, ◌%◌, ◌^◌, min, List, [], ◌∷◌, ℤ, pos, ◌-ℤ◌}
use Rattle.std.specs.Int.Bits.{bit_xor}
use Rattle.cube_spec.specs.Choices.{points}
use Rattle.cube_spec.specs.Ways.{room}
use Rattle.tape_spec.specs.Tapes.{Campaign}
use Rattle.tape_spec.specs.Writing.{written}

-- ---- "the xorshift of shifts 13 left, 17 right, 5 left", on 32 bits

-- a state, exclusive or itself shifted by k places
unfoldable pub left_by : ℕ → ℕ → ℕ
left_by k x = bit_xor x ((x * 2 ^ k) % 2 ^ 32)

unfoldable pub right_by : ℕ → ℕ → ℕ
right_by k x = bit_xor x (x / 2 ^ k)

-- one round
unfoldable pub round : ℕ → ℕ
round x = left_by 5 (right_by 17 (left_by 13 x))

-- the state after n rounds
unfoldable pub after : ℕ → ℕ → ℕ
after zero s = s
after (suc n) s = round (after n s)

-- "each draw being the state after one round": n draws from state s on, in order, and what f makes of each
unfoldable pub drawn : {A : Type 0} → (ℕ → A) → ℕ → ℕ → List A
drawn f zero s = []
drawn f (suc n) s = f (round s) ∷ drawn f n (round s)

-- ---- the campaign of a seed, 1 to 4,294,967,295: the number of axes, the lengths, p and the points are drawn in this order

-- "Axes: 1 plus draw mod 4."
unfoldable pub axes_of : ℕ → ℕ
axes_of seed = 1 + round seed % 4

-- "Each length: 1 plus draw mod 9."
unfoldable pub length_by : ℕ → ℕ
length_by draw = 1 + draw % 9

unfoldable pub lengths_of : ℕ → List ℕ
lengths_of seed = drawn length_by (axes_of seed) (round seed)

-- "Then p: draw mod (1 + the smaller of 3 and F)."; F, "the sum of floor(log2 length)", is `room`
unfoldable pub power_draw : ℕ → ℕ
power_draw seed = round (after (axes_of seed) (round seed))

unfoldable pub power_of : ℕ → ℕ
power_of seed = power_draw seed % (1 + min 3 (room (lengths_of seed)))

-- "Each point: draw mod 2,001, less 1,000"
unfoldable pub point_by : ℕ → ℤ
point_by draw = pos (draw % 2001) -ℤ pos 1000

unfoldable pub points_of : ℕ → List ℤ
points_of seed = drawn point_by (points (lengths_of seed)) (power_draw seed)

unfoldable pub practice : ℕ → Campaign
practice seed = record { lengths = lengths_of seed; p = power_of seed; points = points_of seed }

-- its tape, each point "by command 56"
unfoldable pub tape_of : Campaign → List ℕ
tape_of c = written c.lengths c.p c.points
