-- Small tapes, none of them a case of P1 to P10, with what the program prints for each, and tapes at its limits with what it refuses.
-- Written by `compare table tapes`, which works the output out by direct sums of its own.
use Prim.Native.Nat.{ℕ}
use mathlib.Core.List.{List, [], ◌∷◌}
use lib.ListN.{replicate}
use Rattle.report_spec.specs.Text.{text}

pub record Case : Type 0 where
  pub tape : List ℕ
  pub output : List ℕ

-- `refusal` is 0 for a tape that is taken
pub record Limit : Type 0 where
  pub tape : List ℕ
  pub refusal : ℕ

-- lengths 2, 5, p 1: the longer axis second
unfoldable pub longer_axis_second : Case
longer_axis_second = record { tape = 65 ∷ 2 ∷ 0 ∷ 65 ∷ 5 ∷ 0 ∷ 66 ∷ 1 ∷ 86 ∷ 1 ∷ 0 ∷ 0 ∷ 0 ∷ 86 ∷ 254 ∷ 255 ∷ 255 ∷ 255 ∷ 86 ∷ 3 ∷ 0 ∷ 0 ∷ 0 ∷ 86 ∷ 4 ∷ 0 ∷ 0 ∷ 0 ∷ 86 ∷ 5 ∷ 0 ∷ 0 ∷ 0 ∷ 86 ∷ 250 ∷ 255 ∷ 255 ∷ 255 ∷ 86 ∷ 0 ∷ 0 ∷ 0 ∷ 0 ∷ 86 ∷ 7 ∷ 0 ∷ 0 ∷ 0 ∷ 86 ∷ 248 ∷ 255 ∷ 255 ∷ 255 ∷ 86 ∷ 9 ∷ 0 ∷ 0 ∷ 0 ∷ 69 ∷ []; output = text "plan 2 1 2 22 5\ndim 1 5 1\ndim 0 2 0\ngroup 2 -5 -2 10 -4 14\ngroup 0 13\ngroup 1 11 2\nend 3\n" }

-- length 6, p 2: one axis
unfoldable pub one_axis : Case
one_axis = record { tape = 65 ∷ 6 ∷ 0 ∷ 66 ∷ 2 ∷ 86 ∷ 7 ∷ 0 ∷ 0 ∷ 0 ∷ 86 ∷ 0 ∷ 0 ∷ 0 ∷ 0 ∷ 86 ∷ 255 ∷ 255 ∷ 255 ∷ 255 ∷ 86 ∷ 12 ∷ 0 ∷ 0 ∷ 0 ∷ 86 ∷ 3 ∷ 0 ∷ 0 ∷ 0 ∷ 86 ∷ 216 ∷ 255 ∷ 255 ∷ 255 ∷ 69 ∷ []; output = text "plan 1 2 3 6 1\ndim 0 6 2\ngroup 0 -19\nend 1\n" }

-- lengths 3, 2, 2, p 2: three axes, points by a 52
unfoldable pub three_axes : Case
three_axes = record { tape = 65 ∷ 3 ∷ 0 ∷ 65 ∷ 2 ∷ 0 ∷ 65 ∷ 2 ∷ 0 ∷ 66 ∷ 2 ∷ 82 ∷ 3 ∷ 0 ∷ 5 ∷ 0 ∷ 0 ∷ 0 ∷ 86 ∷ 249 ∷ 255 ∷ 255 ∷ 255 ∷ 82 ∷ 8 ∷ 0 ∷ 1 ∷ 0 ∷ 0 ∷ 0 ∷ 69 ∷ []; output = text "plan 3 2 12 52 8\ndim 0 3 1\ndim 1 2 1\ndim 2 2 0\ngroup 3 10 -2 2 2 2 2\ngroup 1 8 4 4\ngroup 5 10 -2 2 2 2 2\ngroup 2 14 2\ngroup 0 16\ngroup 4 14 2\ngroup 6 7 7 7 -5\nend 7\n" }

-- length 6, p 1: six points of -2147483648
unfoldable pub lowest_points : Case
lowest_points = record { tape = 65 ∷ 6 ∷ 0 ∷ 66 ∷ 1 ∷ 86 ∷ 0 ∷ 0 ∷ 0 ∷ 128 ∷ 86 ∷ 0 ∷ 0 ∷ 0 ∷ 128 ∷ 86 ∷ 0 ∷ 0 ∷ 0 ∷ 128 ∷ 86 ∷ 0 ∷ 0 ∷ 0 ∷ 128 ∷ 86 ∷ 0 ∷ 0 ∷ 0 ∷ 128 ∷ 86 ∷ 0 ∷ 0 ∷ 0 ∷ 128 ∷ 69 ∷ []; output = text "plan 1 1 1 6 1\ndim 0 6 1\ngroup 0 -12884901888\nend 1\n" }

-- lengths 2, 2, p 2: both axes split
unfoldable pub both_axes_split : Case
both_axes_split = record { tape = 65 ∷ 2 ∷ 0 ∷ 65 ∷ 2 ∷ 0 ∷ 66 ∷ 2 ∷ 86 ∷ 1 ∷ 0 ∷ 0 ∷ 0 ∷ 86 ∷ 10 ∷ 0 ∷ 0 ∷ 0 ∷ 86 ∷ 100 ∷ 0 ∷ 0 ∷ 0 ∷ 86 ∷ 160 ∷ 134 ∷ 1 ∷ 0 ∷ 69 ∷ []; output = text "plan 2 2 5 10 2\ndim 0 2 1\ndim 1 2 1\ngroup 1 11 100100\ngroup 0 100111\ngroup 2 101 100010\nend 3\n" }

-- lengths 1, 1, p 0: two axes of length 1
unfoldable pub two_axes_of_one : Case
two_axes_of_one = record { tape = 65 ∷ 1 ∷ 0 ∷ 65 ∷ 1 ∷ 0 ∷ 66 ∷ 0 ∷ 86 ∷ 247 ∷ 255 ∷ 255 ∷ 255 ∷ 69 ∷ []; output = text "plan 2 0 0 3 2\ndim 0 1 0\ndim 1 1 0\ngroup 1 -9\ngroup 0 -9\ngroup 2 -9\nend 3\n" }

-- lengths 2, 3, 2, p 1: the middle axis longest, negative points
unfoldable pub middle_axis_longest : Case
middle_axis_longest = record { tape = 65 ∷ 2 ∷ 0 ∷ 65 ∷ 3 ∷ 0 ∷ 65 ∷ 2 ∷ 0 ∷ 66 ∷ 1 ∷ 86 ∷ 255 ∷ 255 ∷ 255 ∷ 255 ∷ 86 ∷ 254 ∷ 255 ∷ 255 ∷ 255 ∷ 86 ∷ 253 ∷ 255 ∷ 255 ∷ 255 ∷ 86 ∷ 252 ∷ 255 ∷ 255 ∷ 255 ∷ 86 ∷ 251 ∷ 255 ∷ 255 ∷ 255 ∷ 86 ∷ 250 ∷ 255 ∷ 255 ∷ 255 ∷ 86 ∷ 249 ∷ 255 ∷ 255 ∷ 255 ∷ 86 ∷ 248 ∷ 255 ∷ 255 ∷ 255 ∷ 86 ∷ 247 ∷ 255 ∷ 255 ∷ 255 ∷ 86 ∷ 10 ∷ 0 ∷ 0 ∷ 0 ∷ 86 ∷ 11 ∷ 0 ∷ 0 ∷ 0 ∷ 86 ∷ 244 ∷ 255 ∷ 255 ∷ 255 ∷ 69 ∷ []; output = text "plan 3 1 4 52 12\ndim 1 3 1\ndim 0 2 0\ndim 2 2 0\ngroup 3 -3 -7 -11 -15 1 -1\ngroup 2 -18 -6 -12\ngroup 6 -8 -10 -12 6 6 -18\ngroup 1 -21 -15\ngroup 0 -36\ngroup 4 -14 -22\ngroup 5 -9 -12 -5 -10\nend 7\n" }

-- lengths 2, 3, p 1: points by a 4D, a 52, a 4B, a 4D and a 56
unfoldable pub readings_of_all_kinds : Case
readings_of_all_kinds = record { tape = 65 ∷ 2 ∷ 0 ∷ 65 ∷ 3 ∷ 0 ∷ 66 ∷ 1 ∷ 77 ∷ 0 ∷ 0 ∷ 192 ∷ 62 ∷ 82 ∷ 2 ∷ 0 ∷ 249 ∷ 255 ∷ 255 ∷ 255 ∷ 75 ∷ 0 ∷ 0 ∷ 128 ∷ 188 ∷ 77 ∷ 215 ∷ 163 ∷ 128 ∷ 191 ∷ 86 ∷ 5 ∷ 0 ∷ 0 ∷ 0 ∷ 69 ∷ []; output = text "plan 2 1 2 14 4\ndim 1 3 1\ndim 0 2 0\ngroup 2 -1524 -107 -2\ngroup 0 -1633\ngroup 1 24 -1657\nend 3\n" }

-- lengths 3, 2, p 3, of which 2 is used: four boards idle
unfoldable pub boards_idle : Case
boards_idle = record { tape = 65 ∷ 3 ∷ 0 ∷ 65 ∷ 2 ∷ 0 ∷ 66 ∷ 3 ∷ 86 ∷ 1 ∷ 0 ∷ 0 ∷ 0 ∷ 86 ∷ 2 ∷ 0 ∷ 0 ∷ 0 ∷ 86 ∷ 3 ∷ 0 ∷ 0 ∷ 0 ∷ 86 ∷ 4 ∷ 0 ∷ 0 ∷ 0 ∷ 86 ∷ 5 ∷ 0 ∷ 0 ∷ 0 ∷ 86 ∷ 6 ∷ 0 ∷ 0 ∷ 0 ∷ 69 ∷ []; output = text "plan 2 2 6 14 3\ndim 0 3 1\ndim 1 2 1\ngroup 1 3 7 11\ngroup 0 21\ngroup 2 9 12\nend 3\n" }

-- refused 2: no 45
unfoldable pub no_end : Case
no_end = record { tape = 65 ∷ 2 ∷ 0 ∷ 66 ∷ 1 ∷ 86 ∷ 1 ∷ 0 ∷ 0 ∷ 0 ∷ 86 ∷ 2 ∷ 0 ∷ 0 ∷ 0 ∷ []; output = text "refused 2\n" }

-- refused 3: no 41
unfoldable pub no_axes : Case
no_axes = record { tape = 66 ∷ 0 ∷ 86 ∷ 1 ∷ 0 ∷ 0 ∷ 0 ∷ 69 ∷ []; output = text "refused 3\n" }

-- refused 4: a length of 0
unfoldable pub zero_length : Case
zero_length = record { tape = 65 ∷ 2 ∷ 0 ∷ 65 ∷ 0 ∷ 0 ∷ 66 ∷ 0 ∷ 69 ∷ []; output = text "refused 4\n" }

-- refused 5: lengths 2048, 8193
unfoldable pub too_many_points_lem : Case
too_many_points_lem = record { tape = 65 ∷ 0 ∷ 8 ∷ 65 ∷ 1 ∷ 32 ∷ 66 ∷ 0 ∷ 86 ∷ 1 ∷ 0 ∷ 0 ∷ 0 ∷ 69 ∷ []; output = text "refused 5\n" }

-- refused 6: p 11
unfoldable pub high_p : Case
high_p = record { tape = 65 ∷ 0 ∷ 16 ∷ 66 ∷ 11 ∷ 69 ∷ []; output = text "refused 6\n" }

-- refused 10: lengths 2, 2 and three points
unfoldable pub point_missing : Case
point_missing = record { tape = 65 ∷ 2 ∷ 0 ∷ 65 ∷ 2 ∷ 0 ∷ 66 ∷ 1 ∷ 86 ∷ 1 ∷ 0 ∷ 0 ∷ 0 ∷ 86 ∷ 2 ∷ 0 ∷ 0 ∷ 0 ∷ 86 ∷ 3 ∷ 0 ∷ 0 ∷ 0 ∷ 69 ∷ []; output = text "refused 10\n" }

-- refused 11: length 65535 and as many points
unfoldable pub past_the_program : Case
past_the_program = record { tape = 65 ∷ 255 ∷ 255 ∷ 66 ∷ 0 ∷ 82 ∷ 255 ∷ 255 ∷ 0 ∷ 0 ∷ 0 ∷ 0 ∷ 69 ∷ []; output = text "refused 11\n" }

-- refused 2: no 45, and a length of 0
unfoldable pub form_before_length : Case
form_before_length = record { tape = 65 ∷ 0 ∷ 0 ∷ 66 ∷ 0 ∷ []; output = text "refused 2\n" }

-- refused 3: nine axes, one of length 0, and p 200
unfoldable pub axes_before_length : Case
axes_before_length = record { tape = 65 ∷ 1 ∷ 0 ∷ 65 ∷ 1 ∷ 0 ∷ 65 ∷ 1 ∷ 0 ∷ 65 ∷ 1 ∷ 0 ∷ 65 ∷ 0 ∷ 0 ∷ 65 ∷ 1 ∷ 0 ∷ 65 ∷ 1 ∷ 0 ∷ 65 ∷ 1 ∷ 0 ∷ 65 ∷ 1 ∷ 0 ∷ 66 ∷ 200 ∷ 69 ∷ []; output = text "refused 3\n" }

-- refused 4: a length of 0 after 65535 twice, and p 11
unfoldable pub length_before_product : Case
length_before_product = record { tape = 65 ∷ 255 ∷ 255 ∷ 65 ∷ 255 ∷ 255 ∷ 65 ∷ 0 ∷ 0 ∷ 66 ∷ 11 ∷ 69 ∷ []; output = text "refused 4\n" }

-- refused 5: lengths 65535 twice, and p 11
unfoldable pub product_before_p : Case
product_before_p = record { tape = 65 ∷ 255 ∷ 255 ∷ 65 ∷ 255 ∷ 255 ∷ 66 ∷ 11 ∷ 69 ∷ []; output = text "refused 5\n" }

-- refused 6: p 11 for length 2, and one point
unfoldable pub p_before_points : Case
p_before_points = record { tape = 65 ∷ 2 ∷ 0 ∷ 66 ∷ 11 ∷ 86 ∷ 1 ∷ 0 ∷ 0 ∷ 0 ∷ 69 ∷ []; output = text "refused 6\n" }

-- refused 10: p 2 for length 2, of which 1 is used, and 9000 points
unfoldable pub idle_before_points : Case
idle_before_points = record { tape = 65 ∷ 2 ∷ 0 ∷ 66 ∷ 2 ∷ 82 ∷ 39 ∷ 35 ∷ 1 ∷ 0 ∷ 0 ∷ 0 ∷ 82 ∷ 1 ∷ 0 ∷ 2 ∷ 0 ∷ 0 ∷ 0 ∷ 69 ∷ []; output = text "refused 10\n" }

-- refused 10: 9000 points for length 2
unfoldable pub points_before_limit : Case
points_before_limit = record { tape = 65 ∷ 2 ∷ 0 ∷ 66 ∷ 0 ∷ 82 ∷ 39 ∷ 35 ∷ 1 ∷ 0 ∷ 0 ∷ 0 ∷ 82 ∷ 1 ∷ 0 ∷ 2 ∷ 0 ∷ 0 ∷ 0 ∷ 69 ∷ []; output = text "refused 10\n" }

unfoldable pub cases : List Case
unfolding longer_axis_second one_axis three_axes lowest_points both_axes_split two_axes_of_one middle_axis_longest readings_of_all_kinds boards_idle no_end no_axes zero_length too_many_points_lem high_p point_missing past_the_program form_before_length axes_before_length length_before_product product_before_p p_before_points idle_before_points points_before_limit
cases = longer_axis_second ∷ one_axis ∷ three_axes ∷ lowest_points ∷ both_axes_split ∷ two_axes_of_one ∷ middle_axis_longest ∷ readings_of_all_kinds ∷ boards_idle ∷ no_end ∷ no_axes ∷ zero_length ∷ too_many_points_lem ∷ high_p ∷ point_missing ∷ past_the_program ∷ form_before_length ∷ axes_before_length ∷ length_before_product ∷ product_before_p ∷ p_before_points ∷ idle_before_points ∷ points_before_limit ∷ []

-- taken: 8192 points
unfoldable pub most_points : Limit
most_points = record { tape = 65 ∷ 0 ∷ 32 ∷ 66 ∷ 0 ∷ 82 ∷ 0 ∷ 32 ∷ 1 ∷ 0 ∷ 0 ∷ 0 ∷ 69 ∷ []; refusal = 0 }

-- refused 11: 8193 points, and a work area of one cell
unfoldable pub one_point_more : Limit
one_point_more = record { tape = 65 ∷ 1 ∷ 32 ∷ 66 ∷ 0 ∷ 82 ∷ 1 ∷ 32 ∷ 1 ∷ 0 ∷ 0 ∷ 0 ∷ 69 ∷ []; refusal = 11 }

-- taken: a work area of 8192 cells on one board
unfoldable pub most_cells : Limit
most_cells = record { tape = 65 ∷ 255 ∷ 31 ∷ 65 ∷ 1 ∷ 0 ∷ 66 ∷ 0 ∷ 82 ∷ 255 ∷ 31 ∷ 1 ∷ 0 ∷ 0 ∷ 0 ∷ 69 ∷ []; refusal = 0 }

-- refused 11: a work area of 8193 cells, and 8192 points
unfoldable pub one_cell_more : Limit
one_cell_more = record { tape = 65 ∷ 0 ∷ 32 ∷ 65 ∷ 1 ∷ 0 ∷ 66 ∷ 0 ∷ 82 ∷ 0 ∷ 32 ∷ 1 ∷ 0 ∷ 0 ∷ 0 ∷ 69 ∷ []; refusal = 11 }

-- taken: 1024 boards of 8 cells each
unfoldable pub most_shares : Limit
most_shares = record { tape = 65 ∷ 17 ∷ 0 ∷ 65 ∷ 9 ∷ 0 ∷ 65 ∷ 8 ∷ 0 ∷ 66 ∷ 10 ∷ 82 ∷ 200 ∷ 4 ∷ 1 ∷ 0 ∷ 0 ∷ 0 ∷ 69 ∷ []; refusal = 0 }

-- refused 11: 1024 boards of 9 cells each, and 8192 points
unfoldable pub one_cell_a_share_more : Limit
one_cell_a_share_more = record { tape = 65 ∷ 0 ∷ 32 ∷ 65 ∷ 1 ∷ 0 ∷ 66 ∷ 10 ∷ 82 ∷ 0 ∷ 32 ∷ 1 ∷ 0 ∷ 0 ∷ 0 ∷ 69 ∷ []; refusal = 11 }

-- refused 2: 65536 bytes, and no command
unfoldable pub longest_tape_lem : Limit
longest_tape_lem = record { tape = replicate 65536 0; refusal = 2 }

-- refused 1: 65537 bytes, and no command
unfoldable pub one_byte_more : Limit
one_byte_more = record { tape = replicate 65537 0; refusal = 1 }

-- taken: 256 boards of 32 cells each, and 768 idle
unfoldable pub most_shares_in_use : Limit
most_shares_in_use = record { tape = 65 ∷ 7 ∷ 0 ∷ 65 ∷ 7 ∷ 0 ∷ 65 ∷ 7 ∷ 0 ∷ 65 ∷ 7 ∷ 0 ∷ 66 ∷ 10 ∷ 82 ∷ 97 ∷ 9 ∷ 1 ∷ 0 ∷ 0 ∷ 0 ∷ 69 ∷ []; refusal = 0 }

-- refused 11: 256 boards of 48 cells each, and 256 idle
unfoldable pub in_use_past_the_limit : Limit
in_use_past_the_limit = record { tape = 65 ∷ 7 ∷ 0 ∷ 65 ∷ 7 ∷ 0 ∷ 65 ∷ 7 ∷ 0 ∷ 65 ∷ 7 ∷ 0 ∷ 65 ∷ 1 ∷ 0 ∷ 66 ∷ 9 ∷ 82 ∷ 97 ∷ 9 ∷ 1 ∷ 0 ∷ 0 ∷ 0 ∷ 69 ∷ []; refusal = 11 }

-- refused 14: an infinite reading
unfoldable pub infinite_reading : Limit
infinite_reading = record { tape = 65 ∷ 2 ∷ 0 ∷ 66 ∷ 1 ∷ 86 ∷ 1 ∷ 0 ∷ 0 ∷ 0 ∷ 77 ∷ 0 ∷ 0 ∷ 128 ∷ 255 ∷ 69 ∷ []; refusal = 14 }

-- refused 15: the first number of kilometres past the range
unfoldable pub far_reading : Limit
far_reading = record { tape = 65 ∷ 2 ∷ 0 ∷ 66 ∷ 1 ∷ 86 ∷ 1 ∷ 0 ∷ 0 ∷ 0 ∷ 75 ∷ 173 ∷ 197 ∷ 167 ∷ 70 ∷ 69 ∷ []; refusal = 15 }

-- refused 14: an infinite reading, and one past the range after it
unfoldable pub infinite_before_far : Limit
infinite_before_far = record { tape = 65 ∷ 2 ∷ 0 ∷ 66 ∷ 1 ∷ 77 ∷ 0 ∷ 0 ∷ 128 ∷ 255 ∷ 75 ∷ 173 ∷ 197 ∷ 167 ∷ 70 ∷ 69 ∷ []; refusal = 14 }

-- refused 15: a reading past the range, and an infinite one after it
unfoldable pub far_before_infinite : Limit
far_before_infinite = record { tape = 65 ∷ 2 ∷ 0 ∷ 66 ∷ 1 ∷ 75 ∷ 173 ∷ 197 ∷ 167 ∷ 70 ∷ 77 ∷ 0 ∷ 0 ∷ 128 ∷ 255 ∷ 69 ∷ []; refusal = 15 }

-- refused 2: an infinite reading, and a 52 with count 0 after it
unfoldable pub form_before_reading : Limit
form_before_reading = record { tape = 65 ∷ 2 ∷ 0 ∷ 66 ∷ 1 ∷ 77 ∷ 0 ∷ 0 ∷ 128 ∷ 255 ∷ 82 ∷ 0 ∷ 0 ∷ 1 ∷ 0 ∷ 0 ∷ 0 ∷ 69 ∷ []; refusal = 2 }

-- refused 14: an infinite reading, and a length of 0
unfoldable pub reading_before_length : Limit
reading_before_length = record { tape = 65 ∷ 0 ∷ 0 ∷ 66 ∷ 1 ∷ 77 ∷ 0 ∷ 0 ∷ 128 ∷ 255 ∷ 69 ∷ []; refusal = 14 }

unfoldable pub limits : List Limit
unfolding most_points one_point_more most_cells one_cell_more most_shares one_cell_a_share_more longest_tape_lem one_byte_more most_shares_in_use in_use_past_the_limit infinite_reading far_reading infinite_before_far far_before_infinite form_before_reading reading_before_length
limits = most_points ∷ one_point_more ∷ most_cells ∷ one_cell_more ∷ most_shares ∷ one_cell_a_share_more ∷ longest_tape_lem ∷ one_byte_more ∷ most_shares_in_use ∷ in_use_past_the_limit ∷ infinite_reading ∷ far_reading ∷ infinite_before_far ∷ far_before_infinite ∷ form_before_reading ∷ reading_before_length ∷ []
