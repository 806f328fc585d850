-- The paper's limits, each in one place.
use Rattle.std.specs.Prelude.{ℕ, List, ◌++◌, take, replicate}

-- "A campaign has 1 to 8 axes, .. each 1 to 65,535 long, with at most 16,777,216 points."
abbrev pub axis_limit : ℕ
axis_limit = 8

abbrev pub length_limit : ℕ
length_limit = 65535

abbrev pub point_limit : ℕ
point_limit = 16777216

-- "p (0 to 10)"
abbrev pub power_limit : ℕ
power_limit = 10

-- "The tape is over 65,536 bytes."
abbrev pub tape_limit : ℕ
tape_limit = 65536

-- "in the program either count passes 8,192"
abbrev pub program_limit : ℕ
program_limit = 8192

-- "Array slots past the last axis are zero.": the machine's arrays have a slot for each axis that there may be
unfoldable pub padded : List ℕ → List ℕ
padded l = take axis_limit (l ++ replicate axis_limit 0)
