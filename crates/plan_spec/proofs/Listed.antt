-- Small plans with what pricing says of them: values moved, cells added up, A, and yes or no to "fewest cells added up". Written by
-- `compare table marks`, which says yes where no selection of parents for the choices adds up fewer, and does not look at neighbours.
use Prim.Native.Nat.{ℕ}
use mathlib.Core.Bool.{Bool, true, false}
use mathlib.Core.List.{List, [], ◌∷◌}
use Rattle.plan_spec.specs.Plans.{PlanLists}

pub record Row : Type 0 where
  pub plan : PlanLists
  pub moved : ℕ
  pub added : ℕ
  pub share : ℕ
  pub fewest : Bool

-- lengths, order, exponents and p
abbrev pub lists : List ℕ → List ℕ → List ℕ → ℕ → PlanLists
lists ds o ks p = record { lengths = ds; order = o; exponents = ks; p = p }

-- one axis, which has no neighbour
unfoldable pub one_axis : List Row
one_axis =
    record { plan = lists (1 ∷ []) (0 ∷ []) (0 ∷ []) 0; moved = 0; added = 1; share = 1; fewest = true }
    ∷ record { plan = lists (5 ∷ []) (0 ∷ []) (2 ∷ []) 2; moved = 3; added = 5; share = 1; fewest = true }
    ∷ []

-- two axes in every order: of unequal lengths, of equal ones, and one of length 1
unfoldable pub two_axes : List Row
two_axes =
    record { plan = lists (3 ∷ 2 ∷ []) (1 ∷ 0 ∷ []) (1 ∷ 1 ∷ []) 2; moved = 6; added = 15; share = 3; fewest = false }
    ∷ record { plan = lists (3 ∷ 2 ∷ []) (0 ∷ 1 ∷ []) (1 ∷ 1 ∷ []) 2; moved = 6; added = 14; share = 3; fewest = true }
    ∷ record { plan = lists (2 ∷ 2 ∷ []) (1 ∷ 0 ∷ []) (1 ∷ 0 ∷ []) 1; moved = 3; added = 10; share = 3; fewest = true }
    ∷ record { plan = lists (2 ∷ 2 ∷ []) (0 ∷ 1 ∷ []) (1 ∷ 0 ∷ []) 1; moved = 2; added = 10; share = 3; fewest = true }
    ∷ record { plan = lists (1 ∷ 4 ∷ []) (1 ∷ 0 ∷ []) (0 ∷ 2 ∷ []) 2; moved = 3; added = 9; share = 2; fewest = true }
    ∷ record { plan = lists (1 ∷ 4 ∷ []) (0 ∷ 1 ∷ []) (0 ∷ 2 ∷ []) 2; moved = 6; added = 12; share = 2; fewest = false }
    ∷ []

-- three axes in every order: two of them equal, and one of length 1
unfoldable pub three_axes : List Row
three_axes =
    record { plan = lists (2 ∷ 3 ∷ 2 ∷ []) (2 ∷ 1 ∷ 0 ∷ []) (1 ∷ 0 ∷ 1 ∷ []) 2; moved = 18; added = 54; share = 7; fewest = false }
    ∷ record { plan = lists (2 ∷ 3 ∷ 2 ∷ []) (1 ∷ 2 ∷ 0 ∷ []) (1 ∷ 0 ∷ 1 ∷ []) 2; moved = 20; added = 52; share = 7; fewest = true }
    ∷ record { plan = lists (2 ∷ 3 ∷ 2 ∷ []) (1 ∷ 0 ∷ 2 ∷ []) (1 ∷ 0 ∷ 1 ∷ []) 2; moved = 20; added = 52; share = 7; fewest = true }
    ∷ record { plan = lists (2 ∷ 3 ∷ 2 ∷ []) (2 ∷ 0 ∷ 1 ∷ []) (1 ∷ 0 ∷ 1 ∷ []) 2; moved = 15; added = 57; share = 7; fewest = false }
    ∷ record { plan = lists (2 ∷ 3 ∷ 2 ∷ []) (0 ∷ 2 ∷ 1 ∷ []) (1 ∷ 0 ∷ 1 ∷ []) 2; moved = 15; added = 57; share = 7; fewest = false }
    ∷ record { plan = lists (2 ∷ 3 ∷ 2 ∷ []) (0 ∷ 1 ∷ 2 ∷ []) (1 ∷ 0 ∷ 1 ∷ []) 2; moved = 18; added = 54; share = 7; fewest = false }
    ∷ record { plan = lists (1 ∷ 4 ∷ 3 ∷ []) (2 ∷ 1 ∷ 0 ∷ []) (0 ∷ 1 ∷ 1 ∷ []) 2; moved = 8; added = 48; share = 8; fewest = false }
    ∷ record { plan = lists (1 ∷ 4 ∷ 3 ∷ []) (1 ∷ 2 ∷ 0 ∷ []) (0 ∷ 1 ∷ 1 ∷ []) 2; moved = 8; added = 47; share = 8; fewest = true }
    ∷ record { plan = lists (1 ∷ 4 ∷ 3 ∷ []) (1 ∷ 0 ∷ 2 ∷ []) (0 ∷ 1 ∷ 1 ∷ []) 2; moved = 13; added = 57; share = 8; fewest = false }
    ∷ record { plan = lists (1 ∷ 4 ∷ 3 ∷ []) (2 ∷ 0 ∷ 1 ∷ []) (0 ∷ 1 ∷ 1 ∷ []) 2; moved = 12; added = 60; share = 8; fewest = false }
    ∷ record { plan = lists (1 ∷ 4 ∷ 3 ∷ []) (0 ∷ 2 ∷ 1 ∷ []) (0 ∷ 1 ∷ 1 ∷ []) 2; moved = 16; added = 68; share = 8; fewest = false }
    ∷ record { plan = lists (1 ∷ 4 ∷ 3 ∷ []) (0 ∷ 1 ∷ 2 ∷ []) (0 ∷ 1 ∷ 1 ∷ []) 2; moved = 16; added = 66; share = 8; fewest = false }
    ∷ []

-- four axes in every order: two of them equal, and one of length 1
unfoldable pub four_axes : List Row
four_axes =
    record { plan = lists (2 ∷ 1 ∷ 3 ∷ 2 ∷ []) (3 ∷ 2 ∷ 1 ∷ 0 ∷ []) (1 ∷ 0 ∷ 1 ∷ 0 ∷ []) 2; moved = 30; added = 102; share = 12; fewest = false }
    ∷ record { plan = lists (2 ∷ 1 ∷ 3 ∷ 2 ∷ []) (2 ∷ 3 ∷ 1 ∷ 0 ∷ []) (1 ∷ 0 ∷ 1 ∷ 0 ∷ []) 2; moved = 28; added = 100; share = 12; fewest = false }
    ∷ record { plan = lists (2 ∷ 1 ∷ 3 ∷ 2 ∷ []) (2 ∷ 1 ∷ 3 ∷ 0 ∷ []) (1 ∷ 0 ∷ 1 ∷ 0 ∷ []) 2; moved = 28; added = 108; share = 12; fewest = false }
    ∷ record { plan = lists (2 ∷ 1 ∷ 3 ∷ 2 ∷ []) (2 ∷ 1 ∷ 0 ∷ 3 ∷ []) (1 ∷ 0 ∷ 1 ∷ 0 ∷ []) 2; moved = 20; added = 108; share = 12; fewest = false }
    ∷ record { plan = lists (2 ∷ 1 ∷ 3 ∷ 2 ∷ []) (3 ∷ 1 ∷ 2 ∷ 0 ∷ []) (1 ∷ 0 ∷ 1 ∷ 0 ∷ []) 2; moved = 36; added = 114; share = 12; fewest = false }
    ∷ record { plan = lists (2 ∷ 1 ∷ 3 ∷ 2 ∷ []) (1 ∷ 3 ∷ 2 ∷ 0 ∷ []) (1 ∷ 0 ∷ 1 ∷ 0 ∷ []) 2; moved = 36; added = 120; share = 12; fewest = false }
    ∷ record { plan = lists (2 ∷ 1 ∷ 3 ∷ 2 ∷ []) (1 ∷ 2 ∷ 3 ∷ 0 ∷ []) (1 ∷ 0 ∷ 1 ∷ 0 ∷ []) 2; moved = 32; added = 116; share = 12; fewest = false }
    ∷ record { plan = lists (2 ∷ 1 ∷ 3 ∷ 2 ∷ []) (1 ∷ 2 ∷ 0 ∷ 3 ∷ []) (1 ∷ 0 ∷ 1 ∷ 0 ∷ []) 2; moved = 24; added = 116; share = 12; fewest = false }
    ∷ record { plan = lists (2 ∷ 1 ∷ 3 ∷ 2 ∷ []) (3 ∷ 1 ∷ 0 ∷ 2 ∷ []) (1 ∷ 0 ∷ 1 ∷ 0 ∷ []) 2; moved = 36; added = 120; share = 12; fewest = false }
    ∷ record { plan = lists (2 ∷ 1 ∷ 3 ∷ 2 ∷ []) (1 ∷ 3 ∷ 0 ∷ 2 ∷ []) (1 ∷ 0 ∷ 1 ∷ 0 ∷ []) 2; moved = 36; added = 126; share = 12; fewest = false }
    ∷ record { plan = lists (2 ∷ 1 ∷ 3 ∷ 2 ∷ []) (1 ∷ 0 ∷ 3 ∷ 2 ∷ []) (1 ∷ 0 ∷ 1 ∷ 0 ∷ []) 2; moved = 30; added = 126; share = 12; fewest = false }
    ∷ record { plan = lists (2 ∷ 1 ∷ 3 ∷ 2 ∷ []) (1 ∷ 0 ∷ 2 ∷ 3 ∷ []) (1 ∷ 0 ∷ 1 ∷ 0 ∷ []) 2; moved = 24; added = 120; share = 12; fewest = false }
    ∷ record { plan = lists (2 ∷ 1 ∷ 3 ∷ 2 ∷ []) (3 ∷ 2 ∷ 0 ∷ 1 ∷ []) (1 ∷ 0 ∷ 1 ∷ 0 ∷ []) 2; moved = 18; added = 90; share = 12; fewest = false }
    ∷ record { plan = lists (2 ∷ 1 ∷ 3 ∷ 2 ∷ []) (2 ∷ 3 ∷ 0 ∷ 1 ∷ []) (1 ∷ 0 ∷ 1 ∷ 0 ∷ []) 2; moved = 16; added = 88; share = 12; fewest = true }
    ∷ record { plan = lists (2 ∷ 1 ∷ 3 ∷ 2 ∷ []) (2 ∷ 0 ∷ 3 ∷ 1 ∷ []) (1 ∷ 0 ∷ 1 ∷ 0 ∷ []) 2; moved = 12; added = 88; share = 12; fewest = true }
    ∷ record { plan = lists (2 ∷ 1 ∷ 3 ∷ 2 ∷ []) (2 ∷ 0 ∷ 1 ∷ 3 ∷ []) (1 ∷ 0 ∷ 1 ∷ 0 ∷ []) 2; moved = 12; added = 100; share = 12; fewest = false }
    ∷ record { plan = lists (2 ∷ 1 ∷ 3 ∷ 2 ∷ []) (3 ∷ 0 ∷ 2 ∷ 1 ∷ []) (1 ∷ 0 ∷ 1 ∷ 0 ∷ []) 2; moved = 18; added = 93; share = 12; fewest = false }
    ∷ record { plan = lists (2 ∷ 1 ∷ 3 ∷ 2 ∷ []) (0 ∷ 3 ∷ 2 ∷ 1 ∷ []) (1 ∷ 0 ∷ 1 ∷ 0 ∷ []) 2; moved = 15; added = 93; share = 12; fewest = false }
    ∷ record { plan = lists (2 ∷ 1 ∷ 3 ∷ 2 ∷ []) (0 ∷ 2 ∷ 3 ∷ 1 ∷ []) (1 ∷ 0 ∷ 1 ∷ 0 ∷ []) 2; moved = 12; added = 90; share = 12; fewest = false }
    ∷ record { plan = lists (2 ∷ 1 ∷ 3 ∷ 2 ∷ []) (0 ∷ 2 ∷ 1 ∷ 3 ∷ []) (1 ∷ 0 ∷ 1 ∷ 0 ∷ []) 2; moved = 12; added = 102; share = 12; fewest = false }
    ∷ record { plan = lists (2 ∷ 1 ∷ 3 ∷ 2 ∷ []) (3 ∷ 0 ∷ 1 ∷ 2 ∷ []) (1 ∷ 0 ∷ 1 ∷ 0 ∷ []) 2; moved = 27; added = 111; share = 12; fewest = false }
    ∷ record { plan = lists (2 ∷ 1 ∷ 3 ∷ 2 ∷ []) (0 ∷ 3 ∷ 1 ∷ 2 ∷ []) (1 ∷ 0 ∷ 1 ∷ 0 ∷ []) 2; moved = 24; added = 111; share = 12; fewest = false }
    ∷ record { plan = lists (2 ∷ 1 ∷ 3 ∷ 2 ∷ []) (0 ∷ 1 ∷ 3 ∷ 2 ∷ []) (1 ∷ 0 ∷ 1 ∷ 0 ∷ []) 2; moved = 24; added = 120; share = 12; fewest = false }
    ∷ record { plan = lists (2 ∷ 1 ∷ 3 ∷ 2 ∷ []) (0 ∷ 1 ∷ 2 ∷ 3 ∷ []) (1 ∷ 0 ∷ 1 ∷ 0 ∷ []) 2; moved = 18; added = 114; share = 12; fewest = false }
    ∷ []

-- equal neighbours first, last, between and everywhere: lengths need not fall
unfoldable pub not_strictly : List Row
not_strictly =
    record { plan = lists (3 ∷ 3 ∷ 2 ∷ []) (0 ∷ 1 ∷ 2 ∷ []) (1 ∷ 0 ∷ 1 ∷ []) 2; moved = 22; added = 74; share = 11; fewest = true }
    ∷ record { plan = lists (4 ∷ 2 ∷ 2 ∷ []) (0 ∷ 1 ∷ 2 ∷ []) (2 ∷ 0 ∷ 0 ∷ []) 2; moved = 12; added = 66; share = 8; fewest = true }
    ∷ record { plan = lists (4 ∷ 3 ∷ 3 ∷ 1 ∷ []) (0 ∷ 1 ∷ 2 ∷ 3 ∷ []) (0 ∷ 1 ∷ 0 ∷ 0 ∷ []) 1; moved = 15; added = 221; share = 50; fewest = true }
    ∷ record { plan = lists (1 ∷ 1 ∷ 1 ∷ []) (0 ∷ 1 ∷ 2 ∷ []) (0 ∷ 0 ∷ 0 ∷ []) 0; moved = 0; added = 7; share = 3; fewest = true }
    ∷ []

-- lengths that rise by axis number, and not along the order; and the other way
unfoldable pub not_by_axis_number : List Row
not_by_axis_number =
    record { plan = lists (2 ∷ 3 ∷ 4 ∷ []) (2 ∷ 1 ∷ 0 ∷ []) (0 ∷ 1 ∷ 1 ∷ []) 2; moved = 16; added = 94; share = 12; fewest = true }
    ∷ record { plan = lists (4 ∷ 3 ∷ 2 ∷ []) (2 ∷ 1 ∷ 0 ∷ []) (0 ∷ 1 ∷ 1 ∷ []) 2; moved = 24; added = 108; share = 14; fewest = false }
    ∷ []

-- a rise after the first two axes, by one and by more
unfoldable pub not_the_first_two : List Row
not_the_first_two =
    record { plan = lists (4 ∷ 2 ∷ 3 ∷ []) (0 ∷ 1 ∷ 2 ∷ []) (1 ∷ 1 ∷ 0 ∷ []) 2; moved = 21; added = 99; share = 11; fewest = false }
    ∷ record { plan = lists (5 ∷ 4 ∷ 1 ∷ 3 ∷ []) (0 ∷ 1 ∷ 2 ∷ 3 ∷ []) (1 ∷ 0 ∷ 0 ∷ 1 ∷ []) 2; moved = 72; added = 402; share = 50; fewest = false }
    ∷ []

-- equal axes in another order than the planner's
unfoldable pub not_the_planners_alone : List Row
not_the_planners_alone =
    record { plan = lists (3 ∷ 3 ∷ []) (1 ∷ 0 ∷ []) (1 ∷ 0 ∷ []) 1; moved = 4; added = 21; share = 5; fewest = true }
    ∷ record { plan = lists (2 ∷ 5 ∷ 2 ∷ []) (1 ∷ 2 ∷ 0 ∷ []) (0 ∷ 2 ∷ 1 ∷ []) 3; moved = 24; added = 80; share = 8; fewest = true }
    ∷ record { plan = lists (2 ∷ 2 ∷ 2 ∷ 2 ∷ []) (3 ∷ 1 ∷ 2 ∷ 0 ∷ []) (1 ∷ 0 ∷ 1 ∷ 0 ∷ []) 2; moved = 45; added = 130; share = 12; fewest = true }
    ∷ []

-- portions that rise where lengths fall, and that fall where lengths rise
unfoldable pub not_by_portions : List Row
not_by_portions =
    record { plan = lists (5 ∷ 4 ∷ []) (0 ∷ 1 ∷ []) (2 ∷ 0 ∷ []) 2; moved = 12; added = 44; share = 6; fewest = true }
    ∷ record { plan = lists (4 ∷ 5 ∷ []) (0 ∷ 1 ∷ []) (0 ∷ 2 ∷ []) 2; moved = 15; added = 45; share = 6; fewest = false }
    ∷ []

-- eight axes: no rise, and one before each place but the first
unfoldable pub eight_axes : List Row
eight_axes =
    record { plan = lists (2 ∷ 1 ∷ 3 ∷ 2 ∷ 1 ∷ 3 ∷ 1 ∷ 2 ∷ []) (2 ∷ 5 ∷ 0 ∷ 3 ∷ 7 ∷ 1 ∷ 4 ∷ 6 ∷ []) (1 ∷ 0 ∷ 0 ∷ 0 ∷ 0 ∷ 1 ∷ 0 ∷ 1 ∷ []) 3; moved = 240; added = 3800; share = 76; fewest = true }
    ∷ record { plan = lists (2 ∷ 1 ∷ 3 ∷ 2 ∷ 1 ∷ 3 ∷ 1 ∷ 2 ∷ []) (6 ∷ 2 ∷ 5 ∷ 0 ∷ 3 ∷ 7 ∷ 1 ∷ 4 ∷ []) (1 ∷ 0 ∷ 0 ∷ 0 ∷ 0 ∷ 1 ∷ 0 ∷ 1 ∷ []) 3; moved = 480; added = 4216; share = 76; fewest = false }
    ∷ record { plan = lists (2 ∷ 1 ∷ 3 ∷ 2 ∷ 1 ∷ 3 ∷ 1 ∷ 2 ∷ []) (4 ∷ 6 ∷ 2 ∷ 5 ∷ 0 ∷ 3 ∷ 7 ∷ 1 ∷ []) (1 ∷ 0 ∷ 0 ∷ 0 ∷ 0 ∷ 1 ∷ 0 ∷ 1 ∷ []) 3; moved = 960; added = 5048; share = 76; fewest = false }
    ∷ record { plan = lists (2 ∷ 1 ∷ 3 ∷ 2 ∷ 1 ∷ 3 ∷ 1 ∷ 2 ∷ []) (1 ∷ 4 ∷ 6 ∷ 2 ∷ 5 ∷ 0 ∷ 3 ∷ 7 ∷ []) (1 ∷ 0 ∷ 0 ∷ 0 ∷ 0 ∷ 1 ∷ 0 ∷ 1 ∷ []) 3; moved = 1920; added = 6712; share = 76; fewest = false }
    ∷ record { plan = lists (2 ∷ 1 ∷ 3 ∷ 2 ∷ 1 ∷ 3 ∷ 1 ∷ 2 ∷ []) (7 ∷ 1 ∷ 4 ∷ 6 ∷ 2 ∷ 5 ∷ 0 ∷ 3 ∷ []) (1 ∷ 0 ∷ 0 ∷ 0 ∷ 0 ∷ 1 ∷ 0 ∷ 1 ∷ []) 3; moved = 1188; added = 6684; share = 76; fewest = false }
    ∷ record { plan = lists (2 ∷ 1 ∷ 3 ∷ 2 ∷ 1 ∷ 3 ∷ 1 ∷ 2 ∷ []) (3 ∷ 7 ∷ 1 ∷ 4 ∷ 6 ∷ 2 ∷ 5 ∷ 0 ∷ []) (1 ∷ 0 ∷ 0 ∷ 0 ∷ 0 ∷ 1 ∷ 0 ∷ 1 ∷ []) 3; moved = 1782; added = 6642; share = 76; fewest = false }
    ∷ record { plan = lists (2 ∷ 1 ∷ 3 ∷ 2 ∷ 1 ∷ 3 ∷ 1 ∷ 2 ∷ []) (0 ∷ 3 ∷ 7 ∷ 1 ∷ 4 ∷ 6 ∷ 2 ∷ 5 ∷ []) (1 ∷ 0 ∷ 0 ∷ 0 ∷ 0 ∷ 1 ∷ 0 ∷ 1 ∷ []) 3; moved = 981; added = 6579; share = 76; fewest = false }
    ∷ record { plan = lists (2 ∷ 1 ∷ 3 ∷ 2 ∷ 1 ∷ 3 ∷ 1 ∷ 2 ∷ []) (5 ∷ 0 ∷ 3 ∷ 7 ∷ 1 ∷ 4 ∷ 6 ∷ 2 ∷ []) (1 ∷ 0 ∷ 0 ∷ 0 ∷ 0 ∷ 1 ∷ 0 ∷ 1 ∷ []) 3; moved = 180; added = 5388; share = 76; fewest = false }
    ∷ []

-- an order that never rises, on 1, 4 and 32 boards in every division
unfoldable pub divided_falling : List Row
divided_falling =
    record { plan = lists (4 ∷ 5 ∷ 3 ∷ []) (1 ∷ 0 ∷ 2 ∷ []) (0 ∷ 0 ∷ 0 ∷ []) 0; moved = 0; added = 222; share = 47; fewest = true }
    ∷ record { plan = lists (4 ∷ 5 ∷ 3 ∷ []) (1 ∷ 0 ∷ 2 ∷ []) (0 ∷ 1 ∷ 1 ∷ []) 2; moved = 42; added = 222; share = 26; fewest = true }
    ∷ record { plan = lists (4 ∷ 5 ∷ 3 ∷ []) (1 ∷ 0 ∷ 2 ∷ []) (0 ∷ 2 ∷ 0 ∷ []) 2; moved = 36; added = 222; share = 26; fewest = true }
    ∷ record { plan = lists (4 ∷ 5 ∷ 3 ∷ []) (1 ∷ 0 ∷ 2 ∷ []) (1 ∷ 0 ∷ 1 ∷ []) 2; moved = 48; added = 222; share = 24; fewest = true }
    ∷ record { plan = lists (4 ∷ 5 ∷ 3 ∷ []) (1 ∷ 0 ∷ 2 ∷ []) (1 ∷ 1 ∷ 0 ∷ []) 2; moved = 30; added = 222; share = 21; fewest = true }
    ∷ record { plan = lists (4 ∷ 5 ∷ 3 ∷ []) (1 ∷ 0 ∷ 2 ∷ []) (2 ∷ 0 ∷ 0 ∷ []) 2; moved = 54; added = 222; share = 23; fewest = true }
    ∷ record { plan = lists (4 ∷ 5 ∷ 3 ∷ []) (1 ∷ 0 ∷ 2 ∷ []) (2 ∷ 2 ∷ 1 ∷ []) 5; moved = 120; added = 222; share = 8; fewest = true }
    ∷ []

-- an order that rises, on the same boards
unfoldable pub divided_rising : List Row
divided_rising =
    record { plan = lists (4 ∷ 5 ∷ 3 ∷ []) (1 ∷ 2 ∷ 0 ∷ []) (0 ∷ 0 ∷ 0 ∷ []) 0; moved = 0; added = 228; share = 47; fewest = false }
    ∷ record { plan = lists (4 ∷ 5 ∷ 3 ∷ []) (1 ∷ 2 ∷ 0 ∷ []) (0 ∷ 1 ∷ 1 ∷ []) 2; moved = 36; added = 228; share = 26; fewest = false }
    ∷ record { plan = lists (4 ∷ 5 ∷ 3 ∷ []) (1 ∷ 2 ∷ 0 ∷ []) (0 ∷ 2 ∷ 0 ∷ []) 2; moved = 36; added = 228; share = 26; fewest = false }
    ∷ record { plan = lists (4 ∷ 5 ∷ 3 ∷ []) (1 ∷ 2 ∷ 0 ∷ []) (1 ∷ 0 ∷ 1 ∷ []) 2; moved = 48; added = 228; share = 24; fewest = false }
    ∷ record { plan = lists (4 ∷ 5 ∷ 3 ∷ []) (1 ∷ 2 ∷ 0 ∷ []) (1 ∷ 1 ∷ 0 ∷ []) 2; moved = 36; added = 228; share = 21; fewest = false }
    ∷ record { plan = lists (4 ∷ 5 ∷ 3 ∷ []) (1 ∷ 2 ∷ 0 ∷ []) (2 ∷ 0 ∷ 0 ∷ []) 2; moved = 72; added = 228; share = 23; fewest = false }
    ∷ record { plan = lists (4 ∷ 5 ∷ 3 ∷ []) (1 ∷ 2 ∷ 0 ∷ []) (2 ∷ 2 ∷ 1 ∷ []) 5; moved = 132; added = 228; share = 8; fewest = false }
    ∷ []
