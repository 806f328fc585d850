-- Small searches over links that cost unequally, with what each answers: the refusal, which is 0 for one that is taken, and then the
-- exponents in axis order, the cost, the distance and how many divisions were priced. Written by `compare table links`, which lists the
-- divisions, sorts them, and prices each by a sum over every choice.
use Prim.Native.Nat.{ℕ}
use mathlib.Core.List.{List, [], ◌∷◌}

pub record Row : Type 0 where
  pub lengths : List ℕ
  pub p : ℕ
  pub links : List ℕ
  pub budget : ℕ
  pub refusal : ℕ
  pub exponents : List ℕ
  pub cost : ℕ
  pub distance : ℕ
  pub priced : ℕ

-- one axis, which has one division for any number of boards
unfoldable pub one_axis : List Row
one_axis =
    record { lengths = 5 ∷ []; p = 2; links = 7 ∷ []; budget = 1; refusal = 0; exponents = 2 ∷ []; cost = 21; distance = 0; priced = 1 }
    ∷ record { lengths = 5 ∷ []; p = 2; links = 7 ∷ []; budget = 2; refusal = 0; exponents = 2 ∷ []; cost = 21; distance = 0; priced = 1 }
    ∷ record { lengths = 1 ∷ []; p = 0; links = 1000 ∷ []; budget = 1; refusal = 0; exponents = 0 ∷ []; cost = 0; distance = 0; priced = 1 }
    ∷ record { lengths = 1 ∷ []; p = 0; links = 1000 ∷ []; budget = 2; refusal = 0; exponents = 0 ∷ []; cost = 0; distance = 0; priced = 1 }
    ∷ []

-- two axes with every budget up to one more than there are divisions
unfoldable pub two_axes : List Row
two_axes =
    record { lengths = 4 ∷ 9 ∷ []; p = 3; links = 1 ∷ 5 ∷ []; budget = 1; refusal = 0; exponents = 0 ∷ 3 ∷ []; cost = 140; distance = 118; priced = 1 }
    ∷ record { lengths = 4 ∷ 9 ∷ []; p = 3; links = 1 ∷ 5 ∷ []; budget = 2; refusal = 0; exponents = 1 ∷ 2 ∷ []; cost = 70; distance = 48; priced = 2 }
    ∷ record { lengths = 4 ∷ 9 ∷ []; p = 3; links = 1 ∷ 5 ∷ []; budget = 3; refusal = 0; exponents = 2 ∷ 1 ∷ []; cost = 50; distance = 0; priced = 3 }
    ∷ record { lengths = 4 ∷ 9 ∷ []; p = 3; links = 1 ∷ 5 ∷ []; budget = 4; refusal = 0; exponents = 2 ∷ 1 ∷ []; cost = 50; distance = 0; priced = 3 }
    ∷ record { lengths = 5 ∷ 4 ∷ []; p = 2; links = 9 ∷ 2 ∷ []; budget = 1; refusal = 0; exponents = 0 ∷ 2 ∷ []; cost = 30; distance = 10; priced = 1 }
    ∷ record { lengths = 5 ∷ 4 ∷ []; p = 2; links = 9 ∷ 2 ∷ []; budget = 2; refusal = 0; exponents = 0 ∷ 2 ∷ []; cost = 30; distance = 10; priced = 2 }
    ∷ record { lengths = 5 ∷ 4 ∷ []; p = 2; links = 9 ∷ 2 ∷ []; budget = 3; refusal = 0; exponents = 0 ∷ 2 ∷ []; cost = 30; distance = 0; priced = 3 }
    ∷ record { lengths = 5 ∷ 4 ∷ []; p = 2; links = 9 ∷ 2 ∷ []; budget = 4; refusal = 0; exponents = 0 ∷ 2 ∷ []; cost = 30; distance = 0; priced = 3 }
    ∷ []

-- three axes with every such budget: the answer changes with most divisions
unfoldable pub three_axes : List Row
three_axes =
    record { lengths = 4 ∷ 5 ∷ 3 ∷ []; p = 3; links = 2 ∷ 7 ∷ 30 ∷ []; budget = 1; refusal = 0; exponents = 0 ∷ 2 ∷ 1 ∷ []; cost = 936; distance = 828; priced = 1 }
    ∷ record { lengths = 4 ∷ 5 ∷ 3 ∷ []; p = 3; links = 2 ∷ 7 ∷ 30 ∷ []; budget = 2; refusal = 0; exponents = 1 ∷ 1 ∷ 1 ∷ []; cost = 760; distance = 652; priced = 2 }
    ∷ record { lengths = 4 ∷ 5 ∷ 3 ∷ []; p = 3; links = 2 ∷ 7 ∷ 30 ∷ []; budget = 3; refusal = 0; exponents = 1 ∷ 2 ∷ 0 ∷ []; cost = 288; distance = 180; priced = 3 }
    ∷ record { lengths = 4 ∷ 5 ∷ 3 ∷ []; p = 3; links = 2 ∷ 7 ∷ 30 ∷ []; budget = 4; refusal = 0; exponents = 1 ∷ 2 ∷ 0 ∷ []; cost = 288; distance = 180; priced = 4 }
    ∷ record { lengths = 4 ∷ 5 ∷ 3 ∷ []; p = 3; links = 2 ∷ 7 ∷ 30 ∷ []; budget = 5; refusal = 0; exponents = 2 ∷ 1 ∷ 0 ∷ []; cost = 192; distance = 0; priced = 5 }
    ∷ record { lengths = 4 ∷ 5 ∷ 3 ∷ []; p = 3; links = 2 ∷ 7 ∷ 30 ∷ []; budget = 6; refusal = 0; exponents = 2 ∷ 1 ∷ 0 ∷ []; cost = 192; distance = 0; priced = 5 }
    ∷ []

-- four axes with every such budget: the planner's division is dear
unfoldable pub four_axes : List Row
four_axes =
    record { lengths = 2 ∷ 3 ∷ 4 ∷ 2 ∷ []; p = 3; links = 3 ∷ 9 ∷ 40 ∷ 5 ∷ []; budget = 1; refusal = 0; exponents = 0 ∷ 0 ∷ 2 ∷ 1 ∷ []; cost = 1590; distance = 1422; priced = 1 }
    ∷ record { lengths = 2 ∷ 3 ∷ 4 ∷ 2 ∷ []; p = 3; links = 3 ∷ 9 ∷ 40 ∷ 5 ∷ []; budget = 2; refusal = 0; exponents = 0 ∷ 1 ∷ 1 ∷ 1 ∷ []; cost = 860; distance = 692; priced = 2 }
    ∷ record { lengths = 2 ∷ 3 ∷ 4 ∷ 2 ∷ []; p = 3; links = 3 ∷ 9 ∷ 40 ∷ 5 ∷ []; budget = 3; refusal = 0; exponents = 0 ∷ 1 ∷ 1 ∷ 1 ∷ []; cost = 860; distance = 692; priced = 3 }
    ∷ record { lengths = 2 ∷ 3 ∷ 4 ∷ 2 ∷ []; p = 3; links = 3 ∷ 9 ∷ 40 ∷ 5 ∷ []; budget = 4; refusal = 0; exponents = 1 ∷ 0 ∷ 1 ∷ 1 ∷ []; cost = 765; distance = 597; priced = 4 }
    ∷ record { lengths = 2 ∷ 3 ∷ 4 ∷ 2 ∷ []; p = 3; links = 3 ∷ 9 ∷ 40 ∷ 5 ∷ []; budget = 5; refusal = 0; exponents = 1 ∷ 0 ∷ 1 ∷ 1 ∷ []; cost = 765; distance = 597; priced = 5 }
    ∷ record { lengths = 2 ∷ 3 ∷ 4 ∷ 2 ∷ []; p = 3; links = 3 ∷ 9 ∷ 40 ∷ 5 ∷ []; budget = 6; refusal = 0; exponents = 1 ∷ 1 ∷ 0 ∷ 1 ∷ []; cost = 448; distance = 280; priced = 6 }
    ∷ record { lengths = 2 ∷ 3 ∷ 4 ∷ 2 ∷ []; p = 3; links = 3 ∷ 9 ∷ 40 ∷ 5 ∷ []; budget = 7; refusal = 0; exponents = 1 ∷ 1 ∷ 0 ∷ 1 ∷ []; cost = 448; distance = 0; priced = 7 }
    ∷ record { lengths = 2 ∷ 3 ∷ 4 ∷ 2 ∷ []; p = 3; links = 3 ∷ 9 ∷ 40 ∷ 5 ∷ []; budget = 8; refusal = 0; exponents = 1 ∷ 1 ∷ 0 ∷ 1 ∷ []; cost = 448; distance = 0; priced = 7 }
    ∷ []

-- budgets past 2^32, and the largest in 64 bits
unfoldable pub large_budgets : List Row
large_budgets =
    record { lengths = 4 ∷ 5 ∷ []; p = 2; links = 3 ∷ 2 ∷ []; budget = 4294967296; refusal = 0; exponents = 0 ∷ 2 ∷ []; cost = 24; distance = 0; priced = 3 }
    ∷ record { lengths = 4 ∷ 5 ∷ []; p = 2; links = 3 ∷ 2 ∷ []; budget = 4294967297; refusal = 0; exponents = 0 ∷ 2 ∷ []; cost = 24; distance = 0; priced = 3 }
    ∷ record { lengths = 4 ∷ 5 ∷ []; p = 2; links = 3 ∷ 2 ∷ []; budget = 18446744073709551615; refusal = 0; exponents = 0 ∷ 2 ∷ []; cost = 24; distance = 0; priced = 3 }
    ∷ []

-- more boards than the axes can be divided for, and as many
unfoldable pub boards_idle : List Row
boards_idle =
    record { lengths = 3 ∷ 2 ∷ []; p = 3; links = 4 ∷ 9 ∷ []; budget = 99; refusal = 0; exponents = 1 ∷ 1 ∷ []; cost = 39; distance = 0; priced = 1 }
    ∷ record { lengths = 3 ∷ 2 ∷ []; p = 2; links = 4 ∷ 9 ∷ []; budget = 99; refusal = 0; exponents = 1 ∷ 1 ∷ []; cost = 39; distance = 0; priced = 1 }
    ∷ record { lengths = 2 ∷ 5 ∷ 1 ∷ []; p = 10; links = 6 ∷ 1 ∷ 1 ∷ []; budget = 1; refusal = 0; exponents = 1 ∷ 2 ∷ 0 ∷ []; cost = 39; distance = 0; priced = 1 }
    ∷ record { lengths = 1 ∷ 1 ∷ []; p = 5; links = 2 ∷ 3 ∷ []; budget = 99; refusal = 0; exponents = 0 ∷ 0 ∷ []; cost = 0; distance = 0; priced = 1 }
    ∷ []

-- axes cut in as many portions as they have points, and one point shorter
unfoldable pub whole_portions : List Row
whole_portions =
    record { lengths = 4 ∷ 8 ∷ []; p = 3; links = 1 ∷ 50 ∷ []; budget = 99; refusal = 0; exponents = 2 ∷ 1 ∷ []; cost = 227; distance = 0; priced = 3 }
    ∷ record { lengths = 3 ∷ 8 ∷ []; p = 3; links = 1 ∷ 50 ∷ []; budget = 99; refusal = 0; exponents = 1 ∷ 2 ∷ []; cost = 459; distance = 0; priced = 2 }
    ∷ record { lengths = 4 ∷ 7 ∷ []; p = 3; links = 50 ∷ 1 ∷ []; budget = 99; refusal = 0; exponents = 1 ∷ 2 ∷ []; cost = 365; distance = 0; priced = 2 }
    ∷ []

-- the longest axis last or in the middle: nothing is in the planner's order
unfoldable pub axis_order : List Row
axis_order =
    record { lengths = 2 ∷ 4 ∷ 9 ∷ []; p = 3; links = 30 ∷ 9 ∷ 1 ∷ []; budget = 99; refusal = 0; exponents = 0 ∷ 0 ∷ 3 ∷ []; cost = 56; distance = 0; priced = 6 }
    ∷ record { lengths = 3 ∷ 9 ∷ 2 ∷ []; p = 3; links = 1 ∷ 2 ∷ 3 ∷ []; budget = 99; refusal = 0; exponents = 1 ∷ 2 ∷ 0 ∷ []; cost = 56; distance = 0; priced = 4 }
    ∷ record { lengths = 2 ∷ 5 ∷ 4 ∷ []; p = 3; links = 8 ∷ 1 ∷ 2 ∷ []; budget = 3; refusal = 0; exponents = 0 ∷ 2 ∷ 1 ∷ []; cost = 48; distance = 12; priced = 3 }
    ∷ record { lengths = 3 ∷ 4 ∷ 3 ∷ 6 ∷ []; p = 2; links = 1 ∷ 9 ∷ 5 ∷ 7 ∷ []; budget = 99; refusal = 0; exponents = 1 ∷ 0 ∷ 0 ∷ 1 ∷ []; cost = 336; distance = 0; priced = 8 }
    ∷ []

-- one division each: the cheapest axis first, in the middle, last, and undivided
unfoldable pub cheapest_parents : List Row
cheapest_parents =
    record { lengths = 4 ∷ 2 ∷ 2 ∷ []; p = 4; links = 1 ∷ 8 ∷ 9 ∷ []; budget = 99; refusal = 0; exponents = 2 ∷ 1 ∷ 1 ∷ []; cost = 195; distance = 0; priced = 1 }
    ∷ record { lengths = 2 ∷ 4 ∷ 2 ∷ []; p = 4; links = 8 ∷ 1 ∷ 9 ∷ []; budget = 99; refusal = 0; exponents = 1 ∷ 2 ∷ 1 ∷ []; cost = 195; distance = 0; priced = 1 }
    ∷ record { lengths = 2 ∷ 2 ∷ 4 ∷ []; p = 4; links = 8 ∷ 9 ∷ 1 ∷ []; budget = 99; refusal = 0; exponents = 1 ∷ 1 ∷ 2 ∷ []; cost = 195; distance = 0; priced = 1 }
    ∷ record { lengths = 3 ∷ 1 ∷ 3 ∷ []; p = 2; links = 5 ∷ 1 ∷ 4 ∷ []; budget = 99; refusal = 0; exponents = 1 ∷ 0 ∷ 1 ∷ []; cost = 31; distance = 0; priced = 1 }
    ∷ []

-- the same axes with the dear link first, in the middle and last
unfoldable pub unequal_links : List Row
unequal_links =
    record { lengths = 4 ∷ 4 ∷ 4 ∷ []; p = 3; links = 50 ∷ 3 ∷ 2 ∷ []; budget = 99; refusal = 0; exponents = 0 ∷ 1 ∷ 2 ∷ []; cost = 156; distance = 0; priced = 7 }
    ∷ record { lengths = 4 ∷ 4 ∷ 4 ∷ []; p = 3; links = 3 ∷ 50 ∷ 2 ∷ []; budget = 99; refusal = 0; exponents = 1 ∷ 0 ∷ 2 ∷ []; cost = 156; distance = 0; priced = 7 }
    ∷ record { lengths = 4 ∷ 4 ∷ 4 ∷ []; p = 3; links = 2 ∷ 3 ∷ 50 ∷ []; budget = 99; refusal = 0; exponents = 2 ∷ 1 ∷ 0 ∷ []; cost = 156; distance = 0; priced = 7 }
    ∷ []

-- equal links: the planner's values moved times the link, and the planner's division or one that costs the same
unfoldable pub equal_links : List Row
equal_links =
    record { lengths = 9 ∷ 5 ∷ 3 ∷ []; p = 4; links = 1 ∷ 1 ∷ 1 ∷ []; budget = 99; refusal = 0; exponents = 2 ∷ 1 ∷ 1 ∷ []; cost = 135; distance = 0; priced = 5 }
    ∷ record { lengths = 9 ∷ 5 ∷ 3 ∷ []; p = 4; links = 7 ∷ 7 ∷ 7 ∷ []; budget = 99; refusal = 0; exponents = 2 ∷ 1 ∷ 1 ∷ []; cost = 945; distance = 0; priced = 5 }
    ∷ record { lengths = 3 ∷ 5 ∷ 9 ∷ []; p = 4; links = 1000 ∷ 1000 ∷ 1000 ∷ []; budget = 99; refusal = 0; exponents = 0 ∷ 1 ∷ 3 ∷ []; cost = 135000; distance = 0; priced = 5 }
    ∷ []

-- divisions that cost the same: the first of them is the answer, whenever it is reached
unfoldable pub ties : List Row
ties =
    record { lengths = 4 ∷ 4 ∷ []; p = 1; links = 3 ∷ 3 ∷ []; budget = 1; refusal = 0; exponents = 0 ∷ 1 ∷ []; cost = 12; distance = 0; priced = 1 }
    ∷ record { lengths = 4 ∷ 4 ∷ []; p = 1; links = 3 ∷ 3 ∷ []; budget = 2; refusal = 0; exponents = 0 ∷ 1 ∷ []; cost = 12; distance = 0; priced = 2 }
    ∷ record { lengths = 4 ∷ 4 ∷ []; p = 1; links = 3 ∷ 3 ∷ []; budget = 3; refusal = 0; exponents = 0 ∷ 1 ∷ []; cost = 12; distance = 0; priced = 2 }
    ∷ record { lengths = 2 ∷ 2 ∷ 3 ∷ []; p = 1; links = 6 ∷ 6 ∷ 40 ∷ []; budget = 1; refusal = 0; exponents = 0 ∷ 0 ∷ 1 ∷ []; cost = 160; distance = 136; priced = 1 }
    ∷ record { lengths = 2 ∷ 2 ∷ 3 ∷ []; p = 1; links = 6 ∷ 6 ∷ 40 ∷ []; budget = 2; refusal = 0; exponents = 0 ∷ 1 ∷ 0 ∷ []; cost = 36; distance = 12; priced = 2 }
    ∷ record { lengths = 2 ∷ 2 ∷ 3 ∷ []; p = 1; links = 6 ∷ 6 ∷ 40 ∷ []; budget = 3; refusal = 0; exponents = 0 ∷ 1 ∷ 0 ∷ []; cost = 36; distance = 0; priced = 3 }
    ∷ record { lengths = 2 ∷ 2 ∷ 3 ∷ []; p = 1; links = 6 ∷ 6 ∷ 40 ∷ []; budget = 4; refusal = 0; exponents = 0 ∷ 1 ∷ 0 ∷ []; cost = 36; distance = 0; priced = 3 }
    ∷ record { lengths = 2 ∷ 2 ∷ 2 ∷ []; p = 2; links = 5 ∷ 5 ∷ 5 ∷ []; budget = 99; refusal = 0; exponents = 0 ∷ 1 ∷ 1 ∷ []; cost = 50; distance = 0; priced = 3 }
    ∷ []

-- some divisions of several, with the smallest link first, in the middle and last
unfoldable pub distances : List Row
distances =
    record { lengths = 4 ∷ 5 ∷ 6 ∷ []; p = 4; links = 2 ∷ 5 ∷ 11 ∷ []; budget = 2; refusal = 0; exponents = 1 ∷ 1 ∷ 2 ∷ []; cost = 884; distance = 624; priced = 2 }
    ∷ record { lengths = 4 ∷ 5 ∷ 6 ∷ []; p = 4; links = 5 ∷ 2 ∷ 11 ∷ []; budget = 2; refusal = 0; exponents = 0 ∷ 2 ∷ 2 ∷ []; cost = 828; distance = 568; priced = 2 }
    ∷ record { lengths = 4 ∷ 5 ∷ 6 ∷ []; p = 4; links = 11 ∷ 5 ∷ 2 ∷ []; budget = 2; refusal = 0; exponents = 0 ∷ 2 ∷ 2 ∷ []; cost = 504; distance = 244; priced = 2 }
    ∷ record { lengths = 6 ∷ 4 ∷ 3 ∷ []; p = 2; links = 1000 ∷ 999 ∷ 998 ∷ []; budget = 1; refusal = 0; exponents = 0 ∷ 1 ∷ 1 ∷ []; cost = 47922; distance = 14988; priced = 1 }
    ∷ []

-- five to eight axes, with few boards and with almost all that there can be
unfoldable pub many_axes : List Row
many_axes =
    record { lengths = 2 ∷ 1 ∷ 3 ∷ 2 ∷ 4 ∷ []; p = 3; links = 9 ∷ 1 ∷ 4 ∷ 16 ∷ 25 ∷ []; budget = 4; refusal = 0; exponents = 0 ∷ 0 ∷ 1 ∷ 1 ∷ 1 ∷ []; cost = 900; distance = 844; priced = 4 }
    ∷ record { lengths = 2 ∷ 1 ∷ 3 ∷ 2 ∷ 4 ∷ []; p = 4; links = 9 ∷ 1 ∷ 4 ∷ 16 ∷ 25 ∷ []; budget = 99; refusal = 0; exponents = 1 ∷ 0 ∷ 1 ∷ 0 ∷ 2 ∷ []; cost = 1290; distance = 0; priced = 4 }
    ∷ record { lengths = 2 ∷ 2 ∷ 1 ∷ 3 ∷ 2 ∷ 1 ∷ []; p = 1; links = 6 ∷ 5 ∷ 4 ∷ 3 ∷ 2 ∷ 1 ∷ []; budget = 99; refusal = 0; exponents = 0 ∷ 0 ∷ 0 ∷ 0 ∷ 1 ∷ 0 ∷ []; cost = 24; distance = 0; priced = 4 }
    ∷ record { lengths = 1 ∷ 2 ∷ 1 ∷ 2 ∷ 1 ∷ 2 ∷ 1 ∷ []; p = 2; links = 7 ∷ 6 ∷ 5 ∷ 4 ∷ 3 ∷ 2 ∷ 1 ∷ []; budget = 2; refusal = 0; exponents = 0 ∷ 0 ∷ 0 ∷ 1 ∷ 0 ∷ 1 ∷ 0 ∷ []; cost = 28; distance = 18; priced = 2 }
    ∷ record { lengths = 2 ∷ 1 ∷ 3 ∷ 2 ∷ 1 ∷ 3 ∷ 1 ∷ 2 ∷ []; p = 1; links = 8 ∷ 1 ∷ 7 ∷ 2 ∷ 6 ∷ 3 ∷ 5 ∷ 4 ∷ []; budget = 3; refusal = 0; exponents = 0 ∷ 0 ∷ 0 ∷ 0 ∷ 0 ∷ 1 ∷ 0 ∷ 0 ∷ []; cost = 72; distance = 48; priced = 3 }
    ∷ record { lengths = 2 ∷ 1 ∷ 3 ∷ 2 ∷ 1 ∷ 3 ∷ 1 ∷ 2 ∷ []; p = 9; links = 8 ∷ 1 ∷ 7 ∷ 2 ∷ 6 ∷ 3 ∷ 5 ∷ 4 ∷ []; budget = 1; refusal = 0; exponents = 1 ∷ 0 ∷ 1 ∷ 1 ∷ 0 ∷ 1 ∷ 0 ∷ 1 ∷ []; cost = 1332; distance = 0; priced = 1 }
    ∷ record { lengths = 1 ∷ 1 ∷ 1 ∷ 1 ∷ 1 ∷ 1 ∷ 1 ∷ 4 ∷ []; p = 2; links = 1 ∷ 2 ∷ 3 ∷ 4 ∷ 5 ∷ 6 ∷ 7 ∷ 8 ∷ []; budget = 1; refusal = 0; exponents = 0 ∷ 0 ∷ 0 ∷ 0 ∷ 0 ∷ 0 ∷ 0 ∷ 2 ∷ []; cost = 24; distance = 0; priced = 1 }
    ∷ []

-- taken at the limits: eight axes, the longest axis, the most points, p 10, one division, links of 1 and of 1,000
unfoldable pub taken : List Row
taken =
    record { lengths = 1 ∷ 1 ∷ 1 ∷ 1 ∷ 1 ∷ 1 ∷ 1 ∷ 1 ∷ []; p = 0; links = 1 ∷ 1 ∷ 1 ∷ 1 ∷ 1 ∷ 1 ∷ 1 ∷ 1 ∷ []; budget = 1; refusal = 0; exponents = 0 ∷ 0 ∷ 0 ∷ 0 ∷ 0 ∷ 0 ∷ 0 ∷ 0 ∷ []; cost = 0; distance = 0; priced = 1 }
    ∷ record { lengths = 65535 ∷ []; p = 2; links = 1 ∷ []; budget = 1; refusal = 0; exponents = 2 ∷ []; cost = 3; distance = 0; priced = 1 }
    ∷ record { lengths = 4096 ∷ 4096 ∷ []; p = 1; links = 1 ∷ 1 ∷ []; budget = 1; refusal = 0; exponents = 0 ∷ 1 ∷ []; cost = 4096; distance = 0; priced = 1 }
    ∷ record { lengths = 2 ∷ 2 ∷ []; p = 10; links = 3 ∷ 4 ∷ []; budget = 1; refusal = 0; exponents = 1 ∷ 1 ∷ []; cost = 17; distance = 0; priced = 1 }
    ∷ record { lengths = 4 ∷ 3 ∷ []; p = 2; links = 1 ∷ 1000 ∷ []; budget = 1; refusal = 0; exponents = 1 ∷ 1 ∷ []; cost = 4004; distance = 3996; priced = 1 }
    ∷ record { lengths = 4 ∷ 3 ∷ []; p = 2; links = 1000 ∷ 1 ∷ []; budget = 2; refusal = 0; exponents = 1 ∷ 1 ∷ []; cost = 3005; distance = 0; priced = 2 }
    ∷ []

-- refused for one thing alone: 3, 4, 5, 6, 18, and 19 for a link or for the number of links
unfoldable pub refused : List Row
refused =
    record { lengths = []; p = 0; links = []; budget = 1; refusal = 3; exponents = []; cost = 0; distance = 0; priced = 0 }
    ∷ record { lengths = 1 ∷ 1 ∷ 1 ∷ 1 ∷ 1 ∷ 1 ∷ 1 ∷ 1 ∷ 1 ∷ []; p = 0; links = 1 ∷ 1 ∷ 1 ∷ 1 ∷ 1 ∷ 1 ∷ 1 ∷ 1 ∷ 1 ∷ []; budget = 1; refusal = 3; exponents = []; cost = 0; distance = 0; priced = 0 }
    ∷ record { lengths = 2 ∷ 0 ∷ []; p = 0; links = 1 ∷ 1 ∷ []; budget = 1; refusal = 4; exponents = []; cost = 0; distance = 0; priced = 0 }
    ∷ record { lengths = 65536 ∷ []; p = 0; links = 1 ∷ []; budget = 1; refusal = 4; exponents = []; cost = 0; distance = 0; priced = 0 }
    ∷ record { lengths = 4096 ∷ 4097 ∷ []; p = 1; links = 1 ∷ 1 ∷ []; budget = 1; refusal = 5; exponents = []; cost = 0; distance = 0; priced = 0 }
    ∷ record { lengths = 4096 ∷ []; p = 11; links = 1 ∷ []; budget = 1; refusal = 6; exponents = []; cost = 0; distance = 0; priced = 0 }
    ∷ record { lengths = 4 ∷ 3 ∷ []; p = 2; links = 1 ∷ 1 ∷ []; budget = 0; refusal = 18; exponents = []; cost = 0; distance = 0; priced = 0 }
    ∷ record { lengths = 4 ∷ 3 ∷ []; p = 2; links = 0 ∷ 1 ∷ []; budget = 1; refusal = 19; exponents = []; cost = 0; distance = 0; priced = 0 }
    ∷ record { lengths = 4 ∷ 3 ∷ []; p = 2; links = 1 ∷ 0 ∷ []; budget = 1; refusal = 19; exponents = []; cost = 0; distance = 0; priced = 0 }
    ∷ record { lengths = 4 ∷ 3 ∷ []; p = 2; links = 1001 ∷ 1 ∷ []; budget = 1; refusal = 19; exponents = []; cost = 0; distance = 0; priced = 0 }
    ∷ record { lengths = 4 ∷ 3 ∷ []; p = 2; links = 1 ∷ 4294967295 ∷ []; budget = 1; refusal = 19; exponents = []; cost = 0; distance = 0; priced = 0 }
    ∷ record { lengths = 4 ∷ 3 ∷ []; p = 2; links = []; budget = 1; refusal = 19; exponents = []; cost = 0; distance = 0; priced = 0 }
    ∷ record { lengths = 4 ∷ 3 ∷ []; p = 2; links = 1 ∷ []; budget = 1; refusal = 19; exponents = []; cost = 0; distance = 0; priced = 0 }
    ∷ record { lengths = 4 ∷ 3 ∷ []; p = 2; links = 1 ∷ 1 ∷ 1 ∷ []; budget = 1; refusal = 19; exponents = []; cost = 0; distance = 0; priced = 0 }
    ∷ []

-- refused for the first of two: 3 before 4, 5, 6, 18 and 19, then 4 before 5, 6, 18 and 19
unfoldable pub before_six : List Row
before_six =
    record { lengths = 0 ∷ 0 ∷ 0 ∷ 0 ∷ 0 ∷ 0 ∷ 0 ∷ 0 ∷ 0 ∷ []; p = 0; links = 1 ∷ 1 ∷ 1 ∷ 1 ∷ 1 ∷ 1 ∷ 1 ∷ 1 ∷ 1 ∷ []; budget = 1; refusal = 3; exponents = []; cost = 0; distance = 0; priced = 0 }
    ∷ record { lengths = 8 ∷ 8 ∷ 8 ∷ 8 ∷ 8 ∷ 8 ∷ 8 ∷ 8 ∷ 8 ∷ []; p = 0; links = 1 ∷ 1 ∷ 1 ∷ 1 ∷ 1 ∷ 1 ∷ 1 ∷ 1 ∷ 1 ∷ []; budget = 1; refusal = 3; exponents = []; cost = 0; distance = 0; priced = 0 }
    ∷ record { lengths = []; p = 11; links = []; budget = 1; refusal = 3; exponents = []; cost = 0; distance = 0; priced = 0 }
    ∷ record { lengths = []; p = 0; links = []; budget = 0; refusal = 3; exponents = []; cost = 0; distance = 0; priced = 0 }
    ∷ record { lengths = []; p = 0; links = 1 ∷ []; budget = 1; refusal = 3; exponents = []; cost = 0; distance = 0; priced = 0 }
    ∷ record { lengths = 65536 ∷ 257 ∷ []; p = 0; links = 1 ∷ 1 ∷ []; budget = 1; refusal = 4; exponents = []; cost = 0; distance = 0; priced = 0 }
    ∷ record { lengths = 2 ∷ 0 ∷ []; p = 11; links = 1 ∷ 1 ∷ []; budget = 1; refusal = 4; exponents = []; cost = 0; distance = 0; priced = 0 }
    ∷ record { lengths = 2 ∷ 0 ∷ []; p = 0; links = 1 ∷ 1 ∷ []; budget = 0; refusal = 4; exponents = []; cost = 0; distance = 0; priced = 0 }
    ∷ record { lengths = 2 ∷ 0 ∷ []; p = 0; links = 1 ∷ 0 ∷ []; budget = 1; refusal = 4; exponents = []; cost = 0; distance = 0; priced = 0 }
    ∷ []

-- 5 before 6, 18 and 19, 6 before 18 and 19, 18 before 19, and all at once
unfoldable pub from_five_on : List Row
from_five_on =
    record { lengths = 4096 ∷ 4097 ∷ []; p = 11; links = 1 ∷ 1 ∷ []; budget = 1; refusal = 5; exponents = []; cost = 0; distance = 0; priced = 0 }
    ∷ record { lengths = 4096 ∷ 4097 ∷ []; p = 1; links = 1 ∷ 1 ∷ []; budget = 0; refusal = 5; exponents = []; cost = 0; distance = 0; priced = 0 }
    ∷ record { lengths = 4096 ∷ 4097 ∷ []; p = 1; links = 1 ∷ []; budget = 1; refusal = 5; exponents = []; cost = 0; distance = 0; priced = 0 }
    ∷ record { lengths = 4 ∷ 3 ∷ []; p = 11; links = 1 ∷ 1 ∷ []; budget = 0; refusal = 6; exponents = []; cost = 0; distance = 0; priced = 0 }
    ∷ record { lengths = 4 ∷ 3 ∷ []; p = 11; links = 1 ∷ 1001 ∷ []; budget = 1; refusal = 6; exponents = []; cost = 0; distance = 0; priced = 0 }
    ∷ record { lengths = 4 ∷ 3 ∷ []; p = 2; links = 0 ∷ 1 ∷ []; budget = 0; refusal = 18; exponents = []; cost = 0; distance = 0; priced = 0 }
    ∷ record { lengths = 4 ∷ 3 ∷ []; p = 2; links = 1 ∷ 1 ∷ 1 ∷ []; budget = 0; refusal = 18; exponents = []; cost = 0; distance = 0; priced = 0 }
    ∷ record { lengths = 4 ∷ 3 ∷ []; p = 255; links = 1 ∷ []; budget = 0; refusal = 6; exponents = []; cost = 0; distance = 0; priced = 0 }
    ∷ record { lengths = 65536 ∷ 65536 ∷ 65536 ∷ 65536 ∷ 65536 ∷ 65536 ∷ 65536 ∷ 65536 ∷ 65536 ∷ []; p = 11; links = 0 ∷ []; budget = 0; refusal = 3; exponents = []; cost = 0; distance = 0; priced = 0 }
    ∷ []
