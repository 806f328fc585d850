-- Small plans with their steps, and what each board holds at each position. Written by `compare table steps`.
use Prim.Native.Nat.{ℕ}
use mathlib.Core.List.{List, [], ◌∷◌}
use Rattle.plan_spec.specs.Plans.{PlanLists}
use Rattle.rack_spec.specs.Answers.{Told, expands, transfers, finishes}

-- `held` has a list for each board, from position 0 to T
pub record Case : Type 0 where
  pub plan : PlanLists
  pub steps : List Told
  pub held : List (List ℕ)

-- one axis cut unevenly
unfoldable pub one_axis : Case
one_axis = record { plan = record { lengths = 6 ∷ []; order = 0 ∷ []; exponents = 2 ∷ []; p = 2 }; steps = expands 1 ∷ transfers 1 0 0 1 ∷ transfers 2 0 0 1 ∷ transfers 3 0 0 1 ∷ finishes 0 ∷ []; held = (0 ∷ 1 ∷ 1 ∷ 1 ∷ 1 ∷ 0 ∷ []) ∷ (0 ∷ 1 ∷ 1 ∷ 1 ∷ 1 ∷ 0 ∷ []) ∷ (0 ∷ 1 ∷ 1 ∷ 1 ∷ 1 ∷ 0 ∷ []) ∷ (0 ∷ 1 ∷ 1 ∷ 1 ∷ 1 ∷ 0 ∷ []) ∷ [] }

-- the longer axis second
unfoldable pub longer_axis_second : Case
longer_axis_second = record { plan = record { lengths = 3 ∷ 5 ∷ []; order = 1 ∷ 0 ∷ []; exponents = 0 ∷ 1 ∷ []; p = 1 }; steps = expands 3 ∷ finishes 2 ∷ transfers 1 0 1 3 ∷ expands 1 ∷ finishes 0 ∷ finishes 1 ∷ []; held = (0 ∷ 6 ∷ 3 ∷ 3 ∷ 4 ∷ 3 ∷ 0 ∷ []) ∷ (0 ∷ 5 ∷ 3 ∷ 3 ∷ 3 ∷ 3 ∷ 0 ∷ []) ∷ [] }

-- shortest axis first, both split
unfoldable pub both_split : Case
both_split = record { plan = record { lengths = 3 ∷ 2 ∷ []; order = 1 ∷ 0 ∷ []; exponents = 1 ∷ 1 ∷ []; p = 2 }; steps = expands 3 ∷ transfers 1 0 2 1 ∷ transfers 3 2 2 1 ∷ finishes 2 ∷ transfers 2 0 1 2 ∷ transfers 3 1 1 1 ∷ expands 1 ∷ transfers 1 0 0 1 ∷ finishes 0 ∷ finishes 1 ∷ []; held = (0 ∷ 3 ∷ 3 ∷ 3 ∷ 2 ∷ 2 ∷ 2 ∷ 3 ∷ 3 ∷ 2 ∷ 0 ∷ []) ∷ (0 ∷ 2 ∷ 2 ∷ 2 ∷ 1 ∷ 1 ∷ 1 ∷ 2 ∷ 2 ∷ 1 ∷ 0 ∷ []) ∷ (0 ∷ 3 ∷ 3 ∷ 3 ∷ 2 ∷ 2 ∷ 2 ∷ 2 ∷ 2 ∷ 2 ∷ 0 ∷ []) ∷ (0 ∷ 2 ∷ 2 ∷ 2 ∷ 1 ∷ 1 ∷ 1 ∷ 1 ∷ 1 ∷ 1 ∷ 0 ∷ []) ∷ [] }

-- an axis cut unevenly, and the last one
unfoldable pub uneven : Case
uneven = record { plan = record { lengths = 7 ∷ 2 ∷ []; order = 0 ∷ 1 ∷ []; exponents = 2 ∷ 1 ∷ []; p = 3 }; steps = expands 3 ∷ transfers 1 0 1 2 ∷ transfers 3 2 1 2 ∷ transfers 5 4 1 2 ∷ transfers 7 6 1 1 ∷ finishes 1 ∷ transfers 2 0 2 1 ∷ transfers 4 0 2 1 ∷ transfers 6 0 2 1 ∷ transfers 3 1 2 1 ∷ transfers 5 1 2 1 ∷ transfers 7 1 2 1 ∷ expands 2 ∷ transfers 1 0 0 1 ∷ finishes 0 ∷ finishes 2 ∷ []; held = (0 ∷ 3 ∷ 3 ∷ 3 ∷ 3 ∷ 3 ∷ 1 ∷ 1 ∷ 1 ∷ 1 ∷ 1 ∷ 1 ∷ 1 ∷ 2 ∷ 2 ∷ 1 ∷ 0 ∷ []) ∷ (0 ∷ 3 ∷ 3 ∷ 3 ∷ 3 ∷ 3 ∷ 1 ∷ 1 ∷ 1 ∷ 1 ∷ 1 ∷ 1 ∷ 1 ∷ 2 ∷ 2 ∷ 1 ∷ 0 ∷ []) ∷ (0 ∷ 3 ∷ 3 ∷ 3 ∷ 3 ∷ 3 ∷ 1 ∷ 1 ∷ 1 ∷ 1 ∷ 1 ∷ 1 ∷ 1 ∷ 1 ∷ 1 ∷ 1 ∷ 0 ∷ []) ∷ (0 ∷ 3 ∷ 3 ∷ 3 ∷ 3 ∷ 3 ∷ 1 ∷ 1 ∷ 1 ∷ 1 ∷ 1 ∷ 1 ∷ 1 ∷ 1 ∷ 1 ∷ 1 ∷ 0 ∷ []) ∷ (0 ∷ 3 ∷ 3 ∷ 3 ∷ 3 ∷ 3 ∷ 1 ∷ 1 ∷ 1 ∷ 1 ∷ 1 ∷ 1 ∷ 1 ∷ 1 ∷ 1 ∷ 1 ∷ 0 ∷ []) ∷ (0 ∷ 3 ∷ 3 ∷ 3 ∷ 3 ∷ 3 ∷ 1 ∷ 1 ∷ 1 ∷ 1 ∷ 1 ∷ 1 ∷ 1 ∷ 1 ∷ 1 ∷ 1 ∷ 0 ∷ []) ∷ (0 ∷ 2 ∷ 2 ∷ 2 ∷ 2 ∷ 2 ∷ 1 ∷ 1 ∷ 1 ∷ 1 ∷ 1 ∷ 1 ∷ 1 ∷ 1 ∷ 1 ∷ 1 ∷ 0 ∷ []) ∷ (0 ∷ 2 ∷ 2 ∷ 2 ∷ 2 ∷ 2 ∷ 1 ∷ 1 ∷ 1 ∷ 1 ∷ 1 ∷ 1 ∷ 1 ∷ 1 ∷ 1 ∷ 1 ∷ 0 ∷ []) ∷ [] }

-- two spare points among four portions
unfoldable pub spare_two : Case
spare_two = record { plan = record { lengths = 6 ∷ 2 ∷ []; order = 1 ∷ 0 ∷ []; exponents = 2 ∷ 1 ∷ []; p = 3 }; steps = expands 3 ∷ transfers 1 0 2 1 ∷ transfers 2 0 2 1 ∷ transfers 3 0 2 1 ∷ transfers 5 4 2 1 ∷ transfers 6 4 2 1 ∷ transfers 7 4 2 1 ∷ finishes 2 ∷ transfers 4 0 1 2 ∷ transfers 5 1 1 2 ∷ transfers 6 2 1 1 ∷ transfers 7 3 1 1 ∷ expands 1 ∷ transfers 1 0 0 1 ∷ transfers 2 0 0 1 ∷ transfers 3 0 0 1 ∷ finishes 0 ∷ finishes 1 ∷ []; held = (0 ∷ 3 ∷ 3 ∷ 3 ∷ 3 ∷ 3 ∷ 3 ∷ 3 ∷ 2 ∷ 2 ∷ 2 ∷ 2 ∷ 2 ∷ 3 ∷ 3 ∷ 3 ∷ 3 ∷ 2 ∷ 0 ∷ []) ∷ (0 ∷ 3 ∷ 3 ∷ 3 ∷ 3 ∷ 3 ∷ 3 ∷ 3 ∷ 2 ∷ 2 ∷ 2 ∷ 2 ∷ 2 ∷ 3 ∷ 3 ∷ 3 ∷ 3 ∷ 2 ∷ 0 ∷ []) ∷ (0 ∷ 2 ∷ 2 ∷ 2 ∷ 2 ∷ 2 ∷ 2 ∷ 2 ∷ 1 ∷ 1 ∷ 1 ∷ 1 ∷ 1 ∷ 2 ∷ 2 ∷ 2 ∷ 2 ∷ 1 ∷ 0 ∷ []) ∷ (0 ∷ 2 ∷ 2 ∷ 2 ∷ 2 ∷ 2 ∷ 2 ∷ 2 ∷ 1 ∷ 1 ∷ 1 ∷ 1 ∷ 1 ∷ 2 ∷ 2 ∷ 2 ∷ 2 ∷ 1 ∷ 0 ∷ []) ∷ (0 ∷ 3 ∷ 3 ∷ 3 ∷ 3 ∷ 3 ∷ 3 ∷ 3 ∷ 2 ∷ 2 ∷ 2 ∷ 2 ∷ 2 ∷ 2 ∷ 2 ∷ 2 ∷ 2 ∷ 2 ∷ 0 ∷ []) ∷ (0 ∷ 3 ∷ 3 ∷ 3 ∷ 3 ∷ 3 ∷ 3 ∷ 3 ∷ 2 ∷ 2 ∷ 2 ∷ 2 ∷ 2 ∷ 2 ∷ 2 ∷ 2 ∷ 2 ∷ 2 ∷ 0 ∷ []) ∷ (0 ∷ 2 ∷ 2 ∷ 2 ∷ 2 ∷ 2 ∷ 2 ∷ 2 ∷ 1 ∷ 1 ∷ 1 ∷ 1 ∷ 1 ∷ 1 ∷ 1 ∷ 1 ∷ 1 ∷ 1 ∷ 0 ∷ []) ∷ (0 ∷ 2 ∷ 2 ∷ 2 ∷ 2 ∷ 2 ∷ 2 ∷ 2 ∷ 1 ∷ 1 ∷ 1 ∷ 1 ∷ 1 ∷ 1 ∷ 1 ∷ 1 ∷ 1 ∷ 1 ∷ 0 ∷ []) ∷ [] }

-- one board, three axes
unfoldable pub undivided : Case
undivided = record { plan = record { lengths = 2 ∷ 3 ∷ 2 ∷ []; order = 1 ∷ 2 ∷ 0 ∷ []; exponents = 0 ∷ 0 ∷ 0 ∷ []; p = 0 }; steps = expands 7 ∷ finishes 6 ∷ expands 3 ∷ finishes 2 ∷ finishes 3 ∷ expands 5 ∷ finishes 4 ∷ expands 1 ∷ finishes 0 ∷ finishes 1 ∷ finishes 5 ∷ []; held = (0 ∷ 16 ∷ 10 ∷ 13 ∷ 10 ∷ 4 ∷ 8 ∷ 6 ∷ 7 ∷ 6 ∷ 4 ∷ 0 ∷ []) ∷ [] }

-- the last and the first axis split
unfoldable pub three_axes : Case
three_axes = record { plan = record { lengths = 2 ∷ 3 ∷ 3 ∷ []; order = 2 ∷ 0 ∷ 1 ∷ []; exponents = 0 ∷ 1 ∷ 1 ∷ []; p = 2 }; steps = expands 7 ∷ transfers 1 0 5 4 ∷ transfers 3 2 5 2 ∷ finishes 5 ∷ expands 6 ∷ transfers 1 0 4 2 ∷ transfers 3 2 4 1 ∷ finishes 4 ∷ finishes 6 ∷ transfers 2 0 3 4 ∷ transfers 3 1 3 2 ∷ expands 3 ∷ transfers 1 0 1 2 ∷ finishes 1 ∷ expands 2 ∷ transfers 1 0 0 1 ∷ finishes 0 ∷ finishes 2 ∷ finishes 3 ∷ []; held = (0 ∷ 12 ∷ 12 ∷ 12 ∷ 8 ∷ 10 ∷ 10 ∷ 10 ∷ 8 ∷ 4 ∷ 4 ∷ 4 ∷ 8 ∷ 8 ∷ 6 ∷ 7 ∷ 7 ∷ 6 ∷ 4 ∷ 0 ∷ []) ∷ (0 ∷ 8 ∷ 8 ∷ 8 ∷ 4 ∷ 6 ∷ 6 ∷ 6 ∷ 4 ∷ 2 ∷ 2 ∷ 2 ∷ 5 ∷ 5 ∷ 3 ∷ 4 ∷ 4 ∷ 3 ∷ 2 ∷ 0 ∷ []) ∷ (0 ∷ 8 ∷ 8 ∷ 8 ∷ 6 ∷ 7 ∷ 7 ∷ 7 ∷ 6 ∷ 4 ∷ 4 ∷ 4 ∷ 4 ∷ 4 ∷ 4 ∷ 4 ∷ 4 ∷ 4 ∷ 4 ∷ 0 ∷ []) ∷ (0 ∷ 5 ∷ 5 ∷ 5 ∷ 3 ∷ 4 ∷ 4 ∷ 4 ∷ 3 ∷ 2 ∷ 2 ∷ 2 ∷ 2 ∷ 2 ∷ 2 ∷ 2 ∷ 2 ∷ 2 ∷ 2 ∷ 0 ∷ []) ∷ [] }

unfoldable pub cases : List Case
unfolding one_axis longer_axis_second both_split uneven spare_two undivided three_axes
cases = one_axis ∷ longer_axis_second ∷ both_split ∷ uneven ∷ spare_two ∷ undivided ∷ three_axes ∷ []
