-- Request 7/12, "7 is no longer given": by no entry of the library, which has every entry but the program. Over bytes: `never_controller` of the controller.
use Prim.Native.Nat.{ℕ}
use mathlib.Core.Path.{◌≡◌, refl}
use mathlib.Core.Bool.{true}
use mathlib.Core.List.{List}
use native.Mathlib.Omega.{arith}
use Rattle.cube_spec.specs.Checks.{Check}
use Rattle.cube_spec.proofs.Dues.{lacks, lacks_both, never}
use Rattle.plan_spec.specs.declared.types.Plan.{Plan}
use Rattle.plan_spec.specs.Refusals.{length_checks, planning_checks, plan_checks}
use Rattle.rack_spec.specs.Answers.{held_checks}
use Rattle.run_spec.specs.Entries.{step_checks, view_checks, gather_checks, gather_refusal}
use Rattle.tape_spec.specs.Reading.{scan_checks, reading_checks, reading_refusal}
use Rattle.tape_spec.proofs.Refusing.{scan_lacks}
use Rattle.controller.specs.Bytes.{asked_checks}
use Rattle.link_spec.specs.Search.{search_checks}
use Rattle.campaign_slices.specs.Lent.{lent_refusal}
use Rattle.campaign_slices.specs.Scans.{lent_scan_refusal, open_refusal}
use Rattle.campaign_slices.specs.Links.{lent_search_refusal}
use Rattle.campaign_slices.specs.Racks.{price_refusal, count_refusal, at_checks, at_refusal, hold_refusal}
use Rattle.campaign.specs.Calls.{make_refusal, idle_refusal, run_refusal, part_refusal}

-- nor by one that judges a lent slice after its own checks
never_lent : (checks : List Check) (due lent : ℕ) → lacks 7 checks ≡ true → lent_refusal checks due lent ≡ 7 → ⊥
unfolding lent_refusal lacks
never_lent checks due lent h = never 7 _ (omega arith) (lacks_both 7 checks _ h refl)

-- ---- planning, idle boards, the search over links and pricing

pub never_make : (ds : List ℕ) (p small slots cells : ℕ) → make_refusal ds p small slots cells ≡ 7 → ⊥
unfolding make_refusal planning_checks length_checks lacks
never_make ds p small slots cells = never 7 _ (omega arith) refl

pub never_idle : (bytes : List ℕ) (p lent : ℕ) → idle_refusal bytes p lent ≡ 7 → ⊥
unfolding idle_refusal asked_checks planning_checks length_checks lacks
never_idle bytes p lent = never_lent (asked_checks bytes p) 1 lent refl

pub never_search : (ds : List ℕ) (p : ℕ) (links : List ℕ) (budget lent : ℕ) → lent_search_refusal ds p links budget lent ≡ 7 → ⊥
unfolding lent_search_refusal search_checks planning_checks length_checks lacks
never_search ds p links budget lent = never_lent (search_checks ds p links budget) 11 lent refl

pub never_price : (q : Plan) (lent : ℕ) → price_refusal q lent ≡ 7 → ⊥
unfolding price_refusal plan_checks length_checks lacks
never_price q lent = never_lent (plan_checks q) 4 lent refl

-- ---- T, the step at a position, held

pub never_count : (q : Plan) (lent : ℕ) → count_refusal q lent ≡ 7 → ⊥
unfolding count_refusal plan_checks length_checks lacks
never_count q lent = never_lent (plan_checks q) 1 lent refl

pub never_at : (q : Plan) (at lent : ℕ) → at_refusal q at lent ≡ 7 → ⊥
unfolding at_refusal at_checks plan_checks length_checks lacks
never_at q at lent = never_lent (at_checks q at) 5 lent refl

pub never_hold : (q : Plan) (at b lent : ℕ) → hold_refusal q at b lent ≡ 7 → ⊥
unfolding hold_refusal held_checks plan_checks length_checks lacks
never_hold q at b lent = never_lent (held_checks q at b) 1 lent refl

-- ---- step, view, gather

pub never_run : (q : Plan) (array work at lent : ℕ) → run_refusal q array work at lent ≡ 7 → ⊥
unfolding run_refusal step_checks plan_checks length_checks lacks
never_run q array work at lent = never_lent (step_checks q array work at) 5 lent refl

pub never_part : (q : Plan) (work at b lent : ℕ) → part_refusal q work at b lent ≡ 7 → ⊥
unfolding part_refusal view_checks plan_checks length_checks lacks
never_part q work at b lent = never_lent (view_checks q work at b) 2 lent refl

pub never_gather : (q : Plan) (work at result : ℕ) → gather_refusal q work at result ≡ 7 → ⊥
unfolding gather_refusal gather_checks plan_checks length_checks lacks
never_gather q work at result = never 7 (gather_checks q work at result) (omega arith) refl

-- ---- the tape's reader

pub never_scan : (tape : List ℕ) (lent : ℕ) → lent_scan_refusal tape lent ≡ 7 → ⊥
unfolding lent_scan_refusal
never_scan tape lent = never_lent (scan_checks tape) 12 lent (scan_lacks tape)

reading_lacks : (tape : List ℕ) (array : ℕ) → lacks 7 (reading_checks tape array) ≡ true
unfolding reading_checks lacks
reading_lacks tape array = lacks_both 7 (scan_checks tape) _ (scan_lacks tape) refl

pub never_fill : (tape : List ℕ) (array : ℕ) → reading_refusal tape array ≡ 7 → ⊥
unfolding reading_refusal
never_fill tape array = never 7 (reading_checks tape array) (omega arith) (reading_lacks tape array)

pub never_open : (tape : List ℕ) (array lent : ℕ) → open_refusal tape array lent ≡ 7 → ⊥
unfolding open_refusal
never_open tape array lent = never_lent (reading_checks tape array) 12 lent (reading_lacks tape array)
