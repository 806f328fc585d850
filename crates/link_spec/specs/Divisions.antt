-- The divisions of 2^p boards, as lists of exponents in axis order. `ds` are the lengths.
use Rattle.std.specs.Prelude.{ℕ, zero, suc, ◌-◌, ◌<◌, min, ◌≡◌, List, [], ◌∷◌, ◌++◌, eqb, length, get_or}
use Rattle.cube_spec.specs.Boxes.{pick}
use Rattle.cube_spec.specs.Ways.{Division, log2}
use Rattle.plan_spec.specs.Rule.{power_used}

-- the lists f 0, f 1, .. f (n - 1), one after the other
unfoldable pub chained : {A : Type 0} → ℕ → (ℕ → List A) → List A
chained zero f = []
chained (suc n) f = chained n f ++ f n

-- k in front of each
unfoldable pub headed : ℕ → List (List ℕ) → List (List ℕ)
headed k [] = []
headed k (e ∷ l) = (k ∷ e) ∷ headed k l

-- "divisions .. in ascending order of their exponents, read in axis order": the first axis takes 0, 1, .. in turn, as far as its length and p allow, each with
-- all divisions of the other axes for what is left
unfoldable pub divisions : List ℕ → ℕ → List (List ℕ)
divisions [] p = pick (eqb p 0) ([] ∷ []) []
divisions (d ∷ ds) p = chained (suc (min p (log2 d))) (λ k. headed k (divisions ds (p - k)))

-- "divisions of the boards in use (7/12)"
abbrev pub in_use : List ℕ → ℕ → List (List ℕ)
in_use ds p = divisions ds (power_used ds p)

-- "ascending": at the first axis where two differ, the one that comes before has less
pub data Before : List ℕ → List ℕ → Type 0 where
  less : {j k : ℕ} {a b : List ℕ} → j < k → Before (j ∷ a) (k ∷ b)
  same : {k : ℕ} {a b : List ℕ} → Before a b → Before (k ∷ a) (k ∷ b)

-- a list of exactly the divisions, ascending, and so each once
pub record Listing (ds : List ℕ) (p : ℕ) (l : List (List ℕ)) : Type 0 where
  pub each : (i : ℕ) → i < length l → (e : Division ds p) × (e.exponents ≡ get_or l i [])
  pub all : (e : Division ds p) → (i : ℕ) × (i < length l) × (get_or l i [] ≡ e.exponents)
  pub ascending : (i j : ℕ) → i < j → j < length l → Before (get_or l i []) (get_or l j [])
