-- The list of divisions, one from the other: the first is the filled one, each is followed by its next, and the last has none.
use Prim.Native.Nat.{ℕ, zero, suc, ◌+◌, ◌-◌, ◌≤◌, ◌<◌, min}
use mathlib.Core.Path.{◌≡◌, ◌∙◌, ap, sym, refl}
use mathlib.Core.Bool.{Bool, true, false, ◌&&◌}
use mathlib.Core.List.Memᴰ
use mathlib.Core.List.{List, [], ◌∷◌, ◌++◌}
use mathlib.Core.Option.{Option, none, some}
use native.Mathlib.Omega.{arith}
use native.Mathlib.Decide.{dec_le}
use lib.Dec.{ltb}
use lib.ListN.{length}
use borrow.Author.Tests.{lt-ltb, le-ltb, ne_eqb}
use Rattle.cube_spec.specs.Boxes.{pick}
use Rattle.cube_spec.specs.Choices.{length_of}
use Rattle.cube_spec.specs.Ways.{sum_list, log2, room}
use Rattle.link_spec.specs.Divisions.{chained, headed, divisions}
use Rattle.link_spec.specs.Stepping.{caps_of, filled, raised_or, next_of}
use Rattle.link_spec.proofs.Listing.{In, in_divides}

pub caps_room : (ds : List ℕ) → sum_list (caps_of ds) ≡ room ds
unfolding caps_of sum_list room
caps_room [] = refl
caps_room (d ∷ ds) = ap (λ (x : ℕ). log2 d + x) (caps_room ds)

-- the first of a list, or what comes after it
unfoldable pub head_or : List (List ℕ) → Option (List ℕ) → Option (List ℕ)
head_or [] z = z
head_or (e ∷ l) z = some e

-- each is followed by its next, and the last by z
unfoldable pub Follows : List ℕ → List (List ℕ) → Option (List ℕ) → Type 0
Follows cs [] z = Unit {0}
Follows cs (e ∷ l) z = (next_of cs e ≡ head_or l z) × Follows cs l z

head_append : (a b : List (List ℕ)) (z : Option (List ℕ)) → head_or (a ++ b) z ≡ head_or a (head_or b z)
unfolding head_or
head_append [] b z = refl
head_append (e ∷ a) b z = refl

follows_append : (cs : List ℕ) (a b : List (List ℕ)) (z : Option (List ℕ)) → Follows cs a (head_or b z) → Follows cs b z → Follows cs (a ++ b) z
unfolding Follows
follows_append cs [] b z f g = g
follows_append cs (e ∷ a) b z f g = (f.0 ∙ sym (head_append a b z), follows_append cs a b z f.1 g)

-- where too much is asked, there are none
chained_none : {A : Type 0} (n : ℕ) (f : ℕ → List A) → ((k : ℕ) → k < n → f k ≡ []) → chained n f ≡ []
unfolding chained
chained_none zero f h = refl
chained_none (suc n) f h = rw (chained_none n f (λ k l. h k (omega arith)), h n (omega arith))

pub divisions_none : (ds : List ℕ) (q : ℕ) → room ds < q → divisions ds q ≡ []
unfolding divisions room
divisions_none [] q h = rw (ne_eqb q 0 (λ e. omega arith))
divisions_none (d ∷ ds) q h =
    chained_none (suc (min q (log2 d))) (λ k. headed k (divisions ds (q - k)))
    (λ k l. ap (headed k) (divisions_none ds (q - k) (omega arith)) ∙ (unfold headed in refl))

-- what follows the last, where the other axes have no next division and q between them
after : ℕ → List ℕ → ℕ → ℕ → Option (List ℕ)
after c cs k q = pick (ltb 0 q && ltb k c) (some (suc k ∷ filled cs (q - 1))) none

follows_headed : (c : ℕ) (cs : List ℕ) (k q : ℕ) (l : List (List ℕ)) → ((e : List ℕ) → In e l → sum_list e ≡ q) → Follows cs l none → Follows (c ∷ cs) (headed k l) (after c cs k q)
unfolding Follows headed next_of
follows_headed c cs k q [] s f = tt
follows_headed c cs k q (e ∷ l) s f =
    (ap (raised_or c cs k e) f.0 ∙ go l, follows_headed c cs k q l (λ e m. s e (Memᴰ.tail m)) f.1)
  where
    go : (l : List (List ℕ)) → raised_or c cs k e (head_or l none) ≡ head_or (headed k l) (after c cs k q)
    go [] = unfold raised_or head_or headed after in (rw (s e (Memᴰ.head refl)))
    go (r ∷ l) = unfold raised_or head_or headed in refl

head_headed : (k : ℕ) (l : List (List ℕ)) (e : List ℕ) (z : Option (List ℕ)) → head_or l none ≡ some e → head_or (headed k l) z ≡ some (k ∷ e)
unfolding head_or headed
head_headed k [] e z h = absurd (let x : ◌≡◌ {A = ℕ} 0 1 = cc in omega arith)
head_headed k (x ∷ l) e z h = ap {B = Option (List ℕ)} some (ap (λ (y : List ℕ). k ∷ y) (cc))

-- the first axis has a block for each exponent
module _ (d : ℕ) (ds : List ℕ) (p : ℕ) (enough : p ≤ log2 d + room ds)
    (heads : (q : ℕ) → q ≤ room ds → head_or (divisions ds q) none ≡ some (filled (caps_of ds) q))
    (chains : (q : ℕ) → q ≤ room ds → Follows (caps_of ds) (divisions ds q) none)
    (sums : (q : ℕ) (e : List ℕ) → In e (divisions ds q) → sum_list e ≡ q) where
  block : ℕ → List (List ℕ)
  block k = headed k (divisions ds (p - k))

  -- the blocks before the first that has any
  empty_block : (k : ℕ) → room ds < p - k → block k ≡ []
  unfolding block headed
  empty_block k h = rw (divisions_none ds (p - k) h)

  empty_blocks : (n : ℕ) → room ds < p - n → chained (suc n) block ≡ []
  empty_blocks n h = chained_none (suc n) block (λ k l. empty_block k (omega arith))

  block_head : (k : ℕ) (z : Option (List ℕ)) → p - k ≤ room ds → head_or (block k) z ≡ some (k ∷ filled (caps_of ds) (p - k))
  unfolding block
  block_head k z h = head_headed k (divisions ds (p - k)) (filled (caps_of ds) (p - k)) z (heads (p - k) h)

  block_follows : (k : ℕ) → p - k ≤ room ds → Follows (log2 d ∷ caps_of ds) (block k) (after (log2 d) (caps_of ds) k (p - k))
  unfolding block
  block_follows k h = follows_headed (log2 d) (caps_of ds) k (p - k) (divisions ds (p - k)) (sums (p - k)) (chains (p - k) h)

  -- a block that is not the last is followed by the head of the next
  after_block : (k : ℕ) → k < min p (log2 d) → after (log2 d) (caps_of ds) k (p - k) ≡ some (suc k ∷ filled (caps_of ds) (p - suc k))
  unfolding after
  after_block k h = let q : p - k - 1 ≡ p - suc k = omega arith in rw (lt-ltb 0 (p - k) (omega arith), lt-ltb k (log2 d) (omega arith), q)

  after_last : after (log2 d) (caps_of ds) (min p (log2 d)) (p - min p (log2 d)) ≡ none
  unfolding after
  after_last = go (dec_le p (log2 d))
    where
      go : Dec (p ≤ log2 d) → pick (ltb 0 (p - min p (log2 d)) && ltb (min p (log2 d)) (log2 d)) (some (suc (min p (log2 d)) ∷ filled (caps_of ds) (p - min p (log2 d) - 1))) none ≡ none
      go (yes h) = rw (le-ltb 0 (p - min p (log2 d)) (omega arith))
      go (no h) = rw (le-ltb (min p (log2 d)) (log2 d) (omega arith)) (off (ltb 0 (p - min p (log2 d))))
        where
          off : (t : Bool) → pick (t && false) (some (suc (min p (log2 d)) ∷ filled (caps_of ds) (p - min p (log2 d) - 1))) none ≡ none
          off true = refl
          off false = refl

  blocks_follow : (n : ℕ) → n ≤ min p (log2 d) → Follows (log2 d ∷ caps_of ds) (chained n block) (some (n ∷ filled (caps_of ds) (p - n)))
  blocks_follow zero h = unfold chained Follows in tt
  blocks_follow (suc n) h = go (dec_le (p - n) (room ds)) (blocks_follow n (omega arith))
    where
      go : Dec (p - n ≤ room ds) → Follows (log2 d ∷ caps_of ds) (chained n block) (some (n ∷ filled (caps_of ds) (p - n)))
          → Follows (log2 d ∷ caps_of ds) (chained (suc n) block) (some (suc n ∷ filled (caps_of ds) (p - suc n)))
      go (yes l) f =
          unfold chained in
          (follows_append (log2 d ∷ caps_of ds) (chained n block) (block n) (some (suc n ∷ filled (caps_of ds) (p - suc n)))
          (rw (block_head n (some (suc n ∷ filled (caps_of ds) (p - suc n))) l) f)
          (rw (← after_block n (omega arith)) (block_follows n l)))
      go (no l) f = rw (empty_blocks n (omega arith)) (unfold Follows in tt)

  all_follow : Follows (log2 d ∷ caps_of ds) (chained (suc (min p (log2 d))) block) none
  unfolding chained
  all_follow =
      let m = min p (log2 d) in
      let l : p - min p (log2 d) ≤ room ds = omega arith in
      follows_append (log2 d ∷ caps_of ds) (chained m block) (block m) none (rw (block_head m none l) (blocks_follow m (omega arith))) (rw (← after_last) (block_follows m l))

  -- the first block that has any
  lone : (n : ℕ) (z : Option (List ℕ)) → n ≡ p - room ds → head_or (chained (suc n) block) z ≡ some (n ∷ filled (caps_of ds) (p - n))
  unfolding chained head_or
  lone n z e =
      head_append (chained n block) (block n) z
      ∙ ap (λ (l : List (List ℕ)). head_or l (head_or (block n) z)) (chained_none n block (λ k l. empty_block k (omega arith)))
      ∙ block_head n z (omega arith)

  blocks_head : (n : ℕ) → p - room ds ≤ n → (z : Option (List ℕ)) → head_or (chained (suc n) block) z ≡ some ((p - room ds) ∷ filled (caps_of ds) (p - (p - room ds)))
  unfolding chained
  blocks_head zero h z = let e : p - room ds ≡ 0 = omega arith in rw e (lone 0 z (sym e))
  blocks_head (suc n) h z = go (dec_le (p - room ds) n) (λ l. blocks_head n l (head_or (block (suc n)) z))
    where
      go : Dec (p - room ds ≤ n) → (p - room ds ≤ n → head_or (chained (suc n) block) (head_or (block (suc n)) z) ≡ some ((p - room ds) ∷ filled (caps_of ds) (p - (p - room ds))))
          → head_or (chained (suc (suc n)) block) z ≡ some ((p - room ds) ∷ filled (caps_of ds) (p - (p - room ds)))
      go (yes l) i = head_append (chained (suc n) block) (block (suc n)) z ∙ i l
      go (no l) i = let e : p - room ds ≡ suc n = omega arith in rw e (lone (suc n) z (sym e))

-- ---- the whole list

sums_of_lem : (ds : List ℕ) → ((d : ℕ) → d < length ds → 1 ≤ length_of ds d) → (q : ℕ) (e : List ℕ) → In e (divisions ds q) → sum_list e ≡ q
sums_of_lem ds pos q e m = (in_divides ds q pos m).sums

-- THE FIRST DIVISION, AND FROM EACH THE NEXT
pub divisions_chain : (ds : List ℕ) (p : ℕ) → ((d : ℕ) → d < length ds → 1 ≤ length_of ds d) → p ≤ room ds
    → (head_or (divisions ds p) none ≡ some (filled (caps_of ds) p)) × Follows (caps_of ds) (divisions ds p) none
unfolding divisions caps_of filled room block Follows next_of head_or
divisions_chain [] p pos h = let e : p ≡ 0 = omega arith in rw e (refl, (refl, tt))
divisions_chain (d ∷ ds) p pos h =
    let later : (i : ℕ) → i < length ds → 1 ≤ length_of ds i = λ i l. pos (suc i) (omega arith) in
    let e : p - (p - room ds) ≡ min p (room ds) = omega arith in
    let f : min (log2 d) (p - room ds) ≡ p - room ds = omega arith in
    let r = blocks_head d ds p h (λ q l. (divisions_chain ds q later l).0) (λ q l. (divisions_chain ds q later l).1) (sums_of_lem ds later) (min p (log2 d)) (omega arith) none in
    (rw (caps_room ds, f) (rw e at r), all_follow d ds p h (λ q l. (divisions_chain ds q later l).0) (λ q l. (divisions_chain ds q later l).1) (sums_of_lem ds later))
