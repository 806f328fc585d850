-- The list of divisions has exactly the divisions, each once, ascending.
use Prim.Native.Nat.{ℕ, zero, suc, ◌+◌, ◌-◌, ◌^◌, ◌≤◌, ◌<◌, min}
use mathlib.Core.Path.{◌≡◌, ◌∙◌, ap, sym, refl, subst}
use mathlib.Core.Bool.{true}
use mathlib.Core.Logic.{◌⊎◌, inl, inr}
use mathlib.Core.List.Memᴰ
use mathlib.Core.List.{List, [], ◌∷◌, ◌++◌, Memᴰ}
use native.Mathlib.Omega.{arith}
use native.Mathlib.Decide.{dec_le}
use native.Mathlib.Nat.{le_trans}
use lib.Dec.{eqb}
use lib.ListN.{length, get_or}
use lib.Pow.{pow_mono}
use borrow.Author.Tests.{eqb-true}
use Rattle.cube_spec.specs.Choices.{length_of}
use Rattle.cube_spec.specs.Ways.{Division, sum_list, log2}
use Rattle.cube_spec.proofs.Sums.{by}
use Rattle.plan_spec.proofs.Room.{log2_fit, log2_most}
use Rattle.link_spec.specs.Divisions.{chained, headed, divisions, Before, less, same, Listing}

-- ---- elements of a list, and their places

abbrev pub In : {A : Type 0} → A → List A → Type 0
In x l = Memᴰ x l

module _ {A : Type 0} where
  pub at_in : (l : List A) (i : ℕ) (z : A) → i < length l → In (get_or l i z) l
  at_in [] i z h = absurd (omega arith)
  at_in (x ∷ l) zero z h = Memᴰ.head refl
  at_in (x ∷ l) (suc i) z h = Memᴰ.tail (at_in l i z (omega arith))

  pub in_at : {x : A} {l : List A} (z : A) → In x l → (i : ℕ) × (i < length l) × (get_or l i z ≡ x)
  in_at z (Memᴰ.head e) = (0, omega arith, sym e)
  in_at z (Memᴰ.tail m) = let (i, h, e) = in_at z m in (suc i, omega arith, e)

  chained_in : {x : A} (n k : ℕ) (f : ℕ → List A) → k < n → In x (f k) → In x (chained n f)
  unfolding chained
  chained_in zero k f h m = absurd (omega arith)
  chained_in {x} (suc n) k f h m = go (dec_le (suc k) n) (λ l. chained_in n k f l m)
    where
      go : Dec (suc k ≤ n) → (suc k ≤ n → In x (chained n f)) → In x (chained n f ++ f n)
      go (yes l) i = Memᴰ.append_left (f n) (i l)
      go (no l) i = Memᴰ.append_right (chained n f) (let e : n ≡ k = omega arith in rw e m)

  chained_of : {x : A} (n : ℕ) (f : ℕ → List A) → In x (chained n f) → (k : ℕ) × (k < n) × In x (f k)
  unfolding chained
  chained_of zero f m = absurd (Memᴰ.not-nil m)
  chained_of {x} (suc n) f m = go (Memᴰ.append_cases (chained n f) m) (λ r. chained_of n f r)
    where
      go : In x (chained n f) ⊎ In x (f n) → (In x (chained n f) → (k : ℕ) × (k < n) × In x (f k)) → (k : ℕ) × (k < suc n) × In x (f k)
      go (inl r) i = let (k, h, q) = i r in (k, omega arith, q)
      go (inr r) i = (n, omega arith, r)

headed_in : (k : ℕ) {e : List ℕ} {l : List (List ℕ)} → In e l → In (k ∷ e) (headed k l)
unfolding headed
headed_in k (Memᴰ.head q) = Memᴰ.head (ap (λ (x : List ℕ). k ∷ x) q)
headed_in k (Memᴰ.tail m) = Memᴰ.tail (headed_in k m)

headed_of : (k : ℕ) {x : List ℕ} (l : List (List ℕ)) → In x (headed k l) → (e : List ℕ) × (x ≡ k ∷ e) × In e l
unfolding headed
headed_of k [] m = absurd (Memᴰ.not-nil m)
headed_of k {x} (e ∷ l) m = go (Memᴰ.cases_cons m) (λ r. headed_of k l r)
  where
    go : (x ≡ k ∷ e) ⊎ In x (headed k l) → (In x (headed k l) → (e : List ℕ) × (x ≡ k ∷ e) × In e l) → (f : List ℕ) × (x ≡ k ∷ f) × In f (e ∷ l)
    go (inl q) i = (e, q, Memᴰ.head refl)
    go (inr r) i = let (f, q, n) = i r in (f, q, Memᴰ.tail n)

-- ---- exactly the divisions

-- exponents that divide: what `Division` says of its exponents
pub record Divides (ds : List ℕ) (p : ℕ) (ks : List ℕ) : Type 0 where
  pub each : length ks ≡ length ds
  pub fits : (d : ℕ) → d < length ds → 2 ^ get_or ks d 0 ≤ length_of ds d
  pub sums : sum_list ks ≡ p

pub divides_in : (ds ks : List ℕ) (p : ℕ) → Divides ds p ks → In ks (divisions ds p)
unfolding divisions
divides_in [] [] p h = let e : p ≡ 0 = sym h.sums ∙ (unfold sum_list in refl) in rw e (Memᴰ.head refl)
divides_in [] (k ∷ ks) p h = absurd (let e = h.each in omega arith)
divides_in (d ∷ ds) [] p h = absurd (let e = h.each in omega arith)
divides_in (d ∷ ds) (k ∷ ks) p h =
    let s : k + sum_list ks ≡ p = (unfold sum_list in h.sums) in
    let m = log2_most d k (h.fits 0 (omega arith)) in
    chained_in (suc (min p (log2 d))) k _ (omega arith)
    (headed_in k
    (divides_in ds ks (p - k)
    (record { each = let e = h.each in omega arith; fits = λ i l. h.fits (suc i) (omega arith); sums = omega arith })))

cons_divides : (d : ℕ) (ds : List ℕ) (p k : ℕ) (ks : List ℕ) → 1 ≤ d → k ≤ p → k ≤ log2 d → Divides ds (p - k) ks → Divides (d ∷ ds) p (k ∷ ks)
cons_divides d ds p k ks pos l m h =
    record { each = let e = h.each in omega arith; fits = fits; sums = unfold sum_list in (let s = h.sums in omega arith) }
  where
    fits : (i : ℕ) → i < suc (length ds) → 2 ^ get_or (k ∷ ks) i 0 ≤ length_of (d ∷ ds) i
    fits zero q = le_trans (pow_mono m) (log2_fit d pos)
    fits (suc i) q = h.fits i (omega arith)

pub in_divides : (ds : List ℕ) (p : ℕ) {ks : List ℕ} → ((d : ℕ) → d < length ds → 1 ≤ length_of ds d) → In ks (divisions ds p) → Divides ds p ks
unfolding divisions
in_divides [] p {ks} pos m = by (eqb p 0) (λ t. none t (rw t at m)) (λ t. absurd (Memᴰ.not-nil (rw t at m)))
  where
    none : eqb p 0 ≡ true → In ks ([] ∷ []) → Divides [] p ks
    none t n = go (Memᴰ.cases_cons n)
      where
        go : (ks ≡ []) ⊎ In ks [] → Divides [] p ks
        go (inr r) = absurd (Memᴰ.not-nil r)
        go (inl e) =
            rw e (record { each = refl; fits = λ d l. absurd (omega arith); sums = (unfold sum_list in (let q = eqb-true p 0 t in omega arith)) })
in_divides (d ∷ ds) p {ks} pos m =
    let (k, l, n) = chained_of (suc (min p (log2 d))) (λ k. headed k (divisions ds (p - k))) m in
    let (e, q, r) = headed_of k (divisions ds (p - k)) n in
    rw q (cons_divides d ds p k e (pos 0 (omega arith)) (omega arith) (omega arith) (in_divides ds (p - k) (λ j h. pos (suc j) (omega arith)) r))

-- ---- ascending

-- each comes before all that follow
Rising : List (List ℕ) → Type 0
Rising [] = Unit {0}
Rising (x ∷ l) = ((y : List ℕ) → In y l → Before x y) × Rising l

rising_append : (a b : List (List ℕ)) → Rising a → Rising b → ((x y : List ℕ) → In x a → In y b → Before x y) → Rising (a ++ b)
unfolding Rising
rising_append [] b f g h = g
rising_append (x ∷ a) b f g h = (λ y m. go y (Memᴰ.append_cases a m), rising_append a b f.1 g (λ u v m n. h u v (Memᴰ.tail m) n))
  where
    go : (y : List ℕ) → In y a ⊎ In y b → Before x y
    go y (inl m) = f.0 y m
    go y (inr m) = h x y (Memᴰ.head refl) m

rising_headed : (k : ℕ) (l : List (List ℕ)) → Rising l → Rising (headed k l)
unfolding Rising headed
rising_headed k [] f = tt
rising_headed k (e ∷ l) f =
    (λ y m. let (g, q, n) = headed_of k l m in subst (Before (k ∷ e)) (sym q) (same (f.0 g n)), rising_headed k l f.1)

module _ (f : ℕ → List (List ℕ)) (each : (k : ℕ) → Rising (f k)) (between : (j k : ℕ) (x y : List ℕ) → j < k → In x (f j) → In y (f k) → Before x y) where
  rising_chained : (n : ℕ) → Rising (chained n f)
  unfolding chained Rising
  rising_chained zero = tt
  rising_chained (suc n) =
      rising_append (chained n f) (f n) (rising_chained n) (each n)
      (λ x y m r. let (k, l, q) = chained_of n f m in between k n x y l q r)

rising : (ds : List ℕ) (p : ℕ) → Rising (divisions ds p)
unfolding divisions
rising [] p = by (eqb p 0) (λ t. rw t (unfold Rising in (λ y m. absurd (Memᴰ.not-nil m), tt))) (λ t. rw t (unfold Rising in tt))
rising (d ∷ ds) p =
    rising_chained (λ k. headed k (divisions ds (p - k))) (λ k. rising_headed k (divisions ds (p - k)) (rising ds (p - k)))
    (λ j k x y l m n.
    let (a, q, _) = headed_of j (divisions ds (p - j)) m in
    let (b, r, _) = headed_of k (divisions ds (p - k)) n in
    rw (q, r) (less l))
    (suc (min p (log2 d)))

rising_at : (l : List (List ℕ)) → Rising l → (i j : ℕ) → i < j → j < length l → Before (get_or l i []) (get_or l j [])
unfolding Rising
rising_at [] f i j h k = absurd (omega arith)
rising_at (x ∷ l) f i zero h k = absurd (omega arith)
rising_at (x ∷ l) f zero (suc j) h k = f.0 _ (at_in l j [] (omega arith))
rising_at (x ∷ l) f (suc i) (suc j) h k = rising_at l f.1 i j (omega arith) (omega arith)

-- nothing comes before itself, so none stands twice
pub before_other : {a b : List ℕ} → Before a b → a ≡ b → ⊥
before_other (less {j} {k} h) e = let q : j ≡ k = cc in omega arith
before_other (same h) e = before_other h (cc)

-- ---- in one statement

pub division_of : {ds ks : List ℕ} {p : ℕ} → Divides ds p ks → Division ds p
division_of {ds} {ks} {p} h = record { exponents = ks; each = h.each; fits = h.fits; sums = h.sums }

pub of_division : {ds : List ℕ} {p : ℕ} (e : Division ds p) → Divides ds p e.exponents
of_division e = record { each = e.each; fits = e.fits; sums = e.sums }

-- THE LIST HAS EXACTLY THE DIVISIONS, EACH ONCE, ASCENDING
pub listing : (ds : List ℕ) (p : ℕ) → ((d : ℕ) → d < length ds → 1 ≤ length_of ds d) → Listing ds p (divisions ds p)
listing ds p pos =
    record {
      each = λ i l. (division_of (in_divides ds p pos (at_in (divisions ds p) i [] l)), unfold division_of in refl);
      all = λ e. in_at [] (divides_in ds e.exponents p (of_division e));
      ascending = rising_at (divisions ds p) (rising ds p);
    }
